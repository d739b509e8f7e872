-- The views of this crate's types: the code's channels and rows as those of `net_rows`.
use Rattle.std.specs.Prelude.{ℕ, if◌then◌else◌}
use Rattle.net_build.specs.declared.node.Node.{Node}
use Rattle.net_rows.specs.Rows as rows
use Rattle.circuit_rows.specs.declared.row.Channel.{Channel}
use Rattle.circuit_rows.specs.declared.row.Row.{Row}
use Rattle.circuit_rows.specs.declared.row.Row.TheVariants as row
use Rattle.circuit_rows.specs.declared.row.Found.{Found}

-- a channel of the code
abbrev pub channel_of : Channel → rows.Channel
channel_of c = if c.up then rows.rises c.wire else rows.falls c.wire

-- a row of the code
abbrev pub row_view : Row → rows.Row
row_view (row.Go c) = rows.GO (channel_of c)
row_view (row.Const n c) = rows.CONST n (channel_of c)
row_view (row.Succ c) = rows.SUCC (channel_of c)
row_view (row.Pred c) = rows.PRED (channel_of c)
row_view (row.Test z o) = rows.TEST (channel_of z) (channel_of o)
row_view (row.Fork l r) = rows.FORK (channel_of l) (channel_of r)
row_view (row.Join o s w) = rows.JOIN o s w
row_view row.Answer = rows.ANSWER
row_view (row.Star c) = rows.STAR (channel_of c)
row_view (row.Unstar c) = rows.UNSTAR (channel_of c)
row_view (row.Left c) = rows.LEFT (channel_of c)
row_view (row.Right c) = rows.RIGHT (channel_of c)
row_view (row.Con l r) = rows.CON (channel_of l) (channel_of r)
row_view (row.PushR c) = rows.PUSHR (channel_of c)
row_view (row.PushL c) = rows.PUSHL (channel_of c)
row_view (row.Select r l) = rows.SELECT (channel_of r) (channel_of l)
row_view (row.Pop c) = rows.POP (channel_of c)
row_view (row.BoxIn c) = rows.BOXIN (channel_of c)
row_view (row.BoxOut c) = rows.BOXOUT (channel_of c)
row_view (row.DoorOut c) = rows.DOOROUT (channel_of c)
row_view (row.DoorIn c) = rows.DOORIN (channel_of c)
row_view (row.FixIn c) = rows.FIXIN (channel_of c)
row_view (row.FixOut o i) = rows.FIXOUT (channel_of o) (channel_of i)
row_view (row.FixVar c) = rows.FIXVAR (channel_of c)
row_view row.Dead = rows.DEAD

-- a row of the code with its node's number
abbrev pub found_of : Found → ℕ × rows.Row
found_of f = (f.node, row_view f.row)

-- the row of a node for a token that comes to it by a channel
abbrev pub row_at : Node → rows.Channel → rows.Row
row_at n (rows.rises w) = rows.row_up n w
row_at n (rows.falls w) = rows.row_down n w
