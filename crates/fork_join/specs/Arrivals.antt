-- What an answer finds at an entry, and what the table is afterwards.
-- The first answer of an entry is kept under its own side. The second finds the other side's value, and the entry is gone. No answer
-- comes to a key without an entry, nor twice from one side: that is what `IsOpenFor` asks of whoever brings one.
use Rattle.std.specs.Prelude.{Option, Some, None}
use Rattle.std.specs.FinMap.{FinMap, get, insert, remove}
use Rattle.pcf_values.specs.declared.val.Val.{Val}
use Rattle.pcf_values.specs.declared.side.Side.{Side}
use Rattle.pcf_values.specs.declared.side.Side.TheVariants.{Left, Right}
use Rattle.fork_join.specs.Entries.{Entry, pending, has_left, has_right, kept_as, Key, key_cmp}
use Rattle.fork_join.specs.declared.outcome.Arrived.{Arrived}
use Rattle.fork_join.specs.declared.outcome.Arrived.TheVariants.{First, Both}

-- the entry is there, and this side isn't kept in it
abbrev pub IsOpenFor : Option Entry → Side → Type 0
IsOpenFor None s = ⊥
IsOpenFor (Some pending) s = Unit {0}
IsOpenFor (Some (has_left v)) Left = ⊥
IsOpenFor (Some (has_left v)) Right = Unit {0}
IsOpenFor (Some (has_right v)) Left = Unit {0}
IsOpenFor (Some (has_right v)) Right = ⊥

-- the other side's value, where it is kept
abbrev pub arrival : Option Entry → Arrived
arrival None = First
arrival (Some pending) = First
arrival (Some (has_left w)) = Both w
arrival (Some (has_right w)) = Both w

-- the table once an answer came to an entry
abbrev pub with_arrival : Option Entry → FinMap key_cmp Entry → Key → Side → Val → FinMap key_cmp Entry
with_arrival None f k s v = f
with_arrival (Some pending) f k s v = insert f k (kept_as s v)
with_arrival (Some (has_left w)) f k s v = remove f k
with_arrival (Some (has_right w)) f k s v = remove f k

-- the table once an answer of this side came to the entry of the key
abbrev pub after_arrival : FinMap key_cmp Entry → Key → Side → Val → FinMap key_cmp Entry
after_arrival f k = with_arrival (get f k) f k
