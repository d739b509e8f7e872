-- The wires and nodes that the lines of a text list, or the number of the first line that can't stand there.
-- Each line is read by its beginning, and is right where the line of what was read is that line.
use Rattle.std.specs.Prelude.{ℕ, zero, suc, ◌^◌, Bool, ◌&&◌, List, [], ◌∷◌, Option, Some, None, Result, Ok, Err, codes, nat_lt, nat_le}
use Rattle.std.specs.Prelude.{if◌then◌else◌}
use Rattle.std.specs.Str.{bytes_eq}
use Rattle.net_build.specs.declared.node.Node.{Node}
use Rattle.net_build.specs.Nets.{WireTree, NetTree}
use Rattle.text_lines.specs.Lines.{end_line}
use Rattle.net_text.specs.Listing.{wire_line, node_line}
use Rattle.net_text.specs.NetText.{ty_height}
use Rattle.net_text.specs.WireText.{wire_in}
use Rattle.net_text.specs.NodeText.{node_fits, node_in}

-- a thing, where the test says that it is right
abbrev pub if_right : {A : Type 0} → Bool → A → Option A
if_right b x = if b then Some x else None

-- the node, if this is its line
abbrev pub checked_node : ℕ → List ℕ → Option Node → Option Node
checked_node k line None = None
checked_node k line (Some x) = if_right (bytes_eq line (node_line k x) && node_fits x) x

-- the node that this line is, behind k nodes
abbrev pub node_at : ℕ → List ℕ → Option Node
node_at k line = checked_node k line (node_in k line)

-- the depth of the wire is of 32 bits, and its type no higher than h
abbrev pub wire_fits : ℕ → WireTree → Bool
wire_fits h w = nat_lt w.depth (2 ^ 32) && nat_le (ty_height w.type) h

-- the wire, if this is its line and it fits
abbrev pub checked_wire : ℕ → ℕ → List ℕ → Option WireTree → Option WireTree
checked_wire h k line None = None
checked_wire h k line (Some w) = if_right (bytes_eq line (wire_line k w) && wire_fits h w) w

-- the wire that this line is, behind k wires
abbrev pub wire_at : ℕ → ℕ → List ℕ → Option WireTree
wire_at h k line = checked_wire h k line (wire_in h k line)

-- nothing may follow the last line
abbrev pub ended : ℕ → List (List ℕ) → Result (List Node) ℕ
ended n [] = Ok []
ended n (l ∷ ls) = Err (suc n)

-- a node more in front of those of the lines behind it
abbrev pub with_node : Node → Result (List Node) ℕ → Result (List Node) ℕ
with_node x (Ok ns) = Ok (x ∷ ns)
with_node x (Err m) = Err m

-- a line that is a node's and the lines behind it; or this line is the fault
abbrev pub and_nodes : ℕ → Option Node → Result (List Node) ℕ → Result (List Node) ℕ
and_nodes n None r = Err n
and_nodes n (Some x) r = with_node x r

-- the nodes from number k on; the first of these lines is line n
abbrev pub nodes_from : ℕ → ℕ → List (List ℕ) → Result (List Node) ℕ
nodes_from k n [] = Err n
nodes_from k n (l ∷ ls) = if bytes_eq l end_line then ended n ls else and_nodes n (node_at k l) (nodes_from (suc k) (suc n) ls)

-- a net of nodes alone
abbrev pub no_wires : Result (List Node) ℕ → Result NetTree ℕ
no_wires (Ok ns) = Ok (record { wires = []; nodes = ns })
no_wires (Err m) = Err m

-- a wire more in front of those of the lines behind it
abbrev pub with_wire : WireTree → Result NetTree ℕ → Result NetTree ℕ
with_wire w (Ok net) = Ok (record { wires = w ∷ net.wires; nodes = net.nodes })
with_wire w (Err m) = Err m

-- a line that is a wire's and the lines behind it; or this line and the rest are of nodes
abbrev pub and_wires : Option WireTree → Result NetTree ℕ → Result (List Node) ℕ → Result NetTree ℕ
and_wires None r s = no_wires s
and_wires (Some w) r s = with_wire w r

-- the net from wire k on
abbrev pub wires_from : ℕ → ℕ → ℕ → List (List ℕ) → Result NetTree ℕ
wires_from h k n [] = Err n
wires_from h k n (l ∷ ls) = and_wires (wire_at h k l) (wires_from h (suc k) (suc n) ls) (nodes_from zero n (l ∷ ls))

-- the net that the lines list, with types no higher than h, or the first line that can't stand there
abbrev pub net_of_lines : ℕ → List (List ℕ) → Result NetTree ℕ
net_of_lines h [] = Err 1
net_of_lines h (l ∷ ls) = if bytes_eq l (codes "net 1\n") then wires_from h zero 2 ls else Err 1
