-- The code's walk: its nodes are the first ones of the net, the last of them first.
use Rattle.std.specs.Prelude.{◌≡◌, ℕ, List, [], ◌∷◌, Option, Some, None, reverse, take, slice_set}
use Rattle.net_build.specs.declared.node.Node.{Node}
use Rattle.net_build.specs.Nets.{NetTree}
use Rattle.net_marks.specs.declared.walk.Mark.{Mark}
use Rattle.net_marks.specs.declared.walk.Walk.{Walk}
use Rattle.net_marks.specs.Passing.{Rest, rest, pass}

-- the marks with another one for this wire
abbrev pub set_mark : List Mark → ℕ → Mark → List Mark
set_mark ms w m = slice_set ms w m

-- the nodes that are left
abbrev pub left : NetTree → Walk → List Node
left net w = reverse (take w.left net.nodes)

-- what is left of a walk
abbrev pub rest_of : NetTree → Walk → ℕ → ℕ → Rest
rest_of net w place want = rest place want (left net w) w.marks.items

-- the next node, where there is one, and the nodes before and after it; without one none is left, before and after
abbrev pub Comes : Option Node → List Node → List Node → Type 0
Comes None before after = (before ≡ []) × (after ≡ [])
Comes (Some n) before after = before ≡ n ∷ after

-- A node between a term and its operands was passed, which leaves the box around, the box, and the value wire that is to come; None:
-- the node is none of these.
abbrev pub Passed : Option (ℕ × ℕ × ℕ) → ℕ → ℕ → ℕ → Node → List Mark → List Mark → Type 0
Passed None around place want n ms new = ((ns : List Node) → pass around place want (n ∷ ns) ms ≡ rest place want (n ∷ ns) ms) × (new ≡ ms)
Passed (Some p) around place want n ms new = (ns : List Node) → pass around place want (n ∷ ns) ms ≡ pass p.0 p.1 p.2 ns new
