-- Sound nets: one root, each wire once on either side, and each node's wires of the kinds, types and depths of its row.
-- It is all that the laws of the moves need of a net, so that they hold for nets that no term built. 'Once' counts, since counts of
-- two lists of nodes add up: a node that names a wire twice on a side counts twice, and a number past the list counts 0.
use Rattle.std.specs.Prelude.{◌≡◌, ◌⊎◌, ℕ, suc, ◌+◌, ◌<◌, ◌≤◌, List, [], ◌∷◌, length, Some, nat_eq, if◌then◌else◌, slice_get}
use Rattle.pcf_values.specs.Terms.{TyTree, nat, arrow, product}
use Rattle.net_build.specs.declared.node.Node.{Node}
use Rattle.net_build.specs.declared.node.Node.TheVariants.{Const, Succ, Pred, Ifz, Der, Con, Weak, Lam, App, BoxNode, Binary, Proj}
use Rattle.net_build.specs.declared.node.Node.TheVariants.{Door, FixBox, Root, Pair}
use Rattle.net_build.specs.Nets.{WireTree, value_wire, bang_wire, var_wire, NetTree, premises, conclusions}
use Rattle.pcf_values.specs.declared.side.Side.TheVariants.{Left, Right}

-- how often a number stands in a list
abbrev pub how_often : ℕ → List ℕ → ℕ
how_often w [] = 0
how_often w (x ∷ xs) = (if nat_eq x w then 1 else 0) + how_often w xs

-- how often the nodes name a wire on a side
abbrev pub named : (Node → List ℕ) → List Node → ℕ → ℕ
named side [] w = 0
named side (n ∷ ns) w = how_often w (side n) + named side ns w

-- how many roots there are
abbrev pub roots : List Node → ℕ
roots [] = 0
roots (Root wire ∷ ns) = suc (roots ns)
roots (n ∷ ns) = roots ns

-- the wire stands at this number
abbrev pub Is : NetTree → ℕ → WireTree → Type 0
Is net w k = slice_get net.wires w ≡ Some k

-- all three value wires of numbers
abbrev pub Numbers : NetTree → ℕ → ℕ → ℕ → Type 0
Numbers net left right wire = (d : ℕ) × Is net left (value_wire d nat) × Is net right (value_wire d nat) × Is net wire (value_wire d nat)

-- the node meets its row: its wires are of the kinds, types and depths that it asks
abbrev pub Meets : NetTree → Node → Type 0
Meets net (Const value wire) = (d : ℕ) × Is net wire (value_wire d nat)
Meets net (Succ operand wire) =
    (d : ℕ) × Is net operand (value_wire d nat) × Is net wire (value_wire d nat)
Meets net (Pred operand wire) =
    (d : ℕ) × Is net operand (value_wire d nat) × Is net wire (value_wire d nat)
Meets net (Binary operator left right wire) = Numbers net left right wire
Meets net (Ifz condition at_zero otherwise wire) =
    (d : ℕ) × Is net condition (value_wire d nat) × Is net at_zero (value_wire d nat) × Is net otherwise (value_wire d nat) ×
    Is net wire (value_wire d nat)
Meets net (Der wire variable) =
    (d : ℕ) × (t : TyTree) × Is net wire (value_wire d t) × Is net variable (var_wire d t)
Meets net (Con left right wire) =
    (d : ℕ) × (t : TyTree) × Is net left (var_wire d t) × Is net right (var_wire d t) × Is net wire (var_wire d t)
Meets net (Weak variable) = (d : ℕ) × (t : TyTree) × Is net variable (var_wire d t)
Meets net (Lam body variable wire) =
    (d : ℕ) × (s : TyTree) × (t : TyTree) × Is net body (value_wire d t) × Is net variable (var_wire d s) ×
    Is net wire (value_wire d (arrow s t))
Meets net (App function argument wire) =
    (d : ℕ) × (s : TyTree) × (t : TyTree) × Is net function (value_wire d (arrow s t)) × Is net argument (bang_wire d s) ×
    Is net wire (value_wire d t)
Meets net (BoxNode inside outside) =
    (d : ℕ) × (t : TyTree) × Is net inside (value_wire (suc d) t) × Is net outside (bang_wire d t)
Meets net (Door inside outside) =
    (d : ℕ) × (t : TyTree) × Is net inside (var_wire (suc d) t) × Is net outside (var_wire d t)
Meets net (FixBox body variable wire) =
    (d : ℕ) × (t : TyTree) × Is net body (value_wire (suc d) t) × Is net variable (var_wire (suc d) t) ×
    Is net wire (value_wire d t)
Meets net (Root wire) = Is net wire (value_wire 0 nat)
Meets net (Pair left right wire) =
    (d : ℕ) × (s : TyTree) × (t : TyTree) × Is net left (value_wire d s) × Is net right (value_wire d t) ×
    Is net wire (value_wire d (product s t))
Meets net (Proj Left operand wire) =
    (d : ℕ) × (s : TyTree) × (t : TyTree) × Is net operand (value_wire d (product s t)) × Is net wire (value_wire d s)
Meets net (Proj Right operand wire) =
    (d : ℕ) × (s : TyTree) × (t : TyTree) × Is net operand (value_wire d (product s t)) × Is net wire (value_wire d t)

-- the node is one of the list
abbrev pub In : Node → List Node → Type 0
In n [] = ⊥
In n (x ∷ xs) = (n ≡ x) ⊎ In n xs

-- one root; no node names a number past the list of wires; each wire is the conclusion of one node and a premise of one node; and each
-- node meets its row
pub record Sound (net : NetTree) : Type 0 where
  pub one_root : roots net.nodes ≡ 1
  pub outside : (w : ℕ) → length net.wires ≤ w → (named conclusions net.nodes w ≡ 0) × (named premises net.nodes w ≡ 0)
  pub once : (w : ℕ) → w < length net.wires → (named conclusions net.nodes w ≡ 1) × (named premises net.nodes w ≡ 1)
  pub rows : (n : Node) → In n net.nodes → Meets net n
