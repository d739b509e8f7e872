-- The rows of the nodes in two halves: what they ask of kinds and types, and what they ask of depths.
-- A node meets its row where it meets both halves. They stand apart since a fault says which half was missed, kinds and types first.
use Rattle.std.specs.Prelude.{◌≡◌, ℕ, suc, Option, Some, None, slice_get, if◌then◌else◌, Bool, true, false}
use Rattle.pcf_values.specs.Terms.{TyTree, nat, arrow, product, at_side}
use Rattle.net_build.specs.declared.wire.WireKind.{WireKind}
use Rattle.net_build.specs.declared.wire.WireKind.TheVariants.{Value, Bang, Variable}
use Rattle.net_build.specs.declared.node.Node.{Node}
use Rattle.net_build.specs.declared.node.Node.TheVariants.{Const, Succ, Pred, Ifz, Der, Con, Weak, Lam, App, BoxNode, Binary, Proj}
use Rattle.net_build.specs.declared.node.Node.TheVariants.{Door, FixBox, Root, Pair}
use Rattle.net_build.specs.Nets.{WireTree, NetTree}
use Rattle.pcf_values.specs.declared.side.Side.{Side}

abbrev pub same_kind : WireKind → WireKind → Bool
same_kind Value Value = true
same_kind Value Bang = false
same_kind Value Variable = false
same_kind Bang Value = false
same_kind Bang Bang = true
same_kind Bang Variable = false
same_kind Variable Value = false
same_kind Variable Bang = false
same_kind Variable Variable = true

-- the type of a wire, where it is of this kind
abbrev pub type_if : WireKind → Option WireTree → Option TyTree
type_if k None = None
type_if k (Some w) = if same_kind w.kind k then Some w.type else None

abbrev pub depth_in : Option WireTree → Option ℕ
depth_in None = None
depth_in (Some w) = Some w.depth

-- the types of a value wire, a bang wire and a variable wire, where the number is one
abbrev pub value_type : NetTree → ℕ → Option TyTree
value_type net n = type_if Value (slice_get net.wires n)

abbrev pub bang_type : NetTree → ℕ → Option TyTree
bang_type net n = type_if Bang (slice_get net.wires n)

abbrev pub variable_type : NetTree → ℕ → Option TyTree
variable_type net n = type_if Variable (slice_get net.wires n)

-- it is there
abbrev pub IsThere : {A : Type 0} → Option A → Type 0
IsThere None = ⊥
IsThere (Some a) = Unit {0}

-- both are there and one type, or all three
abbrev pub AreOne : Option TyTree → Option TyTree → Type 0
AreOne (Some a) (Some b) = a ≡ b
AreOne (Some a) None = ⊥
AreOne None b = ⊥

abbrev pub AreAllOne : Option TyTree → Option TyTree → Option TyTree → Type 0
AreAllOne a b c = AreOne a b × AreOne a c

-- the first is of functions from the second to the third
abbrev pub IsArrow : Option TyTree → Option TyTree → Option TyTree → Type 0
IsArrow (Some (arrow s t)) (Some a) (Some b) = (s ≡ a) × (t ≡ b)
IsArrow (Some (arrow s t)) (Some a) None = ⊥
IsArrow (Some (arrow s t)) None b = ⊥
IsArrow (Some nat) a b = ⊥
IsArrow (Some (product s t)) a b = ⊥
IsArrow None a b = ⊥

-- the first is of pairs of the second and the third
abbrev pub IsProduct : Option TyTree → Option TyTree → Option TyTree → Type 0
IsProduct (Some (product s t)) (Some a) (Some b) = (s ≡ a) × (t ≡ b)
IsProduct (Some (product s t)) (Some a) None = ⊥
IsProduct (Some (product s t)) None b = ⊥
IsProduct (Some nat) a b = ⊥
IsProduct (Some (arrow s t)) a b = ⊥
IsProduct None a b = ⊥

-- the first is of pairs whose part on this side is of the second
abbrev pub IsPart : Side → Option TyTree → Option TyTree → Type 0
IsPart side (Some (product s t)) (Some a) = at_side side s t ≡ a
IsPart side (Some (product s t)) None = ⊥
IsPart side (Some nat) a = ⊥
IsPart side (Some (arrow s t)) a = ⊥
IsPart side None a = ⊥

-- the wire stands in so many boxes
abbrev pub Deep : NetTree → ℕ → ℕ → Type 0
Deep net n d = depth_in (slice_get net.wires n) ≡ Some d

-- the node's wires are of the kinds and types that its row asks
abbrev pub TypesMeet : NetTree → Node → Type 0
TypesMeet net (Const v w) = value_type net w ≡ Some nat
TypesMeet net (Succ a w) = (value_type net a ≡ Some nat) × (value_type net w ≡ Some nat)
TypesMeet net (Pred a w) = (value_type net a ≡ Some nat) × (value_type net w ≡ Some nat)
TypesMeet net (Binary o a b w) = (value_type net a ≡ Some nat) × (value_type net b ≡ Some nat) × (value_type net w ≡ Some nat)
TypesMeet net (Ifz c p q w) =
    (value_type net c ≡ Some nat) × (value_type net p ≡ Some nat) × (value_type net q ≡ Some nat) × (value_type net w ≡ Some nat)
TypesMeet net (Der w x) = AreOne (value_type net w) (variable_type net x)
TypesMeet net (Con l r w) = AreAllOne (variable_type net l) (variable_type net r) (variable_type net w)
TypesMeet net (Weak x) = IsThere (variable_type net x)
TypesMeet net (Lam b x w) = IsArrow (value_type net w) (variable_type net x) (value_type net b)
TypesMeet net (App f a w) = IsArrow (value_type net f) (bang_type net a) (value_type net w)
TypesMeet net (BoxNode i o) = AreOne (value_type net i) (bang_type net o)
TypesMeet net (Door i o) = AreOne (variable_type net i) (variable_type net o)
TypesMeet net (FixBox b x w) = AreAllOne (value_type net b) (variable_type net x) (value_type net w)
TypesMeet net (Root w) = value_type net w ≡ Some nat
TypesMeet net (Pair a b w) = IsProduct (value_type net w) (value_type net a) (value_type net b)
TypesMeet net (Proj side a w) = IsPart side (value_type net a) (value_type net w)

-- the node's wires are at the depths that its row asks
abbrev pub DepthsMeet : NetTree → Node → Type 0
DepthsMeet net (Const v w) = (d : ℕ) × Deep net w d
DepthsMeet net (Succ a w) = (d : ℕ) × Deep net a d × Deep net w d
DepthsMeet net (Pred a w) = (d : ℕ) × Deep net a d × Deep net w d
DepthsMeet net (Binary o a b w) = (d : ℕ) × Deep net a d × Deep net b d × Deep net w d
DepthsMeet net (Ifz c p q w) = (d : ℕ) × Deep net c d × Deep net p d × Deep net q d × Deep net w d
DepthsMeet net (Der w x) = (d : ℕ) × Deep net w d × Deep net x d
DepthsMeet net (Con l r w) = (d : ℕ) × Deep net l d × Deep net r d × Deep net w d
DepthsMeet net (Weak x) = (d : ℕ) × Deep net x d
DepthsMeet net (Lam b x w) = (d : ℕ) × Deep net b d × Deep net x d × Deep net w d
DepthsMeet net (App f a w) = (d : ℕ) × Deep net f d × Deep net a d × Deep net w d
DepthsMeet net (BoxNode i o) = (d : ℕ) × Deep net i (suc d) × Deep net o d
DepthsMeet net (Door i o) = (d : ℕ) × Deep net i (suc d) × Deep net o d
DepthsMeet net (FixBox b x w) = (d : ℕ) × Deep net b (suc d) × Deep net x (suc d) × Deep net w d
DepthsMeet net (Root w) = Deep net w 0
DepthsMeet net (Pair a b w) = (d : ℕ) × Deep net a d × Deep net b d × Deep net w d
DepthsMeet net (Proj side a w) = (d : ℕ) × Deep net a d × Deep net w d
