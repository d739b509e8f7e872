-- How the code that builds a net keeps what the definition speaks of.
-- The context is a list of the binders' types, the outermost first. A term's free variables are a list of the wires that are loose, each
-- with its binder, the innermost binder last: entries only for variables that the term uses.
use Rattle.std.specs.Prelude.{◌≡◌, ◌<◌, ◌^◌, ℕ, zero, suc, List, [], ◌∷◌, ◌++◌, length, map, reverse, Bool, false, Option, Some, None}
use Rattle.std.specs.Prelude.{nat_eq, nat_lt, ◌-◌, slice_get, if◌then◌else◌, ◌+◌}
use Rattle.pcf_values.specs.declared.ty.Ty.{Ty}
use Rattle.pcf_values.specs.Terms.{TyTree, nat, TermTree, product}
use Rattle.pcf_values.specs.Views.{ty_of}
use Rattle.net_build.specs.declared.node.Node.{Node}
use Rattle.net_build.specs.declared.node.Node.TheVariants as node
use Rattle.net_build.specs.declared.node.Node.TheVariants.{Con, Binary, Proj}
use Rattle.net_build.specs.declared.parts.Parts.{Parts}
use Rattle.net_build.specs.declared.parts.Loose.{Loose}
use Rattle.net_build.specs.declared.parts.Placed.{Placed}
use Rattle.net_build.specs.declared.double.Double.{Double}
use Rattle.net_build.specs.declared.double.Double.TheVariants as double
use Rattle.net_build.specs.declared.unary.Unary.{Unary}
use Rattle.net_build.specs.declared.unary.Unary.TheVariants as unary
use Rattle.net_build.specs.Nets.{WireTree, value_wire, bang_wire, var_wire}
use Rattle.net_build.specs.NetOf.{Bundle, Part, contract, doors, bound, bound_wire, part, type_or_nat, side_type, double_end, ifz_end}
use Rattle.net_build.specs.NetOf.{lam_end, fix_end, app_end, unary_part, double_part, ifz_part}
use Rattle.net_build.specs.Views.{wire_of}

-- the typing context, the nearest binder first
abbrev pub context_of : List Ty → List TyTree
context_of c = map ty_of (reverse c)

-- loose wires, the innermost binder first, as a list aligned with k binders
abbrev pub spread : ℕ → List Loose → List (Option ℕ)
spread zero us = []
spread (suc k) [] = None ∷ spread k []
spread (suc k) (u ∷ us) = if nat_eq u.binder k then Some u.wire ∷ spread k us else None ∷ spread k (u ∷ us)

-- their binders fall, and are below k
abbrev pub Falling : ℕ → List Loose → Type 0
Falling k [] = Unit {0}
Falling k (u ∷ us) = (u.binder < k) × Falling u.binder us

-- these wires and nodes were added, and the context is as before
pub record Grows (old new : Parts) (ws : List WireTree) (ns : List Node) : Type 0 where
  pub wires : map wire_of new.wires.items ≡ map wire_of old.wires.items ++ ws
  pub nodes : new.nodes.items ≡ old.nodes.items ++ ns
  pub context : new.context.items ≡ old.context.items

-- the type of a wire, by its number (past the list, where no term's wire is, it is nat)
abbrev pub type_on : Option WireTree → TyTree
type_on None = nat
type_on (Some w) = w.type

abbrev pub wire_type : Parts → ℕ → TyTree
wire_type s w = type_on (slice_get (map wire_of s.wires.items) w)

-- these loose wires are the aligned list, where there are k binders
pub record Spreads (k : ℕ) (free : List (Option ℕ)) (us : List Loose) : Type 0 where
  pub spreads : spread k (reverse us) ≡ free
  pub falling : Falling k (reverse us)

-- what a part that was just built gives, wires and nodes aside
pub record Gives (k : ℕ) (new : Parts) (p : Part) (r : Placed) : Type 0 where
  pub out : r.out ≡ p.out
  pub inside : r.out < length new.wires.items
  pub type : wire_type new r.out ≡ p.type
  pub free : Spreads k p.free r.free.items

-- a part was added, and this is what it gives
pub record Builds (old new : Parts) (p : Part) (r : Placed) : Type 0 where
  pub grows : Grows old new p.wires p.nodes
  pub gives : Gives (length old.context.items) new p r

-- these loose wires are of binders of the context, the innermost last
abbrev pub AreLoose : Parts → List Loose → Type 0
AreLoose s us = Falling (length s.context.items) (reverse us)

-- what was placed stands here: its value wire is one of the wires, and its free variables are of the context
abbrev pub IsPlaced : Parts → Placed → Type 0
IsPlaced s r = (r.out < length s.wires.items) × AreLoose s r.free.items

-- the same of a body, which has one binder more
abbrev pub IsBody : Parts → Placed → Type 0
IsBody s r = (r.out < length s.wires.items) × Falling (suc (length s.context.items)) (reverse r.free.items)

-- there is room for a part, built from here at this depth: each number and each depth of its wires is below 2 ^ 32. One bound says
-- both, since a form that stands one box deeper adds a wire outside.
abbrev pub HasRoom : Parts → ℕ → Part → Type 0
HasRoom s d p = d + length s.wires.items + length p.wires < 2 ^ 32

-- the part of a term, built from here
abbrev pub part_at : Parts → ℕ → TermTree → Part
part_at s d t = part (length s.wires.items) d (context_of s.context.items) t

-- new wires and nodes were added, and these loose wires are left
pub record Bundles (old new : Parts) (b : Bundle) (us : List Loose) : Type 0 where
  pub grows : Grows old new b.wires b.nodes
  pub free : Spreads (length old.context.items) b.free us

-- contractions and doors of loose wires, built from here
abbrev pub contract_at : Parts → ℕ → List Loose → List Loose → Bundle
contract_at s d us vs =
    contract (length s.wires.items) d (context_of s.context.items) (spread (length s.context.items) (reverse us))
    (spread (length s.context.items) (reverse vs))

abbrev pub doors_at : Parts → ℕ → List Loose → Bundle
doors_at s d us = doors (length s.wires.items) d (context_of s.context.items) (spread (length s.context.items) (reverse us))

-- the type of a binder, by its place in the context
abbrev pub binder_type : List Ty → ℕ → TyTree
binder_type c b = type_or_nat (slice_get (map ty_of c) b)

-- a variable wire of the binder and the node above it were added
pub record Varies (old new : Parts) (d b : ℕ) (n : Node) (u : Loose) : Type 0 where
  pub grows : Grows old new (var_wire d (binder_type old.context.items b) ∷ []) (n ∷ [])
  pub binder : u.binder ≡ b
  pub wire : u.wire ≡ length old.wires.items

abbrev pub IsFirst : Loose → List Loose → Type 0
IsFirst u [] = ⊥
IsFirst u (v ∷ vs) = u ≡ v

-- the innermost of two lists' first wires was taken, by a contraction where both are of one binder
pub data Takes (old new : Parts) (d : ℕ) : List Loose → List Loose → List Loose → List Loose → Loose → Type 0 where
  both : (u v w : Loose) (us vs : List Loose) → u.binder ≡ v.binder
      → Varies old new d u.binder (Con u.wire v.wire (length old.wires.items)) w → Takes old new d (u ∷ us) (v ∷ vs) us vs w
  first : (u v : Loose) (us vs : List Loose) → v.binder < u.binder → new ≡ old → Takes old new d (u ∷ us) (v ∷ vs) us (v ∷ vs) u
  second : (u v : Loose) (us vs : List Loose) → u.binder < v.binder → new ≡ old → Takes old new d (u ∷ us) (v ∷ vs) (u ∷ us) vs v

-- what a placed term leaves loose, as a list aligned with the context
abbrev pub frees : Parts → Placed → List (Option ℕ)
frees s r = spread (length s.context.items) (reverse r.free.items)

-- the node and the type of a form with one operand
abbrev pub unary_node : Unary → ℕ → ℕ → Node
unary_node unary.Succ = node.Succ
unary_node unary.Pred = node.Pred
unary_node (unary.Proj d) = Proj d

abbrev pub unary_type : Unary → TyTree → TyTree
unary_type unary.Succ t = nat
unary_type unary.Pred t = nat
unary_type (unary.Proj d) t = side_type d t

-- the part of a form with one operand, built from here
abbrev pub unary_at : Unary → Parts → ℕ → Part → Part
unary_at form s d p = unary_part (unary_node form) (unary_type form p.type) (length s.wires.items) d p

-- a last value wire and its node were added
pub record Finishes (old new : Parts) (d : ℕ) (t : TyTree) (n : Node) (loose : List Loose) (r : Placed) : Type 0 where
  pub grows : Grows old new (value_wire d t ∷ []) (n ∷ [])
  pub out : r.out ≡ length old.wires.items
  pub free : r.free.items ≡ loose

-- the node and the type of a form with two operands
abbrev pub double_node : Double → ℕ → ℕ → ℕ → Node
double_node (double.Binary o) a b w = Binary o a b w
double_node double.Pair a b w = node.Pair a b w

abbrev pub double_type : Double → TyTree → TyTree → TyTree
double_type (double.Binary o) t u = nat
double_type double.Pair t u = product t u

-- what an operand gives, as a part whose wires and nodes are no matter: an end doesn't ask for them
abbrev pub giving : ℕ → TyTree → List (Option ℕ) → Part
giving out type free = record { wires = []; nodes = []; out = out; type = type; free = free }

abbrev pub placed : Parts → Placed → Part
placed s r = giving r.out (wire_type s r.out) (frees s r)

-- the ends of the forms, built from here of what was placed
abbrev pub double_here : Double → Parts → ℕ → Placed → Placed → Part
double_here form s d r r' =
    double_end (double_node form) (double_type form (wire_type s r.out) (wire_type s r'.out)) (length s.wires.items) d
    (context_of s.context.items) (placed s r) (placed s r')

abbrev pub ifz_here : Parts → ℕ → Placed → Placed → Placed → Part
ifz_here s d r r' r'' = ifz_end (length s.wires.items) d (context_of s.context.items) (placed s r) (placed s r') (placed s r'')

abbrev pub app_here : Parts → ℕ → Placed → Placed → Part
app_here s d r r' = app_end (length s.wires.items) d (context_of s.context.items) (placed s r) (placed s r')

-- of a body, which has one binder more
abbrev pub body_frees : Parts → Placed → List (Option ℕ)
body_frees s r = spread (suc (length s.context.items)) (reverse r.free.items)

abbrev pub placed_body : Parts → Placed → Part
placed_body s r = giving r.out (wire_type s r.out) (body_frees s r)

abbrev pub lam_here : Parts → ℕ → TyTree → Placed → Part
lam_here s d a r = lam_end (length s.wires.items) d a (placed_body s r)

abbrev pub fix_here : Parts → ℕ → TyTree → Placed → Part
fix_here s d a r = fix_end (length s.wires.items) d (context_of s.context.items) a (placed_body s r)

-- the part of a term with more than one operand, or under a binder, built from here
abbrev pub second_at : Parts → ℕ → Part → TermTree → Part
second_at s d p t = part (length s.wires.items + length p.wires) d (context_of s.context.items) t

abbrev pub third_at : Parts → ℕ → Part → Part → TermTree → Part
third_at s d p q t = part (length s.wires.items + length p.wires + length q.wires) d (context_of s.context.items) t

abbrev pub body_at : Parts → ℕ → TyTree → TermTree → Part
body_at s d a t = part (length s.wires.items) d (a ∷ context_of s.context.items) t

abbrev pub double_at : Double → Parts → ℕ → Part → Part → Part
double_at form s d p q =
    double_part (double_node form) (double_type form p.type q.type) (length s.wires.items) d (context_of s.context.items) p q

abbrev pub ifz_at : Parts → ℕ → Part → Part → Part → Part
ifz_at s d p q r = ifz_part (length s.wires.items) d (context_of s.context.items) p q r

-- a body was added, and this is what it gives, with one binder more
pub record BuildsBody (old new : Parts) (p : Part) (r : Placed) : Type 0 where
  pub grows : Grows old new p.wires p.nodes
  pub gives : Gives (suc (length old.context.items)) new p r

-- the binder's variable wire was taken off, or made with a Weak
pub record Binds (old new : Parts) (d : ℕ) (a : TyTree) (us vs : List Loose) (x : ℕ) : Type 0 where
  pub grows : Grows old new (bound (length old.wires.items) d a (spread (suc (length old.context.items)) (reverse us))).wires
      (bound (length old.wires.items) d a (spread (suc (length old.context.items)) (reverse us))).nodes
  pub wire : x ≡ bound_wire (length old.wires.items) (spread (suc (length old.context.items)) (reverse us))
  pub free : Spreads (length old.context.items)
      (bound (length old.wires.items) d a (spread (suc (length old.context.items)) (reverse us))).free vs

-- doors for an argument's variables, and the box on its value wire, built from here
abbrev pub box_bundle : ℕ → ℕ → List TyTree → TyTree → ℕ → List (Option ℕ) → Bundle
box_bundle m d g a o f =
    let e = doors m d g f in
    record { wires = e.wires ++ bang_wire d a ∷ []; nodes = e.nodes ++ node.BoxNode o (m + length e.wires) ∷ []; free = e.free }

abbrev pub box_here : Parts → ℕ → TyTree → Placed → Bundle
box_here s d a r = box_bundle (length s.wires.items) d (context_of s.context.items) a r.out (frees s r)

-- the box's wire
abbrev pub box_wire : Parts → ℕ → Placed → ℕ
box_wire s d r = length s.wires.items + length (doors (length s.wires.items) d (context_of s.context.items) (frees s r)).wires

-- the innermost loose wire is of this binder
abbrev pub uses_first : ℕ → List Loose → Bool
uses_first b [] = false
uses_first b (u ∷ us) = nat_eq u.binder b

-- the part of two terms at one depth, built from here
abbrev pub double_of : Double → Parts → ℕ → TermTree → TermTree → Part
double_of form s d a b = let p = part_at s d a in double_at form s d p (second_at s d p b)

-- the part of a form with one operand, built from here
abbrev pub unary_of : Unary → Parts → ℕ → TermTree → Part
unary_of form s d a = unary_at form s d (part_at s d a)

-- the loose wires of variable i alone, where there are k binders
abbrev pub one_at : ℕ → ℕ → ℕ → List Loose
one_at k i w = if nat_lt i k then record { binder = k - 1 - i; wire = w } ∷ [] else []
