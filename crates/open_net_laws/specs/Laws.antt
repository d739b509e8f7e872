-- What holds of terms that are applied to numbers, and of their nets.
use Rattle.std.specs.Prelude.{◌≡◌, ℕ, suc, ◌+◌, ◌*◌, List, [], ◌∷◌, length}
use Rattle.pcf_values.specs.declared.operator.Operator.TheVariants.{Plus}
use Rattle.pcf_values.specs.Terms.{TermTree, nat, var, binary, lam, size, height}
use Rattle.pcf_values.specs.Typing.{HasType}
use Rattle.net_build.specs.declared.node.Node.TheVariants.{Const, Binary, Der, Lam, App, BoxNode, Root}
use Rattle.net_build.specs.NetOf.{net_of}
use Rattle.open_net_laws.specs.Applied.{applied, numeric}
use Rattle.open_net_laws.specs.Arguments.{AreNumbers, closed_part, with_arguments}
use Rattle.open_net_laws.specs.Numbers.{with_numbers, places}

-- a function of so many numbers is a number at so many numbers
abbrev pub AppliedHas : Type 0
AppliedHas = (m : TermTree) (vs : List ℕ) → HasType [] m (numeric (length vs)) → AreNumbers vs → HasType [] (applied m vs) nat

-- it is larger by two nodes an argument, and higher by one
abbrev pub AppliedSize : Type 0
AppliedSize =
    (m : TermTree) (vs : List ℕ) →
    (size (applied m vs) ≡ size m + 2 * length vs) × (height (applied m vs) ≡ height m + length vs)

-- its net is the term's part, and after it three wires and three nodes an argument
abbrev pub AppliedNet : Type 0
AppliedNet = (m : TermTree) (vs : List ℕ) → net_of (applied m vs) ≡ with_arguments (closed_part m) vs

-- at other numbers it is the same net with those numbers at the same places
abbrev pub OtherNumbers : Type 0
OtherNumbers =
    (m : TermTree) (us vs : List ℕ) → length us ≡ length vs →
    net_of (applied m vs) ≡ with_numbers (net_of (applied m us)) (places m (length vs)) vs

-- so it has the same wires, and as many nodes: so many, whatever the numbers are
pub record IsShape (m : TermTree) (us vs : List ℕ) : Type 0 where
  pub wires : (net_of (applied m us)).wires ≡ (net_of (applied m vs)).wires
  pub wire_count : length (net_of (applied m vs)).wires ≡ length (closed_part m).wires + 3 * length vs
  pub node_count : length (net_of (applied m vs)).nodes ≡ suc (length (closed_part m).nodes + 3 * length vs)

abbrev pub SameShape : Type 0
SameShape = (m : TermTree) (us vs : List ℕ) → length us ≡ length vs → IsShape m us vs

-- `fun x:nat. fun y:nat. x + y`
abbrev pub sum_of_two : TermTree
sum_of_two = lam nat (lam nat (binary Plus (var 1) (var 0)))

-- its nodes at 5 and 3, and those at 7 and 9 made of them
pub record ExampleApplied : Type 0 where
  pub nodes :
      (net_of (applied sum_of_two (5 ∷ 3 ∷ []))).nodes ≡
      Der 0 1 ∷ Der 2 3 ∷ Binary Plus 0 2 4 ∷ Lam 4 3 5 ∷ Lam 5 1 6 ∷ Const 5 7 ∷ BoxNode 7 8 ∷ App 6 8 9 ∷ Const 3 10 ∷ BoxNode 10 11 ∷
      App 9 11 12 ∷ Root 12 ∷ []
  pub places : places sum_of_two 2 ≡ 5 ∷ 8 ∷ []
  pub other : with_numbers (net_of (applied sum_of_two (5 ∷ 3 ∷ []))) (5 ∷ 8 ∷ []) (7 ∷ 9 ∷ []) ≡ net_of (applied sum_of_two (7 ∷ 9 ∷ []))
