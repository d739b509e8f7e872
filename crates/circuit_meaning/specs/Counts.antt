-- What is told of what a circuit needs at some arguments, within a budget of moves.
use Rattle.std.specs.Prelude.{◌≡◌, ◌≤◌, ◌<◌, ◌*◌, ℕ, List, length, Option, None, Some}
use Prim.Native.String.{String}
use Rattle.pcf_values.specs.declared.val.Val.{Val}
use Rattle.pcf_values.specs.Terms.{TermTree}
use Rattle.cbn_meaning.specs.Meaning.{Means}
use Rattle.net_build.specs.NetOf.{net_of}
use Rattle.adequacy_laws.specs.Questions.{Length}
use Rattle.adequacy_laws.specs.Finished.{Beyond as IsBeyond}
use Rattle.open_net_laws.specs.Applied.{applied}
use Rattle.verilog_tree.specs.Meaning.{Store}
use Rattle.joined_needs.specs.declared.needs.Ending.{Ending}
use Rattle.joined_needs.specs.declared.needs.Ending.TheVariants.{Answered, NoRow, Beyond}
use Rattle.joined_needs.specs.declared.needs.Needs.{Needs}
use Rattle.joined_means.specs.Laws.{AtPorts}
use Rattle.circuit_meaning.specs.Circuit.{Circuit, IsSize, registers_after, IsCircuit}

-- of a term: a value that it means, and its net's length; or that the net's length is absent or above the budget; where there was no row
-- nothing is told of it
abbrev pub TellsOf : TermTree → (budget moves : ℕ) → Ending → Type 0
TellsOf m budget moves (Answered v) = Means m v × (Length (net_of m) v moves × (moves ≤ budget))
TellsOf m budget moves NoRow = Unit {0}
TellsOf m budget moves Beyond = IsBeyond (net_of m) budget

-- what is told to be needed
abbrev pub told_needs : Ending → (cells forks : ℕ) → Option (ℕ × ℕ)
told_needs NoRow cells forks = None
told_needs (Answered v) cells forks = Some (cells, forks)
told_needs Beyond cells forks = Some (cells, forks)

-- these are the counts of a call of the circuit at these arguments within the budget
pub record IsCounted (m : TermTree) (C : Circuit) (vs : List ℕ) (budget : ℕ) (n : Needs) : Type 0 where
  pub tells : TellsOf (applied m vs) budget n.moves n.ending
  -- so many cells and forks are what it needs for so many edges
  pub needs : C.needs vs n.cycles ≡ told_needs n.ending n.cells n.forks
  -- a run beyond the budget was followed for as many edges as may make so many moves
  pub long : n.ending ≡ Beyond → budget ≤ 255 * n.cycles
  -- with these it doesn't tell a value before the last edge, and then it does, where one is told here
  pub done : (cells forks : ℕ) → IsSize cells → IsSize forks → n.cells ≤ cells → n.forks ≤ forks →
      (S : Store) (strays : ℕ → String → ℕ → ℕ) (more : List (List ℕ)) → AtPorts (length vs) more →
      let T = registers_after (C.items cells forks) vs S strays more in
      (length more < n.cycles → T.vec "done" ≡ 0)
      × ((v : Val) → n.ending ≡ Answered v → length more ≡ n.cycles → T.vec "done" ≡ 1)

-- and such a circuit is one of the term
pub record Counts (m : TermTree) (vs : List ℕ) (budget : ℕ) (n : Needs) : Type 0 where
  pub circuit : Circuit
  pub is : IsCircuit m (length vs) circuit
  pub counted : IsCounted m circuit vs budget n
