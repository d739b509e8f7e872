-- What is told of a run within a budget of moves.
use Rattle.std.specs.Prelude.{◌≡◌, ◌⊎◌, ◌<◌, ◌≤◌, ℕ, suc, ◌*◌, min, true, false}
use Rattle.joined_module.specs.Module.{ModuleTable}
use Rattle.joined_edges.specs.Timed.{Timed}
use Rattle.joined_needs.specs.Edges.{edge_run, edge_cells, edge_forks}
use Rattle.joined_needs.specs.declared.needs.Ending.{Ending}
use Rattle.joined_needs.specs.declared.needs.Ending.TheVariants.{Answered, NoRow, Beyond}
use Rattle.joined_needs.specs.declared.needs.Needs.{Needs}

-- neither has the value been told, nor was there no row
abbrev pub GoesOn : Timed → Type 0
GoesOn t = (t.done ≡ false) × (t.circuit.full ≡ false)

-- as many edges as a program's run of so many moves takes at most
abbrev pub most_edges : ℕ → ℕ
most_edges budget = 133 * suc budget

-- the budget is spent: the run is longer, or goes on after as many moves, or after as many edges
abbrev pub Spent : (budget edges : ℕ) → Timed → Type 0
Spent budget edges t =
    ((t.done ≡ true) × (budget < t.circuit.moves)) ⊎ (((t.circuit.ended ≡ false) × (budget ≤ t.circuit.moves))
    ⊎ ((t.done ≡ false) × (edges ≡ most_edges budget)))

-- how the run ends after so many edges
abbrev pub EndsSo : (budget edges : ℕ) → Timed → Ending → Type 0
EndsSo budget edges t (Answered v) =
    (t.done ≡ true) × ((t.circuit.full ≡ false) × ((t.circuit.value ≡ v) × (t.circuit.moves ≤ budget)))
EndsSo budget edges t NoRow = t.circuit.full ≡ true
EndsSo budget edges t Beyond = (t.circuit.full ≡ false) × Spent budget edges t

-- the counts are those of the run, which goes on before its last edge, and ends so
pub record NeedsTold (ps : ℕ → ℕ) (T : ModuleTable) (budget : ℕ) (n : Needs) : Type 0 where
  pub cells : n.cells ≡ edge_cells ps T n.cycles
  pub forks : n.forks ≡ edge_forks ps T n.cycles
  pub before : (j : ℕ) → j < n.cycles → GoesOn (edge_run ps T j)
  pub moves : n.moves ≡ min (edge_run ps T n.cycles).circuit.moves budget
  pub ends : EndsSo budget n.cycles (edge_run ps T n.cycles) n.ending
