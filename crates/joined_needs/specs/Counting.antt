-- What is true of the counts so far. No clause of a public call cites it.
use Rattle.std.specs.Prelude.{◌≡◌, ◌<◌, ℕ, Bool, not, ◌&&◌, ◌||◌, nat_lt}
use Rattle.joined_module.specs.Module.{ModuleTable}
use Rattle.joined_edges.specs.Timed.{Timed}
use Rattle.joined_needs.specs.Views.{timed_of}
use Rattle.joined_needs.specs.Edges.{edge_run, edge_cells, edge_forks}
use Rattle.joined_needs.specs.Told.{GoesOn}
use Rattle.joined_needs.specs.declared.needs.Counting.{Counting}

pub record IsCounted (ps : ℕ → ℕ) (T : ModuleTable) (c : Counting) : Type 0 where
  pub run : timed_of c.walk ≡ edge_run ps T c.cycles
  pub cells : c.cells ≡ edge_cells ps T c.cycles
  pub forks : c.forks ≡ edge_forks ps T c.cycles
  pub before : (j : ℕ) → j < c.cycles → GoesOn (edge_run ps T j)

-- it goes on within the budget
abbrev pub goes_on : ℕ → Timed → Bool
goes_on budget t = not t.done && (not t.circuit.full && (t.circuit.ended || nat_lt t.circuit.moves budget))
