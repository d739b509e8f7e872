-- What the counts say of a circuit: the statements of `law_needs_exact`.
use Rattle.std.specs.Prelude.{◌≡◌, ◌↔◌, ◌≤◌, ℕ, false}
use Rattle.joined_core.specs.Circuit.{Room}
use Rattle.joined_module.specs.Module.{ModuleTable}
use Rattle.joined_edges.specs.Timed.{timed_edges, timed_start}
use Rattle.joined_needs.specs.Edges.{blank, edge_run, edge_cells, edge_forks}

-- a circuit isn't full after so many edges just where there was a row for each of them, and it has as many cells and forks as are in use at
-- once up to there
abbrev pub NeedsExact : Type 0
NeedsExact = (ps : ℕ → ℕ) (T : ModuleTable) (z : Room) (n : ℕ) →
    ((timed_edges ps z T.rows n (timed_start T blank)).circuit.full ≡ false) ↔ (((edge_run ps T n).circuit.full ≡ false)
    × (edge_cells ps T n ≤ z.cells) × (edge_forks ps T n ≤ z.forks))

-- and where it has, it makes these edges
abbrev pub NeedsSame : Type 0
NeedsSame = (ps : ℕ → ℕ) (T : ModuleTable) (z : Room) (n : ℕ) → edge_cells ps T n ≤ z.cells → edge_forks ps T n ≤ z.forks →
    timed_edges ps z T.rows n (timed_start T blank) ≡ edge_run ps T n
