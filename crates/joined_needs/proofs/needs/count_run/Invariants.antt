use Rattle.std.proofs.Common.{◌≤◌, ◌-◌, ℕ, map}
use Rattle.joined_numbers.specs.At.{number_at}
use Rattle.joined_data.specs.Views.{row_view}
use Rattle.joined_needs.specs.Views.{needs_table}
use Rattle.joined_needs.specs.Counting.{IsCounted}
use Rattle.joined_needs.proofs.needs.count_run.Given as goal

abbrev pub invariant-loop-counting : goal.invariant-loop-counting
invariant-loop-counting l =
    ((start : ℕ) → IsCounted (number_at l.ports) (needs_table (map row_view l.rows) start) l.fn.counting →
    IsCounted (number_at l.ports) (needs_table (map row_view l.rows) start) l.counting) × (l.counting.cycles ≤ l.most)

abbrev pub decreases-loop-counting : goal.decreases-loop-counting
decreases-loop-counting l = l.most - l.counting.cycles
