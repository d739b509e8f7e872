use Rattle.std.proofs.Common.{◌≡◌}
use Rattle.test_core.proofs.pool_games.are_so.Given as goal

abbrev pub invariant-loop-row : goal.invariant-loop-row
invariant-loop-row l = (goal.iterator-loop-row).can_next l.row-iterator × (goal.iterator-loop-row).is_finite l.row-iterator ×
    (l.workers ≡ l.pool.workers)
