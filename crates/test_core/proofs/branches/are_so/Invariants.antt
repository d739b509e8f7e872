use Rattle.std.proofs.Common.{◌+◌, ◌≤◌}
use Rattle.interleave_laws.specs.MapRuns.{IsReachedWithin}
use Rattle.test_core.proofs.branches.are_so.Given as goal

abbrev pub invariant-loop-row : goal.invariant-loop-row
invariant-loop-row g l =
    (goal.iterator-loop-row g).can_next l.row-iterator ×
    (goal.iterator-loop-row g).is_finite l.row-iterator ×
    (l.moves ≤ 2000) ×
    IsReachedWithin g.N.OnNet.net (l.moves + 1) l.core
