use Rattle.std.proofs.Common.{◌-◌, ◌+◌}
use Rattle.interleave_laws.specs.MapRuns.{IsReachedWithin}
use Rattle.test_core.proofs.stepping.in_turn.Given as goal

abbrev pub invariant-loop-moves : goal.invariant-loop-moves
invariant-loop-moves l = IsReachedWithin l.net (l.moves + 1) l.core

abbrev pub decreases-loop-moves : goal.decreases-loop-moves
decreases-loop-moves l = 1000 - l.moves
