use Rattle.std.proofs.Common.{◌-◌, ◌≤◌}
use Rattle.embedding.specs.Hands.{IsAt}
use Rattle.embedding.proofs.by_hand.walk.Given as goal

abbrev pub invariant-loop-moves : goal.invariant-loop-moves
invariant-loop-moves l = (l.moves ≤ 10000) × IsAt l.net l.core l.moves

abbrev pub decreases-loop-moves : goal.decreases-loop-moves
decreases-loop-moves l = 10000 - l.moves
