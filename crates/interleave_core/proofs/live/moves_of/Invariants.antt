use Rattle.std.specs.Prelude.{◌≤◌, ◌-◌}
use Rattle.interleave_core.specs.Moving.{Makes}
use Rattle.interleave_core.proofs.live.moves_of.Given as goal

abbrev pub invariant-loop-made : goal.invariant-loop-made
invariant-loop-made l = Makes l.net l.made l.fn.token l.token × (l.made ≤ l.most)

abbrev pub decreases-loop-made : goal.decreases-loop-made
decreases-loop-made l = l.most - l.made
