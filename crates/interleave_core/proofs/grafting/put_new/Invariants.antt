use Rattle.std.specs.FinMap.{len}
use Rattle.interleave_core.proofs.Grafted.{Moved}
use Rattle.interleave_core.proofs.grafting.put_new.Given as goal

abbrev pub invariant-loop-ticket : goal.invariant-loop-ticket
invariant-loop-ticket l = Moved l.fn.live l.fn.theirs l.next l.live l.left

abbrev pub decreases-loop-ticket : goal.decreases-loop-ticket
decreases-loop-ticket l = len l.left
