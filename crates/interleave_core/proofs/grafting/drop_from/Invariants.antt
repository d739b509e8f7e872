use Rattle.std.specs.Prelude.{◌≡◌, ◌<◌, ℕ}
use Rattle.std.specs.FinMap.{get, len}
use Rattle.interleave_core.proofs.grafting.drop_from.Given as goal

abbrev pub invariant-loop-ticket : goal.invariant-loop-ticket
invariant-loop-ticket l = (q : ℕ) → q < l.next → get l.live q ≡ get l.fn.live q

abbrev pub decreases-loop-ticket : goal.decreases-loop-ticket
decreases-loop-ticket l = len l.live
