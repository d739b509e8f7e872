use Rattle.std.proofs.Common.{◌≡◌, ℕ, ◌<◌, Some}
use Rattle.std.specs.Prelude.{slice_get}
use Rattle.net_check.proofs.loose.first_odd.Given as goal

abbrev pub invariant-loop-n : goal.invariant-loop-n
invariant-loop-n l = (m : ℕ) → m < l.n → (slice_get l.below_nodes m ≡ Some 1) × (slice_get l.above_nodes m ≡ Some 1)
