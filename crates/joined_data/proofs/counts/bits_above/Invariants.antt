use Rattle.std.proofs.Common.{◌≡◌, ◌<◌, ◌≤◌, ◌-◌, ◌+◌, ◌^◌, suc}
use Rattle.circuit_module.specs.Sizes.{bits_from, bits_for}
use Rattle.joined_data.proofs.counts.bits_above.Given as goal

abbrev pub invariant-loop-power : goal.invariant-loop-power
invariant-loop-power l =
    (l.power ≡ 2 ^ l.bits) × (l.bits < l.power) × (l.bits ≤ 64) × (bits_from (suc l.n - l.bits) l.bits (suc l.n) ≡ bits_for (suc l.n))

abbrev pub decreases-loop-power : goal.decreases-loop-power
decreases-loop-power l = suc l.n - l.power
