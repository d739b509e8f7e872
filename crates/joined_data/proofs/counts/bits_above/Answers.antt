use Rattle.std.proofs.Common.{◌<◌, ◌≤◌, ◌^◌, arith}
use Rattle.joined_data.proofs.Powers.{one_more, found_bits}
use Rattle.joined_data.proofs.counts.bits_above.Goals as goal

pub loop-power-preserved : goal.loop-power-preserved
loop-power-preserved c =
    let at = c.loop-power.invariant in
    let less : c.loop-power.power ≤ c.args.n = omega arith in
    let small : c.args.n < 2 ^ 64 = omega arith in
    one_more c.args.n c.loop-power.bits c.loop-power.power small less at.0 at.1 at.3

pub returns-clause-bits : goal.returns-clause-bits
returns-clause-bits c =
    let at = c.loop-power.invariant in
    let more : c.args.n < c.loop-power.power = omega arith in
    found_bits c.args.n c.loop-power.bits c.loop-power.power at.0 more at.3
