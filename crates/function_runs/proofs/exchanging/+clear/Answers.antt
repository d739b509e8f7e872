use Rattle.std.proofs.Common.{arith}
use Rattle.function_runs.proofs.Numbering.{no_zeros, one_zero}
use Rattle.function_runs.proofs.exchanging.+clear.Goals as goal

pub returns-then-count-gt0 : goal.returns-then-count-gt0
returns-then-count-gt0 t c =
    one_zero c.args.first c.args.count c.args.net.now c.set_number.new.self c.clear.new.net (omega (arith, c.if-count-gt0.true))
    c.set_number.ensures c.clear.ensures

pub returns-else-count-gt0 : goal.returns-else-count-gt0
returns-else-count-gt0 t c = no_zeros c.args.first c.args.count c.args.net.now (omega (arith, c.if-count-gt0.false))
