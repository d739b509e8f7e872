use Rattle.std.proofs.Common.{arith}
use Rattle.function_runs.proofs.Numbering.{no_more, one_more, head_tail}
use Rattle.function_runs.proofs.exchanging.+exchange.Goals as goal

pub returns-in_default-clause-net : goal.returns-in_default-clause-net
returns-in_default-clause-net t c = let h = c.in_default.len_below in no_more c.args.first c.args.values.now c.args.net.now (omega arith)

pub returns-in-len1-up-clause-net : goal.returns-in-len1-up-clause-net
returns-in-len1-up-clause-net t c =
    let l = c.in-len1-up.len_at_least in
    one_more c.args.first _ c.args.values.now _ c.args.net.now c.set_number.new.self c.exchange.new.net
    (head_tail c.args.values.now _ (omega arith)) c.set_number.ensures c.exchange.ensures.net
