use Rattle.token_pool.proofs.Writing.{one_run}
use Rattle.token_pool.proofs.branches.write_run.Goals as goal

pub returns-then-run-gt0 : goal.returns-then-run-gt0
returns-then-run-gt0 c =
    one_run c.args.worker c.args.ticket c.args.next c.args.log.now c.push_many.new.self c.args.run.count c.args.run.ticket c.name_of.result
    c.name_of.ensures c.push_many.ensures
