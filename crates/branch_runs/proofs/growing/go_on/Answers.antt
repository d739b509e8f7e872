use Rattle.branch_runs.proofs.Grown.{goes_on}
use Rattle.branch_runs.proofs.growing.go_on.Goals as goal

pub returns-clause-goes : goal.returns-clause-goes
returns-clause-goes c =
    goes_on c.act_on.result c.args.net.now c.args.most c.args.log.now c.walk_on.new.log _ c.walk_on.new.core _ c.args.ticket
    c.in_ok-walk_on.ensures.longer c.in_ok-walk_on.ensures.newest c.act_on.ensures.goes
