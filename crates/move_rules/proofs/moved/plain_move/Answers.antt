use Rattle.move_rules.proofs.Walking.{once_ok}
use Rattle.move_rules.proofs.moved.plain_move.Goals as goal

pub returns-clause-moved : goal.returns-clause-moved
returns-clause-moved c = once_ok c.args.net.now c.args.token c.walk.result c.walk.ensures.before c.walk.ensures.walked
