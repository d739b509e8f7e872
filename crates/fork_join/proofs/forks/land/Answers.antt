use Rattle.std.proofs.Common.{sym}
use Rattle.fork_join.proofs.Nesting.{taken_out}
use Rattle.fork_join.proofs.forks.land.Goals as goal

pub returns-in-Both-clause-rest : goal.returns-in-Both-clause-rest
returns-in-Both-clause-rest c =
    taken_out c.args.forks.now c.keep_first-arrived.new.forks c.close.new.forks c.args.boxes.now _ c.args.side c.args.v c.in-Both.field-0
    (sym c.in-Both.ensures.arrived) c.keep_first-arrived.ensures.rest c.close.ensures
