use Rattle.std.proofs.Common.{[], sym, subst}
use Rattle.round_runs.specs.Making.{IsMade}
use Rattle.round_runs.proofs.Going.{made_none}
use Rattle.round_runs.proofs.rounds.begin.Goals as goal

pub returns-clause-made : goal.returns-clause-made
returns-clause-made c =
    subst (λ l. IsMade c.args.net.now l c.new-2.result.items 0 c.in_ok-core.core) (sym c.new.ensures.items)
    (subst (λ l. IsMade c.args.net.now [] l 0 c.in_ok-core.core) (sym c.new-2.ensures.items)
    (subst (IsMade c.args.net.now [] [] 0) (sym c.in_ok-core.ensures) (made_none c.args.net.now)))
