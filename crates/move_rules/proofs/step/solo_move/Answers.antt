use Rattle.move_rules.proofs.Single.{made, not_made}
use Rattle.move_rules.proofs.step.solo_move.Goals as goal

pub returns-then-branch-clause-ok : goal.returns-then-branch-clause-ok
returns-then-branch-clause-ok c =
    made c.args.net.now c.args.token.now c.pass.new.token c.faced.result c.in-Some.seen _ c.faced.ensures c.in-Some.is
    c.in_ok-pass.ensures.ok c.if-branch.true

pub returns-else-branch-clause-ok : goal.returns-else-branch-clause-ok
returns-else-branch-clause-ok c =
    not_made c.args.net.now c.args.token.now c.pass.new.token c.faced.result c.in-Some.seen _ c.faced.ensures c.in-Some.is
    c.in_ok-pass.ensures.ok c.if-branch.false
