use Rattle.std.proofs.Common.{◌∙◌, sym, ap}
use Rattle.std.specs.Option.{option_map}
use Rattle.move_rules.proofs.Single.{step_made}
use Rattle.move_rules.proofs.step.solo_step.Goals as goal

pub returns-clause-ok : goal.returns-clause-ok
returns-clause-ok c =
    step_made c.args.net.now c.args.token.now c.pass.new.token c.in-Some.node.now c.in_ok-made.made
    (sym (ap (option_map (λ n. n.now)) c.in-Some.is) ∙ c.faced_node.ensures) c.in_ok-made.ensures.ok
