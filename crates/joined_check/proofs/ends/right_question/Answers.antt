use Rattle.std.proofs.Common.{◌≡◌, sym, ap, ◌∙◌}
use Rattle.joined_core.specs.Right.{right_of}
use Rattle.joined_check.proofs.Ported.{question_here}
use Rattle.joined_check.proofs.ends.right_question.Goals as goal

pub returns-in-Some : goal.returns-in-Some
returns-in-Some c =
    c.right_of.ensures ∙ sym (question_here c.args.net.now c.args.ports.now c.args.node ∙ ap right_of (sym c.node.ensures ∙ c.in-Some.is))

pub returns-in-None : goal.returns-in-None
returns-in-None c = sym (question_here c.args.net.now c.args.ports.now c.args.node ∙ ap right_of (sym c.node.ensures ∙ c.in-None.is))
