use Rattle.std.proofs.Common.{true, false, sym, ◌∙◌}
use Rattle.net_text.proofs.LinesFit.{no_node_here, node_here}
use Rattle.net_text.proofs.node_line.node_at.Goals as goal

pub returns-then-branch : goal.returns-then-branch
returns-then-branch c =
    sym (node_here c.args.k c.args.line.now c.in-Some.node true (sym c.in_ok-node.ensures ∙ c.in-Some.is)
    (sym c.if-branch.true ∙ c.in_ok-is_line-in-Some.ensures))

pub returns-else-branch : goal.returns-else-branch
returns-else-branch c =
    sym (node_here c.args.k c.args.line.now c.in-Some.node false (sym c.in_ok-node.ensures ∙ c.in-Some.is)
    (sym c.if-branch.false ∙ c.in_ok-is_line-in-Some.ensures))

pub returns-in-None : goal.returns-in-None
returns-in-None c = sym (no_node_here c.args.k c.args.line.now (sym c.in_ok-node.ensures ∙ c.in-None.is))
