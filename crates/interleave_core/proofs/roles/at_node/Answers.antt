use Rattle.std.proofs.Common.{sym, ap, ◌∙◌}
use Rattle.interleave_core.specs.Roles.{role_at}
use Rattle.interleave_core.proofs.roles.at_node.Goals as goal

pub returns-in-Root : goal.returns-in-Root
returns-in-Root c = c.last.ensures c.in-Root.wire c.args.wire ∙ ap (λ n. role_at n c.args.kind c.args.up c.args.wire) (sym c.in-Root.is)
