use Rattle.std.proofs.Common.{sym, ap, ◌∙◌}
use Rattle.interleave_core.specs.Roles.{role_move}
use Rattle.interleave_core.proofs.Meeting.{met_node, met_none}
use Rattle.interleave_core.proofs.roles.met.Goals as goal

pub returns-in-Some-clause-plays : goal.returns-in-Some-clause-plays
returns-in-Some-clause-plays c =
    met_node c.args.net.now c.args.token.now c.faced.result c.in-Some.seen c.faced.ensures c.in-Some.is c.requires
    ∙ ap (λ r. role_move r c.in-Some.seen.at c.args.token.now.stacks.boxes) (sym c.role_played.ensures)

pub returns-in-None-clause-plays : goal.returns-in-None-clause-plays
returns-in-None-clause-plays c = met_none c.args.net.now c.args.token.now c.faced.result c.faced.ensures c.in-None.is
