use Rattle.std.proofs.Common.{rules}
use Rattle.std.proofs.Common.{refl, subst}
use Rattle.move_rules.specs.Places.{place_of}
use Rattle.move_rules.specs.Stacks.{boxes_at}
use Rattle.interleave_core.specs.Roles.{MetAt}
use Rattle.interleave_core.proofs.owning.act_own.Goals as goal

pub has_entry-own-requires : goal.has_entry-own-requires
has_entry-own-requires c =
    let met = MetAt c.args.net.now c.args.parts.now.live c.args.ticket c.met_at-at.result.0 in
    let (x, e, m, idle) = subst met c.in-Join.is c.met_at-at.ensures in
    (boxes_at (place_of x), (x, e, idle, refl))

pub returns-in-Last-clause-ok : goal.returns-in-Last-clause-ok
returns-in-Last-clause-ok c = search rules

pub meet-requires-clause-able : goal.meet-requires-clause-able
meet-requires-clause-able c = search rules
