use Rattle.std.proofs.Common.{◌++◌, subst}
use Rattle.interleave_laws.specs.Maps.{seen}
use Rattle.walk_text.specs.Traces.{live_lines}
use Rattle.walk_text.proofs.Heading.{LiveFrom, live_begins, live_on}
use Rattle.walk_text.proofs.head.push_live.Goals as goal

pub loop-next-init : goal.loop-next-init
loop-next-init c = live_begins c.args.core.now c.requires.low c.least_live-next.result c.least_live-next.ensures c.args.text.now.items

pub loop-next-preserved : goal.loop-next-preserved
loop-next-preserved c =
    live_on c.args.core.now c.requires.low c.in-Some.ticket c.loop-next.text.items c.push_live_of.new.text.items
    (c.args.text.now.items ++ live_lines (seen c.args.core.now).tokens 0 c.args.core.now.next)
    (subst (λ o. LiveFrom c.args.core.now o c.loop-next.text.items
    (c.args.text.now.items ++ live_lines (seen c.args.core.now).tokens 0 c.args.core.now.next)) c.in-Some.is c.loop-next.invariant)
    c.in_ok-push_live_of.ensures c.next_live-next.result c.next_live-next.ensures
