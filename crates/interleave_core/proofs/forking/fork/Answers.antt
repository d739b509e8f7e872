use Rattle.move_rules.specs.Views.{token_of}
use Rattle.interleave_core.proofs.Forked.{forked, there, no_entry}
use Rattle.interleave_core.proofs.forking.fork.Goals as goal

pub open-requires-clause-closed : goal.open-requires-clause-closed
open-requires-clause-closed c = no_entry c.args.live.now c.args.joins.now c.args.ticket c.args.at c.args.b (token_of c.in_ok-right.right)
    c.in_ok-right.boxes c.requires.stands c.in_ok-right.ensures

pub send-requires : goal.send-requires
send-requires c = there c.args.live.now c.open.new.live c.args.ticket c.args.next c.args.b (token_of c.in_ok-right.right)
    c.in_ok-right.boxes c.in_ok-right.ensures c.requires.fresh c.in_ok-open.ensures.token

pub returns-clause-ok : goal.returns-clause-ok
returns-clause-ok c =
    forked c.args.live.now c.open.new.live c.send.new.self c.args.joins.now c.open.new.joins c.args.ticket c.args.next c.args.at c.args.a
    c.args.b (token_of c.in_ok-right.right) c.in_ok-right.boxes
    c.in_ok-right.ensures c.requires.fresh c.in_ok-open.ensures.token c.send.ensures c.in_ok-open.ensures.entry
