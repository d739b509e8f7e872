use Rattle.std.proofs.Common.{rules, subst}
use Rattle.round_runs.proofs.Moving.{Midst, midst_begins, none_ends, new_ends, is_reached, goes_on}
use Rattle.round_runs.proofs.making.move_all.Goals as goal

pub loop-next-init : goal.loop-next-init
loop-next-init c = midst_begins c.args.net.now c.args.core.now c.args.tickets.now.items c.least_live-next.result c.least_live-next.ensures

pub move_one-requires-clause-reached : goal.move_one-requires-clause-reached
move_one-requires-clause-reached c =
    let S = c.args.core.now in
    let begun = c.args.tickets.now.items in
    is_reached c.args.net.now S c.loop-next.core begun c.loop-next.tickets.items c.in-Some.ticket c.requires.led c.requires.room
    (search rules)
    (subst (Midst c.args.net.now S c.loop-next.core begun c.loop-next.tickets.items) c.in-Some.is c.loop-next.invariant)

pub loop-next-preserved : goal.loop-next-preserved
loop-next-preserved c =
    let S = c.args.core.now in
    let begun = c.args.tickets.now.items in
    goes_on c.args.net.now S c.loop-next.core begun c.loop-next.tickets.items c.in-Some.ticket c.requires.led c.requires.room
    (search rules)
    (subst (Midst c.args.net.now S c.loop-next.core begun c.loop-next.tickets.items) c.in-Some.is c.loop-next.invariant)
    c.move_one.new.core c.move_one.new.tickets.items c.next_live-next.result c.in_ok-move_one.ensures.steps
    c.in_ok-move_one.ensures.log c.next_live-next.ensures

pub returns-then-not-is_older-clause-moves : goal.returns-then-not-is_older-clause-moves
returns-then-not-is_older-clause-moves c =
    let S = c.args.core.now in
    let begun = c.args.tickets.now.items in
    (new_ends c.args.net.now S c.loop-next.core begun c.loop-next.tickets.items c.in-Some.ticket (search rules)
    (subst (Midst c.args.net.now S c.loop-next.core begun c.loop-next.tickets.items) c.in-Some.is c.loop-next.invariant)).0

pub returns-then-not-is_older-clause-log : goal.returns-then-not-is_older-clause-log
returns-then-not-is_older-clause-log c =
    let S = c.args.core.now in
    let begun = c.args.tickets.now.items in
    (new_ends c.args.net.now S c.loop-next.core begun c.loop-next.tickets.items c.in-Some.ticket (search rules)
    (subst (Midst c.args.net.now S c.loop-next.core begun c.loop-next.tickets.items) c.in-Some.is c.loop-next.invariant)).1

pub returns-in_default-clause-moves : goal.returns-in_default-clause-moves
returns-in_default-clause-moves c =
    (none_ends c.args.net.now c.args.core.now c.loop-next.core c.args.tickets.now.items c.loop-next.tickets.items
    (subst (Midst c.args.net.now c.args.core.now c.loop-next.core c.args.tickets.now.items c.loop-next.tickets.items) c.in_default.is
    c.loop-next.invariant)).0

pub returns-in_default-clause-log : goal.returns-in_default-clause-log
returns-in_default-clause-log c =
    (none_ends c.args.net.now c.args.core.now c.loop-next.core c.args.tickets.now.items c.loop-next.tickets.items
    (subst (Midst c.args.net.now c.args.core.now c.loop-next.core c.args.tickets.now.items c.loop-next.tickets.items) c.in_default.is
    c.loop-next.invariant)).1
