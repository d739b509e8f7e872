use Rattle.token_pool.proofs.Branching.{grafted_so, live_behind, moves_behind, reached_behind, room_fits, steps_behind}
use Rattle.token_pool.proofs.branches.play_branch.Goals as goal

pub stop_of-stop-requires-clause-room : goal.stop_of-stop-requires-clause-room
stop_of-stop-requires-clause-room g c =
    room_fits c.args.net.now c.args.core.now c.args.held.allowance c.next_ticket-next.result c.next_ticket-next.ensures c.requires.room

pub step_behind-last-requires-clause-reached : goal.step_behind-last-requires-clause-reached
step_behind-last-requires-clause-reached g c =
    let taken = grafted_so g.N.OnNet.net c.args.core.now c.take_over.new.core c.args.held c.args.workers c.args.branch
    c.in_ok-tickets.field-0 c.in-Some.tickets c.in-Some.is c.in_ok-tickets.ensures.taken in
    reached_behind c.args.net.now g.N.OnNet.net c.args.core.now c.take_over.new.core c.args.held c.next_ticket-next.result c.args.workers
    c.args.branch c.in-Some.tickets c.stop_of-stop.result c.requires.named c.requires.room c.stop_of-stop.ensures taken.1.own taken.1.steps

pub step_behind-last-requires-clause-live : goal.step_behind-last-requires-clause-live
step_behind-last-requires-clause-live g c =
    let taken = grafted_so g.N.OnNet.net c.args.core.now c.take_over.new.core c.args.held c.args.workers c.args.branch
    c.in_ok-tickets.field-0 c.in-Some.tickets c.in-Some.is c.in_ok-tickets.ensures.taken in
    live_behind c.args.net.now g.N.OnNet.net c.requires.runs c.args.core.now c.take_over.new.core c.args.held c.next_ticket-next.result
    c.args.workers c.args.branch c.in-Some.tickets c.stop_of-stop.result c.requires.named c.next_ticket-next.ensures c.requires.room
    taken.0 taken.1 c.stop_of-stop.ensures

pub returns-in-Some-clause-moves : goal.returns-in-Some-clause-moves
returns-in-Some-clause-moves g c =
    let taken = grafted_so g.N.OnNet.net c.args.core.now c.take_over.new.core c.args.held c.args.workers c.args.branch
    c.in_ok-tickets.field-0 c.in-Some.tickets c.in-Some.is c.in_ok-tickets.ensures.taken in
    moves_behind c.args.net.now g.N.OnNet.net c.args.core.now c.take_over.new.core c.step_behind-last.new.core c.args.held
    c.next_ticket-next.result c.args.workers c.args.branch c.in-Some.tickets c.stop_of-stop.result c.step_behind-last.result
    c.requires.named c.next_ticket-next.ensures taken.0 taken.1 c.stop_of-stop.ensures
    c.step_behind-last.ensures.some c.step_behind-last.ensures.none

pub returns-in-Some-clause-steps : goal.returns-in-Some-clause-steps
returns-in-Some-clause-steps g c =
    let taken = grafted_so g.N.OnNet.net c.args.core.now c.take_over.new.core c.args.held c.args.workers c.args.branch
    c.in_ok-tickets.field-0 c.in-Some.tickets c.in-Some.is c.in_ok-tickets.ensures.taken in
    steps_behind c.args.net.now g.N.OnNet.net c.args.core.now c.take_over.new.core c.step_behind-last.new.core _ c.stop_of-stop.result
    c.step_behind-last.result c.requires.named taken.1.steps c.step_behind-last.ensures.some c.step_behind-last.ensures.none
