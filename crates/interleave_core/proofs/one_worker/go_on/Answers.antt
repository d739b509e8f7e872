use Rattle.std.proofs.Common.{◌-◌, ◌++◌, ◌∙◌, replicate, subst, sym, arith}
use Rattle.interleave_core.specs.Alone.{RunsAlone}
use Rattle.interleave_core.specs.Parts.{state_of, state}
use Rattle.interleave_laws.proofs.Going.{able, fresh, room}
use Rattle.interleave_core.proofs.AloneRuns.{after_walk, goes_on, one_behind}
use Rattle.interleave_core.proofs.one_worker.go_on.Goals as goal

pub returns-then-made-left-clause-alone : goal.returns-then-made-left-clause-alone
returns-then-made-left-clause-alone c =
    let after = after_walk c.args.net.now c.requires.runs c.args.parts.now c.go.new.self c.args.tickets.now c.args.ticket
    c.in_ok-made.made (c.args.budget - c.len.result) c.args.budget c.requires.least c.requires.budget
    (omega (arith, c.len.ensures, c.requires.room)) c.in_ok-made.ensures.ok c.requires.alone in
    subst (λ l. RunsAlone c.args.net.now l (state c.go.new.self c.args.parts.now.joins c.args.parts.now.next c.args.parts.now.answer))
    (sym c.in_ok-add.ensures.ok) after.alone

pub act-requires-clause-stands : goal.act-requires-clause-stands
act-requires-clause-stands c =
    let after = after_walk c.args.net.now c.requires.runs c.args.parts.now c.go.new.self c.args.tickets.now c.args.ticket
    c.in_ok-made.made (c.args.budget - c.len.result) c.args.budget c.requires.least c.requires.budget
    (omega (arith, c.len.ensures, c.requires.room)) c.in_ok-made.ensures.ok c.requires.alone in
    after.still c.if-made-left.false

pub act-requires-clause-able : goal.act-requires-clause-able
act-requires-clause-able c =
    let after = after_walk c.args.net.now c.requires.runs c.args.parts.now c.go.new.self c.args.tickets.now c.args.ticket
    c.in_ok-made.made (c.args.budget - c.len.result) c.args.budget c.requires.least c.requires.budget
    (omega (arith, c.len.ensures, c.requires.room)) c.in_ok-made.ensures.ok c.requires.alone in
    able c.args.net.now c.requires.runs (state c.go.new.self c.args.parts.now.joins c.args.parts.now.next c.args.parts.now.answer)
    (after.reached c.if-made-left.false) c.args.ticket after.least.0

pub act-requires-clause-fresh : goal.act-requires-clause-fresh
act-requires-clause-fresh c =
    let after = after_walk c.args.net.now c.requires.runs c.args.parts.now c.go.new.self c.args.tickets.now c.args.ticket
    c.in_ok-made.made (c.args.budget - c.len.result) c.args.budget c.requires.least c.requires.budget
    (omega (arith, c.len.ensures, c.requires.room)) c.in_ok-made.ensures.ok c.requires.alone in
    fresh c.args.net.now c.requires.runs (state c.go.new.self c.args.parts.now.joins c.args.parts.now.next c.args.parts.now.answer)
    (after.reached c.if-made-left.false)

pub act-requires-clause-room : goal.act-requires-clause-room
act-requires-clause-room c =
    let after = after_walk c.args.net.now c.requires.runs c.args.parts.now c.go.new.self c.args.tickets.now c.args.ticket
    c.in_ok-made.made (c.args.budget - c.len.result) c.args.budget c.requires.least c.requires.budget
    (omega (arith, c.len.ensures, c.requires.room)) c.in_ok-made.ensures.ok c.requires.alone in
    room c.args.net.now c.requires.runs (state c.go.new.self c.args.parts.now.joins c.args.parts.now.next c.args.parts.now.answer)
    (after.reached c.if-made-left.false)

pub returns-clause-alone : goal.returns-clause-alone
returns-clause-alone c =
    let after = after_walk c.args.net.now c.requires.runs c.args.parts.now c.go.new.self c.args.tickets.now c.args.ticket
    c.in_ok-made.made (c.args.budget - c.len.result) c.args.budget c.requires.least c.requires.budget
    (omega (arith, c.len.ensures, c.requires.room)) c.in_ok-made.ensures.ok c.requires.alone in
    goes_on c.args.net.now c.requires.runs (c.args.tickets.now ++ replicate c.in_ok-made.made c.args.ticket)
    (state c.go.new.self c.args.parts.now.joins c.args.parts.now.next c.args.parts.now.answer) after.alone
    c.args.ticket (state_of c.act.new.parts) c.add-2.new.self after.least c.in_ok-act.ensures.steps
    (c.in_ok-add-2.ensures.ok ∙ one_behind c.args.tickets.now c.in_ok-made.made c.args.ticket)
