use Rattle.std.proofs.Common.{◌≡◌, length, None, sym, ap, ◌∙◌, subst, arith}
use Rattle.interleave_laws.specs.Maps.{seen}
use Rattle.adequacy_laws.specs.Questions.{Span}
use Rattle.round_laws.specs.Rounds.{live_of}
use Rattle.round_laws.specs.AfterRounds.{rounds}
use Rattle.round_runs.proofs.Going.{made_count, made_some, made_span, made_beyond, made_spent, less_left}
use Rattle.round_runs.proofs.rounds.run_rounds.Goals as goal

pub round_on-requires-clause-room : goal.round_on-requires-clause-room
round_on-requires-clause-room c =
    let made = c.loop-made.made in
    let count = made_count c.args.net.now made.tickets.items made.profile.items made.widest made.core c.loop-made.invariant.0
    c.requires.runs in
    let fits = c.goes_on.ensures.fits c.loop-made-test.true in
    let most = c.requires.budget.1 in
    omega (arith, count, fits, most)

pub loop-made-smaller : goal.loop-made-smaller
loop-made-smaller c =
    let made = c.loop-made.made in
    let none = c.goes_on.ensures.unanswered c.loop-made-test.true in
    let count = made_count c.args.net.now made.tickets.items made.profile.items made.widest made.core c.loop-made.invariant.0
    c.requires.runs in
    let fits = c.goes_on.ensures.fits c.loop-made-test.true in
    let some = made_some c.args.net.now made.tickets.items made.profile.items made.widest made.core c.loop-made.invariant.0
    c.requires.runs none in
    less_left c.args.budget (length made.tickets.items) (length c.round_on.new.made.tickets.items) (length (live_of (seen made.core)))
    c.in_ok-round_on.ensures.more some (omega (arith, count, fits))

pub loop-made-preserved : goal.loop-made-preserved
loop-made-preserved c =
    let made = c.loop-made.made in
    let count = made_count c.args.net.now made.tickets.items made.profile.items made.widest made.core c.loop-made.invariant.0
    c.requires.runs in
    let fits = c.goes_on.ensures.fits c.loop-made-test.true in
    let more = c.in_ok-round_on.ensures.more in
    (c.in_ok-round_on.ensures.made, omega (arith, count, fits, more))

pub returns-clause-answer : goal.returns-clause-answer
returns-clause-answer c =
    let made = c.loop-made.made in
    let i = c.loop-made.invariant.0 in
    (made.core, i.led, ap (rounds c.args.net.now) (c.len.ensures ∙ made.profile.ok.0) ∙ i.at, c.answer.ensures)

pub returns-clause-span : goal.returns-clause-span
returns-clause-span c = λ v h.
    let made = c.loop-made.made in
    subst (Span c.args.net.now v) (sym (c.len.ensures ∙ made.profile.ok.0))
    (made_span c.args.net.now made.tickets.items made.profile.items made.widest made.core c.loop-made.invariant.0 c.requires.runs v
    (sym c.answer.ensures ∙ h))

pub returns-clause-beyond : goal.returns-clause-beyond
returns-clause-beyond c = λ h.
    let made = c.loop-made.made in
    let none : made.core.answered ≡ None = sym c.answer.ensures ∙ h in
    let count = made_count c.args.net.now made.tickets.items made.profile.items made.widest made.core c.loop-made.invariant.0
    c.requires.runs in
    let over = c.goes_on.ensures.ends c.loop-made-test.false none in
    made_beyond c.args.net.now made.tickets.items made.profile.items made.widest made.core c.loop-made.invariant.0 c.requires.runs
    c.args.budget (omega (arith, count, over))

pub returns-clause-spent : goal.returns-clause-spent
returns-clause-spent c = λ h.
    let made = c.loop-made.made in
    let none : made.core.answered ≡ None = sym c.answer.ensures ∙ h in
    let count = made_count c.args.net.now made.tickets.items made.profile.items made.widest made.core c.loop-made.invariant.0
    c.requires.runs in
    let over = c.goes_on.ensures.ends c.loop-made-test.false none in
    made_spent c.args.net.now made.tickets.items made.profile.items made.widest made.core c.loop-made.invariant.0 c.requires.runs
    c.args.budget c.len.result (c.len.ensures ∙ made.profile.ok.0) (omega (arith, count, over))
