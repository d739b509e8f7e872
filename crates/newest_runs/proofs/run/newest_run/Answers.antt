use Rattle.std.proofs.Common.{sym, ◌∙◌, subst}
use Rattle.adequacy_laws.specs.Questions.{Length}
use Rattle.newest_runs.proofs.Going.{led_to, long, tells}
use Rattle.newest_runs.proofs.run.newest_run.Goals as goal

pub returns-clause-moves : goal.returns-clause-moves
returns-clause-moves c =
    let now = c.make_run.new.moving in
    let e = c.in_ok-make_run.ensures in
    long c.args.net.now c.requires.runs now.core now.turn now.moves e.moved c.args.budget e.whole

pub returns-clause-answer : goal.returns-clause-answer
returns-clause-answer c =
    let now = c.make_run.new.moving in
    let e = c.in_ok-make_run.ensures in (
      now.core,
      led_to c.args.net.now c.requires.runs now.core now.turn now.moves e.moved c.args.budget e.whole,
      c.answer.ensures,
    )

pub returns-clause-as_long : goal.returns-clause-as_long
returns-clause-as_long c = λ v h.
    let net = c.args.net.now in
    let now = c.make_run.new.moving in
    let e = c.in_ok-make_run.ensures in
    let told = tells net c.requires.runs now.core now.turn now.moves e.moved c.args.budget e.whole in
    let many = long net c.requires.runs now.core now.turn now.moves e.moved c.args.budget e.whole in
    subst (Length net v) (sym many) (told.as_long v (sym c.answer.ensures ∙ h)).0

pub returns-clause-beyond : goal.returns-clause-beyond
returns-clause-beyond c = λ h.
    let net = c.args.net.now in
    let now = c.make_run.new.moving in
    let e = c.in_ok-make_run.ensures in
    let told = tells net c.requires.runs now.core now.turn now.moves e.moved c.args.budget e.whole in
    let many = long net c.requires.runs now.core now.turn now.moves e.moved c.args.budget e.whole in
    let none = sym c.answer.ensures ∙ h in
    (told.unanswered.0 none, many ∙ told.spent none)
