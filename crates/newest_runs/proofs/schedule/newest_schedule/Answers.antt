use Rattle.std.proofs.Common.{sym, ap, ◌∙◌}
use Rattle.newest_core.proofs.Schedule.{is_stack}
use Rattle.schedule_log.specs.Logs.{by}
use Rattle.newest_runs.proofs.Going.{led_to, tells}
use Rattle.newest_runs.proofs.schedule.newest_schedule.Goals as goal

pub returns-clause-log : goal.returns-clause-log
returns-clause-log c =
    let e = c.in_ok-write_run.ensures in
    e.written ∙ ap (by 0) (e.whole ∙ is_stack c.args.net.now c.requires.runs c.args.budget)

pub returns-clause-answer : goal.returns-clause-answer
returns-clause-answer c =
    let now = c.write_run.new.moving in
    let e = c.in_ok-write_run.ensures in (
      now.core,
      led_to c.args.net.now c.requires.runs now.core now.turn now.moves e.moved c.args.budget e.whole,
      c.answer.ensures,
    )

pub returns-clause-as_long : goal.returns-clause-as_long
returns-clause-as_long c = λ v h.
    let now = c.write_run.new.moving in
    let e = c.in_ok-write_run.ensures in
    let told = tells c.args.net.now c.requires.runs now.core now.turn now.moves e.moved c.args.budget e.whole in
    (told.as_long v (sym c.answer.ensures ∙ h)).0

pub returns-clause-beyond : goal.returns-clause-beyond
returns-clause-beyond c = λ h.
    let now = c.write_run.new.moving in
    let e = c.in_ok-write_run.ensures in
    let told = tells c.args.net.now c.requires.runs now.core now.turn now.moves e.moved c.args.budget e.whole in
    let none = sym c.answer.ensures ∙ h in
    (told.unanswered.0 none, told.spent none)
