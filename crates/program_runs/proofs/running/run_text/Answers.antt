use Rattle.program_runs.proofs.Telling.{text_run}
use Rattle.program_runs.proofs.running.run_text.Goals as goal

pub returns-clause-run : goal.returns-clause-run
returns-clause-run g c =
    let run = c.in_ok-ended.ended in
    text_run c.args.calling c.args.bytes.now c.in_ok-net.net c.in_ok-net.ensures.net (g.C.Crew.count c.args.crew.now) c.args.budget
    run.answer run.log.entries c.in_ok-ended.ensures.run c.in_ok-ended.ensures.alone
