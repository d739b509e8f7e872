use Rattle.goi_tasks.proofs.RunReports.{run_few, run_leads}
use Rattle.goi_tasks.proofs.running.told_walk.Goals as goal

pub push_trace-requires-clause-leads : goal.push_trace-requires-clause-leads
push_trace-requires-clause-leads c =
    run_leads c.args.net.now c.args.workers c.args.budget c.args.answer c.args.log.now.entries c.requires.run

pub push_trace-requires-clause-few : goal.push_trace-requires-clause-few
push_trace-requires-clause-few c =
    run_few c.args.net.now c.args.workers c.args.budget c.args.answer c.args.log.now.entries c.requires.budget c.requires.run
