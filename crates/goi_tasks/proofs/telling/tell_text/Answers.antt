use Rattle.program_runs.specs.Programs.{wanted_by_run}
use Rattle.goi_tasks.proofs.RunReports.{tells_text}
use Rattle.goi_tasks.proofs.Texts.{no_net}
use Rattle.goi_tasks.proofs.telling.tell_text.Goals as goal

pub returns-clause-told : goal.returns-clause-told
returns-clause-told g c =
    tells_text c.args.calling (g.C.Crew.count c.args.crew.now) c.args.budget c.args.bytes.now c.in_ok-ended.ended.answer
    c.in_ok-ended.ended.log.entries c.len.result c.in_ok-ended.ensures.run c.len.ensures

pub returns-in_err-ended-clause-fault : goal.returns-in_err-ended-clause-fault
returns-in_err-ended-clause-fault g c =
    no_net (wanted_by_run c.args.calling) c.args.bytes.now c.from_residual.result _ c.from_residual.ensures.1 c.in_err-ended.ensures.fault
