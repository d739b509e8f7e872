use Rattle.std.proofs.Common.{ap}
use Rattle.goi_jobs.specs.declared.shown.Shown.{Shown}
use Rattle.goi_jobs.specs.declared.task.Task.TheVariants.{RunNet}
use Rattle.goi_tasks.proofs.asked.net_task.Goals as goal

pub returns : goal.returns
returns c = ap (λ (s : Shown). RunNet c.args.budget s) c.only_schedule.ensures
