use Rattle.std.proofs.Common.{ap}
use Rattle.program_runs.specs.declared.calling.Calling.{Calling}
use Rattle.goi_jobs.specs.declared.task.Task.TheVariants.{Trace}
use Rattle.goi_tasks.proofs.asked.trace_task.Goals as goal

pub returns : goal.returns
returns c = ap (λ (k : Calling). Trace c.args.budget k c.args.window) c.calling_of.ensures
