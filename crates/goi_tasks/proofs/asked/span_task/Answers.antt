use Rattle.std.proofs.Common.{ap}
use Rattle.program_runs.specs.declared.calling.Calling.{Calling}
use Rattle.goi_jobs.specs.declared.task.Task.TheVariants.{Span}
use Rattle.goi_tasks.specs.Asked.{profile_in, schedule_in}
use Rattle.goi_tasks.proofs.asked.span_task.Goals as goal

pub returns : goal.returns
returns c =
    let flags = c.args.flags in
    ap (λ (k : Calling). Span c.args.budget k (profile_in flags) (schedule_in flags)) c.calling_of.ensures
