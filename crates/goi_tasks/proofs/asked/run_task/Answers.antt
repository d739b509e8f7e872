use Rattle.std.proofs.Common.{ap, ◌∙◌}
use Rattle.program_runs.specs.declared.calling.Calling.{Calling}
use Rattle.program_runs.specs.Programs.{calling_of}
use Rattle.goi_jobs.specs.declared.shown.Shown.{Shown}
use Rattle.goi_jobs.specs.declared.task.Task.TheVariants.{Run}
use Rattle.goi_tasks.specs.Asked.{by_value_in}
use Rattle.goi_tasks.proofs.asked.run_task.Goals as goal

pub returns : goal.returns
returns c =
    ap (λ (k : Calling). Run c.args.budget k c.only_schedule.result) c.calling_of.ensures ∙
    ap (λ (s : Shown). Run c.args.budget (calling_of (by_value_in c.args.flags)) s) c.only_schedule.ensures
