use Rattle.std.proofs.Common.{◌++◌}
use Rattle.std.specs.Prelude.{codes}
use Rattle.batch_lists.proofs.ListLine.{job_budget, job_name}
use Rattle.batch_lists.proofs.line.job_in.Goals as goal

pub returns-in_default-budget_in : goal.returns-in_default-budget_in
returns-in_default-budget_in c = λ job x.
    c.in_default-budget_in.ensures job.budget (job.file ++ codes "\n")
    (job_budget c.args.line.now c.in-Some.rest.now c.in-Some.ensures job x)

pub returns-in_default-name_in : goal.returns-in_default-name_in
returns-in_default-name_in c = λ job x.
    c.in_default-name_in.ensures job.file
    (job_name c.args.line.now c.in-Some.rest.now c.in-Some.ensures job x c.in-Some-budget_in.budget c.in-Some-budget_in.rest.now
    c.in-Some-budget_in.ensures)
