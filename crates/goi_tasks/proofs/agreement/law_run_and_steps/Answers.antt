use Rattle.goi_tasks.proofs.Agreeing.{run_and_steps_agree}
use Rattle.goi_tasks.proofs.agreement.law_run_and_steps.Goals as goal

pub returns : goal.returns
returns c = run_and_steps_agree c.law_one_program.ensures c.law_one_value.ensures
