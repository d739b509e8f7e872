use Rattle.interleave_laws.proofs.AnyOrder.{alike_steps, alike_runs, any_order}
use Rattle.interleave_laws.proofs.laws.law_any_order.Goals as goal

pub returns-clause-steps : goal.returns-clause-steps
returns-clause-steps c = alike_steps

pub returns-clause-runs : goal.returns-clause-runs
returns-clause-runs c = λ net sound log log' S T leads leads' alike rest. alike_runs net sound rest log log' S T leads leads' alike

pub returns-clause-order : goal.returns-clause-order
returns-clause-order c = any_order
