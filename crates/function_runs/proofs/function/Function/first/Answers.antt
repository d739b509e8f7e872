use Rattle.function_runs.proofs.Calling.{first_is, few_nodes}
use Rattle.function_runs.proofs.function.Function.first.Goals as goal

pub returns-clause-first : goal.returns-clause-first
returns-clause-first c =
    let kept = c.self.inside in
    first_is kept.program.value kept.net kept.first kept.arguments _ c.self.invariant c.self.view_is

pub returns-clause-few : goal.returns-clause-few
returns-clause-few c =
    let kept = c.self.inside in
    few_nodes kept.program.value kept.net kept.first kept.arguments _ c.self.invariant c.self.view_is
