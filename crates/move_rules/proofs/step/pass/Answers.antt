use Rattle.std.proofs.Common.{rules}
use Rattle.move_rules.proofs.step.pass.Goals as goal

pub returns-in-Pair-clause-ok : goal.returns-in-Pair-clause-ok
returns-in-Pair-clause-ok c = search rules

pub returns-in-Binary-clause-ok : goal.returns-in-Binary-clause-ok
returns-in-Binary-clause-ok c = search rules
