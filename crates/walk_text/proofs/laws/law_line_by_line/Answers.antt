use Rattle.walk_text.proofs.Going.{line_is_state, each_line}
use Rattle.walk_text.proofs.There.{step_has_line}
use Rattle.walk_text.proofs.laws.law_line_by_line.Goals as goal

pub returns-clause-state : goal.returns-clause-state
returns-clause-state c = line_is_state

pub returns-clause-there : goal.returns-clause-there
returns-clause-there c = step_has_line

pub returns-clause-each : goal.returns-clause-each
returns-clause-each c = each_line
