use Rattle.joined_core.proofs.Time.{rows_move, rows_answer, rows_compute}
use Rattle.joined_core.proofs.laws.law_joined_time.Goals as goal

pub returns-clause-each : goal.returns-clause-each
returns-clause-each c = rows_move

pub returns-clause-answers : goal.returns-clause-answers
returns-clause-answers c m h = rows_answer m h (c.law_built_sound.ensures m h)

pub returns-clause-computes : goal.returns-clause-computes
returns-clause-computes c m h = rows_compute m h (c.law_built_sound.ensures m h)
