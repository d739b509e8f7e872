use Rattle.std.proofs.Common.{rules}
use Rattle.goi_tasks.proofs.answer.answer_of.Goals as goal

pub returns-in-Some-Overflow : goal.returns-in-Some-Overflow
returns-in-Some-Overflow c = search rules
