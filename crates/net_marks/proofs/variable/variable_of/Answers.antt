use Rattle.std.proofs.Common.{rules}
use Rattle.net_marks.proofs.variable.variable_of.Goals as goal

pub returns-then-mark-binders : goal.returns-then-mark-binders
returns-then-mark-binders c = search rules
