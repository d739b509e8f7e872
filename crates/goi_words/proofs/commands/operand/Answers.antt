use Rattle.std.proofs.Common.{rules}
use Rattle.goi_words.proofs.commands.operand.Goals as goal

pub returns-clause-rule : goal.returns-clause-rule
returns-clause-rule c = search rules
