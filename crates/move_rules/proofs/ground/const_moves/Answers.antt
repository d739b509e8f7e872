use Rattle.std.proofs.Common.{rules}
use Rattle.move_rules.proofs.ground.const_moves.Goals as goal

pub returns-in-Ask : goal.returns-in-Ask
returns-in-Ask c = search rules
