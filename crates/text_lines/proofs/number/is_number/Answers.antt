use Rattle.std.proofs.Common.{rules}
use Rattle.text_lines.proofs.number.is_number.Goals as goal

pub returns-then-digits-eq48 : goal.returns-then-digits-eq48
returns-then-digits-eq48 c = search rules
