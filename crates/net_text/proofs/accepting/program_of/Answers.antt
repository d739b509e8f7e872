use Rattle.std.proofs.Common.{rules}
use Rattle.net_text.proofs.accepting.program_of.Goals as goal

pub returns-in-Err : goal.returns-in-Err
returns-in-Err c = search rules
