use Rattle.std.proofs.Common.{rules}
use Rattle.net_text.proofs.print.kind_text.Goals as goal

pub returns-in-Bang : goal.returns-in-Bang
returns-in-Bang c = search rules
