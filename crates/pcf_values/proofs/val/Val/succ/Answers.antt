use Rattle.std.proofs.Common.{rules}
use Rattle.pcf_values.proofs.val.Val.succ.Goals as goal

pub returns-in-Number : goal.returns-in-Number
returns-in-Number c = search rules
