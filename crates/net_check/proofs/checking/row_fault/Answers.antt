use Rattle.std.proofs.Common.{rules}
use Rattle.net_check.proofs.checking.row_fault.Goals as goal

pub returns-then-not-depths_meet : goal.returns-then-not-depths_meet
returns-then-not-depths_meet c = search rules
