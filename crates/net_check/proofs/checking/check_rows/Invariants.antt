use Rattle.net_check.specs.Faults.{MeetBelow}
use Rattle.net_check.proofs.checking.check_rows.Given as goal

abbrev pub invariant-loop-n : goal.invariant-loop-n
invariant-loop-n l = MeetBelow l.net l.n
