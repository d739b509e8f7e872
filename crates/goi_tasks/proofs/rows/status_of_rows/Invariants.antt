use Rattle.std.proofs.Common.{◌≡◌, drop}
use Rattle.goi_tasks.specs.Numbers.{rows_status}
use Rattle.goi_tasks.proofs.rows.status_of_rows.Given as goal

abbrev pub invariant-loop-i : goal.invariant-loop-i
invariant-loop-i l = rows_status (drop l.i l.answers) ≡ rows_status l.answers
