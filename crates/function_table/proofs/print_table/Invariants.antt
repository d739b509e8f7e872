use Rattle.std.proofs.Common.{◌≡◌}
use Rattle.function_table.proofs.print_table.Given as goal

abbrev pub invariant-loop-n : goal.invariant-loop-n
invariant-loop-n l = l.function.1 ≡ 1
