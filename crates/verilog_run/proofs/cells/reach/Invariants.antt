use Rattle.std.proofs.Common.{◌≡◌, ◌+◌, ◌-◌, ℕ, get_or, length}
use Rattle.verilog_run.proofs.cells.reach.Given as goal

abbrev pub invariant-loop-alloc : goal.invariant-loop-alloc
invariant-loop-alloc l = (j : ℕ) → get_or l.numbers.items j 0 ≡ get_or l.fn.numbers.items j 0

abbrev pub decreases-loop-alloc : goal.decreases-loop-alloc
decreases-loop-alloc l = l.at + 1 - length l.numbers.items
