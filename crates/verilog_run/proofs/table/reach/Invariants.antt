use Rattle.std.proofs.Common.{◌≡◌, ◌+◌, ◌-◌, ℕ, [], get_or, length}
use Rattle.verilog_run.specs.Entries.{rows}
use Rattle.verilog_run.proofs.table.reach.Given as goal

abbrev pub invariant-loop-alloc : goal.invariant-loop-alloc
invariant-loop-alloc l = (j : ℕ) → get_or (rows l.table) j [] ≡ get_or (rows l.fn.table) j []

abbrev pub decreases-loop-alloc : goal.decreases-loop-alloc
decreases-loop-alloc l = l.k + 1 - length l.table.lists.items
