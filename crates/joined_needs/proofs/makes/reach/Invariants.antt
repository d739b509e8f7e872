use Rattle.std.proofs.Common.{◌≡◌, ◌+◌, ◌-◌, ℕ, length}
use Rattle.joined_needs.specs.Views.{cell_at, cells_of}
use Rattle.joined_needs.proofs.makes.reach.Given as goal

abbrev pub invariant-loop-alloc : goal.invariant-loop-alloc
invariant-loop-alloc l = (j : ℕ) → cell_at (cells_of l.cells.items) j ≡ cell_at (cells_of l.fn.cells.items) j

abbrev pub decreases-loop-alloc : goal.decreases-loop-alloc
decreases-loop-alloc l = l.place + 1 - length l.cells.items
