use Rattle.std.proofs.Common.{◌≡◌, ◌++◌, drop}
use Rattle.verilog_run.specs.Entries.{entries}
use Rattle.verilog_run.proofs.copies.add_cells.Given as goal

abbrev pub invariant-loop-cell : goal.invariant-loop-cell
invariant-loop-cell l = entries l.out.items ++ entries (drop l.cell-index l.cells) ≡ entries l.fn.out.items ++ entries l.cells
