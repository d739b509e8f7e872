use Rattle.std.proofs.Common.{length}
use Rattle.verilog_run.proofs.cells.+find.Given as goal

abbrev pub decreases-find : goal.decreases-find
decreases-find l = length l.cells.now
