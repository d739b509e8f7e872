use Rattle.std.proofs.Common.{length}
use Rattle.verilog_run.proofs.cells.+place.Given as goal

abbrev pub decreases-place : goal.decreases-place
decreases-place l = length l.cells.now
