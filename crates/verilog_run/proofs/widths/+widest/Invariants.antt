use Rattle.std.proofs.Common.{length}
use Rattle.verilog_run.proofs.widths.+widest.Given as goal

abbrev pub decreases-widest : goal.decreases-widest
decreases-widest l = length l.labels.now
