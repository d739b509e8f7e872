use Rattle.std.proofs.Common.{length}
use Rattle.verilog_run.proofs.value.+labelled.Given as goal

abbrev pub decreases-labelled : goal.decreases-labelled
decreases-labelled l = length l.labels.now
