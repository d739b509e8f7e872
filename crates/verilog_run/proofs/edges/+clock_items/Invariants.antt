use Rattle.std.proofs.Common.{length}
use Rattle.verilog_run.proofs.edges.+clock_items.Given as goal

abbrev pub decreases-clock_items : goal.decreases-clock_items
decreases-clock_items l = length l.rest.now
