use Rattle.std.proofs.Common.{length}
use Rattle.verilog_run.proofs.edges.+settle_items.Given as goal

abbrev pub decreases-settle_items : goal.decreases-settle_items
decreases-settle_items l = length l.rest.now
