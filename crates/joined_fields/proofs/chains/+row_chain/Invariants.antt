use Rattle.std.proofs.Common.{length}
use Rattle.joined_fields.proofs.chains.+row_chain.Given as goal

abbrev pub decreases-row_chain : goal.decreases-row_chain
decreases-row_chain l = length l.fields.now
