use Rattle.std.proofs.Common.{length}
use Rattle.joined_fields.proofs.chains.+idle_chain.Given as goal

abbrev pub decreases-idle_chain : goal.decreases-idle_chain
decreases-idle_chain l = length l.fields.now
