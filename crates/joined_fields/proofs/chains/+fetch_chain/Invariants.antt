use Rattle.std.proofs.Common.{length}
use Rattle.joined_fields.proofs.chains.+fetch_chain.Given as goal

abbrev pub decreases-fetch_chain : goal.decreases-fetch_chain
decreases-fetch_chain l = length l.fields.now
