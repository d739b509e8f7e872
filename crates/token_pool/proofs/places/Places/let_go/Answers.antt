use Rattle.std.proofs.Common.{rules}
use Rattle.token_pool.proofs.places.Places.let_go.Goals as goal

pub returns : goal.returns
returns c = search rules
