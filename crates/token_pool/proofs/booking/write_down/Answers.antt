use Rattle.std.proofs.Common.{rules}
use Rattle.token_pool.proofs.booking.write_down.Goals as goal

pub returns : goal.returns
returns c = search rules
