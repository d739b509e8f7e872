use Rattle.std.proofs.Common.{rules}
use Rattle.interleave_core.proofs.joining.both.Goals as goal

pub returns-in-Right : goal.returns-in-Right
returns-in-Right c = search rules
