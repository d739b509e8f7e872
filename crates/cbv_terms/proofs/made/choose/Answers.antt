use Rattle.std.proofs.Common.{rules}
use Rattle.cbv_terms.proofs.made.choose.Goals as goal

pub returns : goal.returns
returns c = search rules
