use Rattle.std.proofs.Common.{rules}
use Rattle.cbv_terms.proofs.made.close_binary.Goals as goal

pub returns-clause-term : goal.returns-clause-term
returns-clause-term c = search rules
