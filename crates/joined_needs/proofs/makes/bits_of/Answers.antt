use Rattle.std.proofs.Common.{◌∙◌}
use Rattle.joined_needs.proofs.Making.{some_bits}
use Rattle.joined_needs.proofs.makes.bits_of.Goals as goal

pub returns-else-n-eq0-clause-bits : goal.returns-else-n-eq0-clause-bits
returns-else-n-eq0-clause-bits c = c.bits_upto.ensures.bits ∙ some_bits c.args.n c.if-n-eq0.false
