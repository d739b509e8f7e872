use Rattle.std.proofs.Common.{rules}
use Rattle.pcf_reader.proofs.types.+types.Goals as goal

pub product_of-returns-in_ok-new-clause-goes : goal.product_of-returns-in_ok-new-clause-goes
product_of-returns-in_ok-new-clause-goes t c = search rules
