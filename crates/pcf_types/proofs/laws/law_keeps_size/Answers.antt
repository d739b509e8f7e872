use Rattle.pcf_types.proofs.Sizes.{typed_size}
use Rattle.pcf_types.proofs.laws.law_keeps_size.Goals as goal

pub returns : goal.returns
returns c = typed_size
