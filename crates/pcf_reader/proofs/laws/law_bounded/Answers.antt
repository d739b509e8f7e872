use Rattle.pcf_reader.proofs.Bounds.{bounded}
use Rattle.pcf_reader.proofs.laws.law_bounded.Goals as goal

pub returns : goal.returns
returns c = bounded
