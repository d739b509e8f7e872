use Rattle.pcf_reader.proofs.Splitting.{one_text}
use Rattle.pcf_reader.proofs.laws.law_one_tree.Goals as goal

pub returns : goal.returns
returns c = one_text
