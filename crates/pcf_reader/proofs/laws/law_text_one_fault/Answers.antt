use Rattle.pcf_reader.proofs.Splitting.{first_once}
use Rattle.pcf_reader.proofs.laws.law_text_one_fault.Goals as goal

pub returns : goal.returns
returns c = first_once
