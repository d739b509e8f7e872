use Rattle.pcf_reader.proofs.Back.{read_back}
use Rattle.pcf_reader.proofs.laws.law_text_read_back.Goals as goal

pub returns : goal.returns
returns c = read_back
