use Rattle.verilog_texts.proofs.Meanings.{one_meaning}
use Rattle.verilog_texts.proofs.laws.law_module.Goals as goal

pub returns : goal.returns
returns c = one_meaning
