use Rattle.verilog_texts.proofs.Meanings.{one_block}
use Rattle.verilog_texts.proofs.laws.law_block.Goals as goal

pub returns : goal.returns
returns c = one_block
