use Rattle.verilog_texts.proofs.Examples.{example_same_texts}
use Rattle.verilog_texts.proofs.laws.law_example_same_texts.Goals as goal

pub returns : goal.returns
returns c = example_same_texts
