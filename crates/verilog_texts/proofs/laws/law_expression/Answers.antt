use Rattle.verilog_texts.proofs.Exact.{one_expression}
use Rattle.verilog_texts.proofs.laws.law_expression.Goals as goal

pub returns : goal.returns
returns c = one_expression
