use Rattle.verilog_names.proofs.Reserved.{keywords_reserved}
use Rattle.verilog_names.proofs.laws.law_reserved.Goals as goal

pub returns : goal.returns
returns c = keywords_reserved
