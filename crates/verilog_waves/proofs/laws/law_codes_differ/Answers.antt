use Rattle.verilog_waves.proofs.Apart.{codes_differ}
use Rattle.verilog_waves.proofs.laws.law_codes_differ.Goals as goal

pub returns : goal.returns
returns c = codes_differ
