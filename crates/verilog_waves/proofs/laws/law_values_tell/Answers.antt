use Rattle.verilog_waves.proofs.Apart.{values_tell}
use Rattle.verilog_waves.proofs.laws.law_values_tell.Goals as goal

pub returns : goal.returns
returns c = values_tell
