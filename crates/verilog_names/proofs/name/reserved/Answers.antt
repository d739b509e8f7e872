use Rattle.std.proofs.Common.{refl}
use Rattle.verilog_names.specs.Name.{reserved}
use Rattle.verilog_names.proofs.name.reserved.Goals as goal

pub returns : goal.returns
unfolding reserved
returns c = refl
