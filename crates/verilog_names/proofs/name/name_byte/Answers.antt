use Rattle.std.proofs.Common.{rules}
use Rattle.verilog_names.proofs.name.name_byte.Goals as goal

pub returns-else-byte-le57 : goal.returns-else-byte-le57
returns-else-byte-le57 c = search rules
