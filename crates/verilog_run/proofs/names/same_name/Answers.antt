use Rattle.std.proofs.Common.{arith}
use Rattle.verilog_run.proofs.names.same_name.Goals as goal

pub same_bytes-requires : goal.same_bytes-requires
same_bytes-requires c = record { first = λ i. omega (arith, c.type_inv.a i); second = λ i. omega (arith, c.type_inv.b i) }
