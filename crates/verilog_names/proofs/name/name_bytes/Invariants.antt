use Rattle.std.proofs.Common.{◌≡◌, drop}
use Rattle.verilog_names.specs.Name.{name_bytes}
use Rattle.verilog_names.proofs.name.name_bytes.Given as goal

abbrev pub invariant-loop-byte : goal.invariant-loop-byte
invariant-loop-byte l = name_bytes (drop l.byte-index l.bytes) ≡ name_bytes l.fn.bytes
