use Rattle.std.proofs.Common.{◌≡◌, drop}
use Rattle.verilog_run.specs.Held.{held}
use Rattle.verilog_run.specs.Writes.{after_all}
use Rattle.verilog_run.proofs.writes.write_all.Given as goal

abbrev pub invariant-loop-write : goal.invariant-loop-write
invariant-loop-write l = after_all (drop l.write-index l.writes) (held l.store) ≡ after_all l.writes (held l.fn.store)
