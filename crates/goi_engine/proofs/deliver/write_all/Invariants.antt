use Rattle.std.proofs.Common.{length}
use Rattle.goi_engine.proofs.Writing.{Going}
use Rattle.goi_engine.proofs.deliver.write_all.Given as goal

abbrev pub invariant-loop-rest : goal.invariant-loop-rest
invariant-loop-rest g l = Going g.S.Sink.seen g.S.Sink.writes l.text l.rest l.fn.out l.out

abbrev pub decreases-loop-rest : goal.decreases-loop-rest
decreases-loop-rest g l = length l.rest
