use Rattle.std.specs.List.{All}
use Rattle.batch_pool.specs.Apart.{IsRanBy}
use Rattle.batch_pool.proofs.apart.run_some.Given as goal

abbrev pub invariant-loop-turn : goal.invariant-loop-turn
invariant-loop-turn g l = All (IsRanBy l.jobs l.worker) l.rans.items
