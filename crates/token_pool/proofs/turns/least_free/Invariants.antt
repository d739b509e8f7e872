use Rattle.std.specs.Prelude.{◌-◌, ◌^◌}
use Rattle.token_pool.proofs.Free.{Reaches}
use Rattle.token_pool.proofs.turns.least_free.Given as goal

abbrev pub invariant-loop-ticket : goal.invariant-loop-ticket
invariant-loop-ticket l = Reaches l.core.tokens l.places l.ticket

abbrev pub decreases-loop-ticket : goal.decreases-loop-ticket
decreases-loop-ticket l = 2 ^ 32 - l.ticket
