use Rattle.std.proofs.Common.{◌≡◌, ◌<◌, ℕ, map}
use Rattle.verilog_tree.specs.Views.{item_of}
use Rattle.verilog_run.specs.Held.{held}
use Rattle.circuit_runs.specs.Running.{after, Goes}
use Rattle.circuit_runs.proofs.run.run_from.Given as goal

abbrev pub invariant-loop-k : goal.invariant-loop-k
invariant-loop-k l =
    (held l.store ≡ after (map item_of l.items) l.k) × ((j : ℕ) → j < l.k → Goes (after (map item_of l.items) j))
