-- That the dump of a module and its run have the same states, and end at the same edge: the statements of `law_same_states` and
-- `law_same_end`.
use Rattle.std.specs.Prelude.{◌≡◌, ℕ, List}
use Rattle.verilog_tree.specs.Tree.{Item}
use Rattle.verilog_waves.specs.Course as shown
use Rattle.circuit_runs.specs.Running as run
use Rattle.circuit_runs.specs.declared.outcome.Outcome.{Outcome}
use Rattle.circuit_runs.specs.declared.outcome.Outcome.TheVariants.{Ended, Full, Odd, Waits}

-- how many edges there were behind that of the reset, of K that were allowed
abbrev pub edges_of : (K : ℕ) → Outcome → ℕ
edges_of K (Ended v m k) = k
edges_of K (Full k) = k
edges_of K (Odd k) = k
edges_of K Waits = K

-- what the registers hold after each edge
abbrev pub SameStates : Type 0
SameStates = (is : List Item) (k : ℕ) → shown.after is k ≡ run.after is k

-- how many edges there are
abbrev pub SameEnd : Type 0
SameEnd = (is : List Item) (K k : ℕ) (o : Outcome) → shown.IsLast is K k → run.ComesOf is K o → edges_of K o ≡ k
