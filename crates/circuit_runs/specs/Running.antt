-- What a run of a net's module comes to: its registers hold 0, then there is one edge with `rst` at 1, and then edges with `rst` at 0,
-- until `done` or `full` isn't 0 any more, or until there were as many as are allowed.
use Rattle.std.specs.Prelude.{◌≡◌, ◌≢◌, ◌<◌, ◌≤◌, ◌^◌, ℕ, zero, suc, List}
use Rattle.pcf_values.specs.declared.val.Val.{Val}
use Rattle.verilog_tree.specs.Tree.{Item}
use Rattle.verilog_tree.specs.Meaning.{Store, edge, set_vec}
use Rattle.circuit_module.specs.Stands.{Small, value_number}
use Rattle.verilog_run.specs.Held.{nothing}
use Rattle.circuit_runs.specs.declared.outcome.Outcome.{Outcome}
use Rattle.circuit_runs.specs.declared.outcome.Outcome.TheVariants.{Ended, Full, Odd, Waits}

-- so many edges with `rst` at 0
abbrev pub run_from : List Item → ℕ → Store → Store
run_from is zero S = S
run_from is (suc k) S = run_from is k (edge is (set_vec "rst" 0 S))

-- what the registers hold so many edges after that of the reset
abbrev pub after : List Item → ℕ → Store
after is k = run_from is k (edge is (set_vec "rst" 1 nothing))

-- neither `done` nor `full` is up
abbrev pub Goes : Store → Type 0
Goes T = (T.vec "done" ≡ 0) × (T.vec "full" ≡ 0)

-- `done` is up and `full` is down
abbrev pub IsDone : Store → Type 0
IsDone T = (T.vec "done" ≢ 0) × (T.vec "full" ≡ 0)

-- what the registers say after k edges, where one of both is up
abbrev pub Shows : Store → ℕ → Outcome → Type 0
Shows T k (Ended v m j) = (j ≡ k) × IsDone T × Small v × (T.vec "result" ≡ value_number v) × (T.vec "moves" ≡ m)
Shows T k (Full j) = (j ≡ k) × (T.vec "full" ≢ 0)
Shows T k (Odd j) =
    (j ≡ k) × IsDone T × ((v : Val) (m : ℕ) → Small v → m < 2 ^ 64 → T.vec "result" ≡ value_number v → T.vec "moves" ≢ m)
Shows T k Waits = ⊥

-- what they say after the last edge: something, or nothing yet
abbrev pub ShowsLast : Store → ℕ → Outcome → Type 0
ShowsLast T k Waits = Goes T
ShowsLast T k (Ended v m j) = Shows T k (Ended v m j)
ShowsLast T k (Full j) = Shows T k (Full j)
ShowsLast T k (Odd j) = Shows T k (Odd j)

-- k is within K, and before the k-th edge neither was up; after it the registers show this
abbrev pub ComesAt : List Item → (K : ℕ) → Outcome → Type 0
ComesAt is K o = (k : ℕ) × (k ≤ K) × ((j : ℕ) → j < k → Goes (after is j)) × Shows (after is k) k o

-- what a run of any items within K edges comes to
abbrev pub ComesOf : List Item → (K : ℕ) → Outcome → Type 0
ComesOf is K Waits = (j : ℕ) → j ≤ K → Goes (after is j)
ComesOf is K (Ended v m j) = ComesAt is K (Ended v m j)
ComesOf is K (Full j) = ComesAt is K (Full j)
ComesOf is K (Odd j) = ComesAt is K (Odd j)
