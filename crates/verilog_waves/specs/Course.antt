-- What a module holds from edge to edge. Its registers hold 0 at first, since bits are 0 or 1 in the meaning; then there is one edge with
-- `rst` at 1, the reset's, and then edges with `rst` at 0, until `done` or `full` isn't 0 any more. `rst` goes down behind the first edge,
-- with the clock.
use Rattle.std.specs.Prelude.{◌≡◌, ◌<◌, ◌≤◌, ◌⊎◌, ℕ, zero, suc, List}
use Rattle.verilog_tree.specs.Tree.{Item}
use Rattle.verilog_tree.specs.Meaning.{Store, scope, settled, edge, set_vec}
use Rattle.verilog_run.specs.Held.{nothing}

-- what the registers hold so many edges after that of the reset
abbrev pub after : List Item → ℕ → Store
after is zero = edge is (set_vec "rst" 1 nothing)
after is (suc k) = edge is (set_vec "rst" 0 (after is k))

-- what the n-th edge finds when all has settled; that of the reset is the first, with number 0
abbrev pub before : List Item → ℕ → Store
before is zero = settled (scope is) is (set_vec "rst" 1 nothing)
before is (suc k) = settled (scope is) is (set_vec "rst" 0 (after is k))

-- what it holds behind the n-th edge when all has settled, while the clock is up. Inputs change when the clock goes down: `rst` does so
-- behind the reset's edge, and then none does, so that what is behind another edge is what the next one finds.
abbrev pub behind : List Item → ℕ → Store
behind is zero = settled (scope is) is (after is zero)
behind is (suc k) = before is (suc (suc k))

-- neither `done` nor `full` is up
abbrev pub Goes : Store → Type 0
Goes S = (S.vec "done" ≡ 0) × (S.vec "full" ≡ 0)

-- a run within K edges after the reset's ends with this one: the first after which one of both is up, or else the last that is allowed
abbrev pub IsLast : List Item → (K k : ℕ) → Type 0
IsLast is K k = (k ≤ K) × ((j : ℕ) → j < k → Goes (after is j)) × ((Goes (after is k) → ⊥) ⊎ (k ≡ K))
