-- A circuit is full just where a pair has no row or there is too little room: the statements of `law_joined_room`
-- and `law_joined_memory`.
-- How many cells and forks are in use at once is told of the rows alone, which have no sizes; no circuit takes part in it.
use Rattle.std.specs.Prelude.{◌≡◌, ◌↔◌, ◌≤◌, ℕ, zero, suc, max, false, length, Option, Some, None}
use Rattle.net_build.specs.Nets.{NetTree}
use Rattle.interleave_laws.specs.Runs.{Runs}
use Rattle.joined_rows.specs.Compound.{Pointer}
use Rattle.joined_core.specs.Rows.{Table}
use Rattle.joined_core.specs.Right.{IsTable}
use Rattle.joined_core.specs.Circuit.{JoinedToken, JoinedCircuit, a_row, Room, joined_powered, joined_circuit}

-- so many rows, whatever room they take
abbrev pub many_rows : Table → ℕ → JoinedCircuit → JoinedCircuit
many_rows T zero C = C
many_rows T (suc k) C = many_rows T k (a_row T C)

-- from reset on
abbrev pub row_run : NetTree → Table → (ℕ → ℕ → Pointer) → ℕ → JoinedCircuit
row_run net T mem k = many_rows T k (joined_powered net mem)

-- the most cells in use within so many rows
abbrev pub most_cells : Table → ℕ → JoinedCircuit → ℕ
most_cells T zero C = C.store.top
most_cells T (suc k) C = max C.store.top (most_cells T k (a_row T C))

-- and the most open forks
abbrev pub most_forks : Table → ℕ → JoinedCircuit → ℕ
most_forks T zero C = length C.forks
most_forks T (suc k) C = max (length C.forks) (most_forks T k (a_row T C))

-- one more, where there is a token
abbrev pub one_more : Option JoinedToken → ℕ → ℕ
one_more None n = 0
one_more (Some k) n = suc n

-- how many of the next n rows have a token: those up to the answer
abbrev pub rows_made : Table → ℕ → JoinedCircuit → ℕ
rows_made T zero C = 0
rows_made T (suc n) C = one_more C.live (rows_made T n (a_row T C))

-- it isn't full just where each pair up to there has a row, and no more cells are in use and no more forks open than there are
abbrev pub RoomExactly : Type 0
RoomExactly = (net : NetTree) (T : Table) (z : Room) (mem : ℕ → ℕ → Pointer) (k : ℕ) →
    ((joined_circuit net T z mem k).full ≡ false) ↔ (((row_run net T mem k).full ≡ false)
    × (most_cells T k (joined_powered net mem) ≤ z.cells) × (most_forks T k (joined_powered net mem) ≤ z.forks))

-- and then it is what the rows come to
abbrev pub RoomSame : Type 0
RoomSame = (net : NetTree) (T : Table) (z : Room) (mem : ℕ → ℕ → Pointer) (k : ℕ) → (joined_circuit net T z mem k).full ≡ false →
    joined_circuit net T z mem k ≡ row_run net T mem k

-- and on a net that runs the rows of a right table want as much and take as long whatever the memory has at reset
abbrev pub RoomAlone : Type 0
RoomAlone = (net : NetTree) → Runs net → (T : Table) → IsTable net T → (mem other : ℕ → ℕ → Pointer) (k : ℕ) →
    ((row_run net T other k).full ≡ (row_run net T mem k).full)
    × (most_cells T k (joined_powered net other) ≡ most_cells T k (joined_powered net mem))
    × (most_forks T k (joined_powered net other) ≡ most_forks T k (joined_powered net mem))
    × (rows_made T k (joined_powered net other) ≡ rows_made T k (joined_powered net mem))
