-- How many cycles a circuit takes: the statements of `law_joined_time`.
-- A cycle is a row, and each row makes a move at least. So there are no more cycles than moves, and how many there are is told by the rows
-- alone.
use Rattle.std.specs.Prelude.{◌≡◌, ◌↔◌, ◌≤◌, ℕ, false, Some}
use Rattle.pcf_values.specs.declared.val.Val.{Val}
use Rattle.net_build.specs.Nets.{NetTree}
use Rattle.net_build.specs.NetOf.{net_of}
use Rattle.interleave_laws.specs.Runs.{Runs}
use Rattle.adequacy_laws.specs.Questions.{Length}
use Rattle.adequacy_laws.specs.Adequacy.{OfEveryProgram}
use Rattle.joined_rows.specs.Compound.{Pointer}
use Rattle.joined_core.specs.Rows.{Table}
use Rattle.joined_core.specs.Right.{IsTable}
use Rattle.joined_core.specs.Circuit.{JoinedToken, Room, joined_powered, joined_circuit}
use Rattle.joined_core.specs.Room.{rows_made, row_run, most_cells, most_forks}

-- while there is a token, each cycle made a move
abbrev pub RowsMove : Type 0
RowsMove = (net : NetTree) → Runs net → (T : Table) → IsTable net T → (z : Room) (mem : ℕ → ℕ → Pointer) (k : ℕ) (l : JoinedToken) →
    (joined_circuit net T z mem k).full ≡ false → (joined_circuit net T z mem k).live ≡ Some l → k ≤ (joined_circuit net T z mem k).moves

-- the circuit of a program of so many moves has the value from the cycle on that the rows tell, as far as it isn't full; that is within as
-- many cycles as there are moves
abbrev pub RowsAnswer : Type 0
RowsAnswer = OfEveryProgram (λ m. (T : Table) → IsTable (net_of m) T → (v : Val) (n : ℕ) → Length (net_of m) v n → (z : Room)
    (mem : ℕ → ℕ → Pointer) (k : ℕ) → (joined_circuit (net_of m) T z mem k).full ≡ false →
    ((joined_circuit (net_of m) T z mem k).result ≡ Some v) ↔ (rows_made T n (joined_powered (net_of m) mem) ≤ k))

-- and where each pair up to the program's length has a row, and there is room for what is in use at once up to there, it has the value from
-- that cycle on for ever
abbrev pub RowsCompute : Type 0
RowsCompute = OfEveryProgram (λ m. (T : Table) → IsTable (net_of m) T → (v : Val) (n : ℕ) → Length (net_of m) v n → (z : Room)
    (mem : ℕ → ℕ → Pointer) → (row_run (net_of m) T mem n).full ≡ false →
    most_cells T n (joined_powered (net_of m) mem) ≤ z.cells → most_forks T n (joined_powered (net_of m) mem) ≤ z.forks →
    (k : ℕ) → rows_made T n (joined_powered (net_of m) mem) ≤ k →
    ((joined_circuit (net_of m) T z mem k).full ≡ false) × ((joined_circuit (net_of m) T z mem k).result ≡ Some v))
