-- A table at some numbers of its ports: a number from 2 ^ 64 on is that of a port.
use Rattle.std.specs.Prelude.{ℕ, zero, suc, ◌-◌, ◌^◌, List, [], ◌∷◌, nat_lt, if◌then◌else◌}
use Rattle.pcf_values.specs.declared.val.Val.{Val}
use Rattle.pcf_values.specs.declared.val.Val.TheVariants.{Number, Overflow}
use Rattle.joined_rows.specs.Open.{Amount, some, known, more_than, less_than, both, Walker, asks, says}
use Rattle.joined_rows.specs.Ticks.{NamedHalf, waiting, left, NamedFork, Named}
use Rattle.joined_core.specs.Rows.{Way, onwards, answers_run, answers_fork, JoinedRow}
use Rattle.joined_core.specs.Listed.{Entry}

-- the number at a port
abbrev pub number_at : List ℕ → ℕ → ℕ
number_at [] i = 0
number_at (v ∷ vs) zero = v
number_at (v ∷ vs) (suc i) = number_at vs i

-- a number, or the one at the port that it stands for
abbrev pub port_value : (ℕ → ℕ) → ℕ → ℕ
port_value ps n = if nat_lt n (2 ^ 64) then n else ps (n - 2 ^ 64)

-- a table's texts with these
abbrev pub val_at : (ℕ → ℕ) → Val → Val
val_at ps (Number n) = Number (port_value ps n)
val_at ps Overflow = Overflow

abbrev pub amount_at : (ℕ → ℕ) → Amount → Amount
amount_at ps (some n) = some n
amount_at ps (known v) = known (val_at ps v)
amount_at ps (more_than a) = more_than (amount_at ps a)
amount_at ps (less_than a) = less_than (amount_at ps a)
amount_at ps (both o x y) = both o (amount_at ps x) (amount_at ps y)

abbrev pub walker_at : (ℕ → ℕ) → Walker → Walker
walker_at ps (asks s) = asks s
walker_at ps (says a s) = says (amount_at ps a) s

abbrev pub half_at : (ℕ → ℕ) → NamedHalf → NamedHalf
half_at ps (waiting q) = waiting q
half_at ps (left a) = left (amount_at ps a)

abbrev pub forks_at : (ℕ → ℕ) → List NamedFork → List NamedFork
forks_at ps [] = []
forks_at ps (f ∷ fs) = record f { half = half_at ps f.half } ∷ forks_at ps fs

abbrev pub named_at : (ℕ → ℕ) → Named → Named
named_at ps X = record { live = walker_at ps X.live; forks = forks_at ps X.forks }

abbrev pub way_at : (ℕ → ℕ) → Way → Way
way_at ps onwards = onwards
way_at ps answers_run = answers_run
way_at ps (answers_fork q) = answers_fork (record q { to = named_at ps q.to })

abbrev pub row_at : (ℕ → ℕ) → JoinedRow → JoinedRow
row_at ps r = record r { to = named_at ps r.to; way = way_at ps r.way }

abbrev pub entries_at : (ℕ → ℕ) → List Entry → List Entry
entries_at ps [] = []
entries_at ps (e ∷ es) = record e { row = row_at ps e.row } ∷ entries_at ps es
