-- The ends of ranges that no other crate speaks of: the most moves of a trace, the sizes of a circuit, and the like. What goes into a
-- run, as the most workers, is limited where all crates find it.
use Rattle.std.specs.Prelude.{ℕ}

-- the most moves of a trace that can be asked for
abbrev pub most_traced : ℕ
most_traced = 1000000

-- the most steps of a reduction that are told where so many are asked for
abbrev pub most_told : ℕ
most_told = 100000

-- the most cells of a circuit
abbrev pub most_cells : ℕ
most_cells = 1048575

-- the most forks of a circuit that can be open at once
abbrev pub most_forks : ℕ
most_forks = 1024
