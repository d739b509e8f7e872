-- The limits of the program as numbers, each inclusive, under the names that definitions and contracts use. The constants of
-- `limits` are these numbers, which is what `law_program_limits` says.
use Rattle.std.specs.Prelude.{ℕ}

-- the most bytes of a program's file
abbrev pub most_program_bytes : ℕ
most_program_bytes = 1048576

-- the most bytes of a schedule's file
abbrev pub most_schedule_bytes : ℕ
most_schedule_bytes = 134217728

-- the most nodes of a program, as the reader counts them
abbrev pub most_nodes : ℕ
most_nodes = 32768

-- the most phrases that are open at once in a program's text, and the greatest height left of an operator or an argument
abbrev pub most_open : ℕ
most_open = 500

-- the most workers of a run
abbrev pub most_workers : ℕ
most_workers = 64

-- the most moves that a run may be allowed
abbrev pub most_budget : ℕ
most_budget = 10000000

-- the most moves of a schedule
abbrev pub most_moves : ℕ
most_moves = 10000000

-- the largest number of a generated program
abbrev pub most_demo : ℕ
most_demo = 12
