-- The report of what a program's circuit needs.
use Rattle.std.specs.Prelude.{ℕ, List, ◌++◌, Option, codes}
use Rattle.pcf_values.specs.declared.val.Val.{Val}
use Rattle.goi_reports.specs.Lines.{numbered_line, result_lines}

-- the two lines of the run, how many cells and forks the circuit needs for as many moves, and how many cycles it takes
abbrev pub needs_report : Option Val → (moves cells forks cycles : ℕ) → List ℕ
needs_report answer moves cells forks cycles =
    result_lines answer moves
    ++ (numbered_line (codes "cells ") cells ++ (numbered_line (codes "forks ") forks ++ numbered_line (codes "cycles ") cycles))

-- and where the circuit has no row for what it meets, just that
abbrev pub no_row_report : Option Val → (moves : ℕ) → List ℕ
no_row_report answer moves = result_lines answer moves ++ codes "no row\n"
