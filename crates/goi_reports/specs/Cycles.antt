-- The report of a circuit's run.
use Rattle.std.specs.Prelude.{ℕ, Bool, List, ◌++◌, Option, codes}
use Rattle.pcf_values.specs.declared.val.Val.{Val}
use Rattle.goi_reports.specs.Lines.{numbered_line, value_line}
use Rattle.goi_reports.specs.Reports.{where_asked}

-- its value, or that it came to none, in how many cycles, and that it is full where it is
abbrev pub cycles_report : Option Val → ℕ → Bool → List ℕ
cycles_report answer cycles full = value_line answer ++ (numbered_line (codes "cycles ") cycles ++ where_asked full (codes "full\n"))
