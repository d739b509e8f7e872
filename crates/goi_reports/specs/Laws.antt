-- What holds of all reports.
use Rattle.std.specs.Prelude.{◌≡◌, ℕ, List, length, sum, Option, false}
use Rattle.pcf_values.specs.declared.val.Val.{Val}
use Rattle.schedule_log.specs.declared.entry.Entry.{Entry}
use Rattle.schedule_log.specs.Tally.{tally}
use Rattle.goi_reports.specs.Lines.{result_lines}
use Rattle.goi_reports.specs.Reports.{run_report}
use Rattle.goi_reports.specs.Booked.{BookedWithin}

-- The counts of a tally add up to the number of moves, where nobody else booked one.
abbrev pub TallyAddsUp : Type 0
TallyAddsUp = (moves : List Entry) (workers : ℕ) → BookedWithin workers moves → sum (tally moves workers) ≡ length moves

-- The report of a run without schedule and tally is its two lines.
abbrev pub PlainRun : Type 0
PlainRun =
    (answer : Option Val) (moves : List Entry) (workers : ℕ) →
    run_report answer moves workers false false ≡ result_lines answer (length moves)
