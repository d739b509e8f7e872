-- The report of a run that tells neither its schedule nor its tally is short.
use Rattle.std.proofs.Common.{◌≡◌, ℕ, ◌^◌, ◌<◌, ◌≤◌, Bool, false, List, [], ◌++◌, length, codes, decimal, Option, Some, None}
use Rattle.std.proofs.Common.{ap, ◌∙◌, arith, length-append}
use Rattle.std.proofs.lemmas.Fmt.{length-decimal-le}
use Rattle.pcf_values.specs.declared.val.Val.{Val}
use Rattle.pcf_values.specs.declared.val.Val.TheVariants.{Number, Overflow}
use Rattle.schedule_log.specs.declared.entry.Entry.{Entry}
use Rattle.goi_reports.specs.Forms.{AnswerFits}
use Rattle.goi_reports.specs.Lines.{value_line, moves_line}
use Rattle.goi_reports.specs.Reports.{run_report}
use Rattle.goi_tasks.specs.Refusals.{most_line}

-- the line of an answer is short
value_short : (answer : Option Val) → AnswerFits answer → length (value_line answer) ≤ 30
value_short (Some (Number n)) fits =
    let x = decimal n in
    let d : length x ≤ 20 = length-decimal-le 20 n (omega arith) (omega arith) fits in
    omega (arith, d, length-append (codes "value ") (x ++ codes "\n"), length-append x (codes "\n"))
value_short (Some Overflow) fits = omega arith
value_short None fits = omega arith

-- and so is that of a number of moves
moves_short : (moves : ℕ) → moves < 2 ^ 32 → length (moves_line moves) ≤ 20
moves_short moves few =
    let x = decimal moves in
    let d : length x ≤ 10 = length-decimal-le 10 moves (omega arith) (omega arith) (omega arith) in
    omega (arith, d, length-append (codes "moves ") (x ++ codes "\n"), length-append x (codes "\n"))

-- the report with neither schedule nor tally is short
plain_brief : (answer : Option Val) (log : List Entry) (workers : ℕ) → AnswerFits answer → length log < 2 ^ 32 →
    length (run_report answer log workers false false) ≤ most_line
plain_brief answer log workers fits few =
    let v = value_short answer fits in
    let m = moves_short (length log) few in
    omega (
      arith,
      v,
      m,
      length-append (value_line answer ++ moves_line (length log)) ([] ++ []),
      length-append (value_line answer) (moves_line (length log)),
    )

pub brief : (answer : Option Val) (log : List Entry) (workers : ℕ) (schedule tally : Bool) (text : List ℕ) → schedule ≡ false →
    tally ≡ false → text ≡ run_report answer log workers schedule tally → AnswerFits answer → length log < 2 ^ 32 → length text ≤ most_line
brief answer log workers schedule tally text f g is fits few =
    let same : length text ≡ length (run_report answer log workers false false) =
    ap length is
    ∙ ap (λ (b : Bool). length (run_report answer log workers b tally)) f
    ∙ ap (λ (b : Bool). length (run_report answer log workers false b)) g in
    let short = plain_brief answer log workers fits few in
    omega (arith, same, short)
