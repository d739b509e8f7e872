-- What can be said of a report where nothing is told of the bytes that it is about: that it is a report of its kind for some run, or
-- for some program. What is known from the words, as the options and the limits, isn't left open.
use Rattle.std.specs.Prelude.{◌≡◌, ℕ, ◌^◌, ◌<◌, ◌≤◌, Bool, List, length, Option, None, Some}
use Rattle.pcf_values.specs.declared.val.Val.{Val}
use Rattle.pcf_values.specs.declared.val.Val.TheVariants.{Number, Overflow}
use Rattle.pcf_values.specs.Terms.{TyTree}
use Rattle.pcf_values.specs.Named.{NamedTree}
use Rattle.schedule_log.specs.declared.entry.Entry.{Entry}
use Rattle.goi_reports.specs.Reports.{run_report, replay_report, demo_report, check_report}
use Rattle.goi_reports.specs.Booked.{BookedWithin}

-- a number of an answer has 64 bits
abbrev pub AnswerFits : Option Val → Type 0
AnswerFits (Some (Number n)) = n < 2 ^ 64
AnswerFits (Some Overflow) = Unit {0}
AnswerFits None = Unit {0}

-- The text is the report of some run by so many workers with this answer, or none, and with at most so many moves.
pub record IsRunReport (answer : Option Val) (most workers : ℕ) (schedule tally : Bool) (text : List ℕ) : Type 0 where
  pub moves : List Entry
  pub fits : AnswerFits answer
  pub few : length moves ≤ most
  pub booked : BookedWithin workers moves
  pub text_is : text ≡ run_report answer moves workers schedule tally

-- The text is the report of some schedule with this answer, or none, and with at most so many moves.
pub record IsReplayReport (answer : Option Val) (most : ℕ) (text : List ℕ) : Type 0 where
  pub moves : ℕ
  pub fits : AnswerFits answer
  pub few : moves ≤ most
  pub text_is : text ≡ replay_report answer moves

-- The text is the report of some run of the generated program of this number and so many nodes, with this answer, or none, and with
-- at most so many moves.
pub record IsDemoReport (n nodes : ℕ) (answer : Option Val) (most : ℕ) (text : List ℕ) : Type 0 where
  pub moves : ℕ
  pub fits : AnswerFits answer
  pub few : moves ≤ most
  pub text_is : text ≡ demo_report n nodes answer moves

-- The text is the report on some program's type, and with `term` on that program.
pub record IsCheckReport (term : Bool) (text : List ℕ) : Type 0 where
  pub type : TyTree
  pub tree : NamedTree
  pub text_is : text ≡ check_report type term tree
