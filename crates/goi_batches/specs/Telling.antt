-- What is kept of judged programs while their jobs run, and what is then told of each.
-- A mark stands for each program: none where it runs, and else the line of its refusal.
use Rattle.std.specs.Prelude.{ℕ, false, List, [], ◌∷◌, Option, Some, None, Vec, ◌≡◌}
use Rattle.std.specs.Global.{Global}
use Rattle.token_pool.specs.declared.ending.Ended.{Ended}
use Rattle.batch_pool.specs.declared.job.BatchJob.{BatchJob}
use Rattle.goi_reports.specs.Forms.{AnswerFits}
use Rattle.goi_reports.specs.Reports.{run_report}
use Rattle.goi_reports.specs.Booked.{BookedWithin}
use Rattle.goi_tasks.specs.Replaying.{replay_status}
use Rattle.goi_batches.specs.declared.judged.Judged.{Judged}
use Rattle.goi_batches.specs.declared.judged.Judged.TheVariants.{Runs, Refused}
use Rattle.goi_batches.specs.Sections.{Section, section, Listed, IsSection, batch_report, batch_status, statuses_of}
use Rattle.goi_tasks.specs.Outputs.{Output, output}

abbrev pub Mark : Type 0
Mark = Option (Vec ℕ Global)

-- the jobs of those that run, and the marks of all
abbrev pub jobs_of : List Judged → List BatchJob
jobs_of [] = []
jobs_of (Runs job ∷ js) = job ∷ jobs_of js
jobs_of (Refused line ∷ js) = jobs_of js

abbrev pub marks_of : List Judged → List Mark
marks_of [] = []
marks_of (Runs job ∷ js) = None ∷ marks_of js
marks_of (Refused line ∷ js) = Some line ∷ marks_of js

-- the ends that are left behind a program with this mark
abbrev pub rest_of : Mark → List Ended → List Ended
rest_of (Some line) es = es
rest_of None [] = []
rest_of None (e ∷ es) = es

-- what is told of a run that ended so
abbrev pub end_section : ℕ → Ended → Section
end_section workers e = section (replay_status e.answer) (run_report e.answer e.log.entries workers false false)

-- what is told of a program with this mark, where these ends are left
abbrev pub first_section : ℕ → Mark → List Ended → Section
first_section workers (Some line) es = section 1 line.items
first_section workers None [] = section 0 []
first_section workers None (e ∷ es) = end_section workers e

-- what is told of each program
abbrev pub told_by : ℕ → List Mark → List Ended → List Section
told_by workers [] es = []
told_by workers (m ∷ ms) es = first_section workers m es ∷ told_by workers ms (rest_of m es)

-- there is an end for the program if it runs, and each worker's moves in it can be told
abbrev pub FitFirst : ℕ → Mark → List Ended → Type 0
FitFirst workers (Some line) es = Unit {0}
FitFirst workers None [] = ⊥
FitFirst workers None (e ∷ es) = BookedWithin workers e.log.entries

-- so it is with each program
abbrev pub Fit : ℕ → List Mark → List Ended → Type 0
Fit workers [] es = Unit {0}
Fit workers (m ∷ ms) es = FitFirst workers m es × Fit workers ms (rest_of m es)

-- the number that the program answered, if it did, has 64 bits
abbrev pub FirstFits : Mark → List Ended → Type 0
FirstFits (Some line) es = Unit {0}
FirstFits None [] = Unit {0}
FirstFits None (e ∷ es) = AnswerFits e.answer

-- so it is with each program
abbrev pub EachFits : List Mark → List Ended → Type 0
EachFits [] es = Unit {0}
EachFits (m ∷ ms) es = FirstFits m es × EachFits ms (rest_of m es)

-- what is told of these programs, in turn
abbrev pub AreSections : ℕ → List Listed → List Section → Type 0
AreSections workers [] [] = Unit {0}
AreSections workers [] (s ∷ ss) = ⊥
AreSections workers (p ∷ ps) [] = ⊥
AreSections workers (p ∷ ps) (s ∷ ss) = IsSection workers p s × AreSections workers ps ss

-- the output for these programs
pub record ReportsBatch (workers : ℕ) (ps : List Listed) (o : Output) : Type 0 where
  pub sections : List Section
  pub are : AreSections workers ps sections
  pub output_is : o ≡ output (batch_status (statuses_of sections)) (batch_report sections) []
