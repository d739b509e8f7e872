-- The headline: what `goi run FILE` comes to, for whoever reads nothing else.
-- The words ask for a run by name that prints neither its schedule nor its tally nor its progress. `RunPromise` is the part of the promise
-- that speaks of it, and the headline rests on it alone: the file is there, and these are its bytes. They need not be known beforehand: the
-- top call keeps the promise for whatever the files hold that all reads fit. A program's *value* is what it means,
-- call by name. The *length* of its net is what following questions counts on it. No worker and no machine is in the sentence, so that it
-- is the same for any number of workers.
use Rattle.std.specs.Prelude.{◌≡◌, ◌⊎◌, ◌≤◌, ◌<◌, ℕ, IsTrue, List, [], Option, Some, None}
use Rattle.pcf_values.specs.declared.val.Val.{Val}
use Rattle.pcf_values.specs.Terms.{TermTree}
use Rattle.cbn_meaning.specs.Meaning.{Means}
use Rattle.net_build.specs.NetOf.{net_of}
use Rattle.adequacy_laws.specs.Questions.{Length}
use Rattle.program_runs.specs.declared.fault.ProgramFault.{ProgramFault}
use Rattle.program_runs.specs.Programs.{number, IsGround, FaultyProgram}
use Rattle.goi_words.specs.Asked.{job}
use Rattle.goi_jobs.specs.Jobs.{JobTree, text}
use Rattle.goi_jobs.specs.Tasks.{nothing_shown}
use Rattle.goi_jobs.specs.declared.task.Task.TheVariants.{Run}
use Rattle.program_runs.specs.declared.calling.Calling.TheVariants.{ByName}
use Rattle.goi_reports.specs.Lines.{result_lines}
use Rattle.goi_tasks.specs.Refusals.{program_fault_line}
use Rattle.goi_engine.specs.Writes.{Wrote}
use Rattle.goi_engine.specs.Calls.{Call, NoneFailed}
use Rattle.goi_engine.specs.FilesSeen.{OfFile}

-- what the run of a text within a budget of moves comes to: its status, what is written to `out`, and what is written to `err`
pub data Outcome (bytes : List ℕ) (budget : ℕ) : ℕ → List ℕ → List ℕ → Type 0 where
  -- 0: the text is a program of type `nat` that has this value, and the length of its net is within the budget; both are printed
  has_value : (t : TermTree) (v : Val) (n : ℕ) → IsGround bytes t → Means t v → Length (net_of t) v n → n ≤ budget →
      Outcome bytes budget 0 (result_lines (Some v) n) []
  -- 5: it is such a program, and the length of its net is absent or above the budget
  no_value : (t : TermTree) → IsGround bytes t → ((v : Val) (n : ℕ) → Length (net_of t) v n → budget < n) →
      Outcome bytes budget 5 (result_lines None budget) []
  -- 1: it is none, for this fault, which is its first
  is_faulty : (f : ProgramFault) → FaultyProgram number bytes f → Outcome bytes budget 1 [] (program_fault_line f)

-- a call that ended with status 0, 5 or 1 wrote what the run comes to; and where nothing fails, one of the three comes, or 6 for memory
pub record ComesTo (bytes : List ℕ) (budget : ℕ) (c : Call) (status : ℕ) : Type 0 where
  pub right : (status ≡ 0) ⊎ (status ≡ 5) ⊎ (status ≡ 1) →
      (report line : List ℕ) × Outcome bytes budget status report line × Wrote report c.out × Wrote line c.err
  pub comes : NoneFailed c → ((status ≡ 0) ⊎ (status ≡ 5) ⊎ (status ≡ 1)) ⊎ (status ≡ 6)

-- the same of a file by its name: what was written is what the run of its bytes comes to, which are those that are told, or some where
-- none are; and one of the three statuses comes, or 6, where nothing fails and the file is there
pub record RunsFile (file : List ℕ) (budget : ℕ) (c : Call) (status : ℕ) : Type 0 where
  pub right : (status ≡ 0) ⊎ (status ≡ 5) ⊎ (status ≡ 1) →
      (report line : List ℕ) × OfFile c.old file (λ bytes. Outcome bytes budget status report line) × Wrote report c.out × Wrote line c.err
  pub comes : (IsTrue (c.old.lacks file) → ⊥) → NoneFailed c → ((status ≡ 0) ⊎ (status ≡ 5) ⊎ (status ≡ 1)) ⊎ (status ≡ 6)

-- the part of the promise that speaks of a run by name: where that is asked for, so it is
abbrev pub RunPromise : Option JobTree → Call → ℕ → Type 0
RunPromise asked c status =
    (file : List ℕ) (workers budget : ℕ) → asked ≡ Some (text file workers (Run budget ByName nothing_shown)) →
    RunsFile file budget c status

-- so the run of told bytes comes to what they come to; what is told of `Files` isn't lacked, which the trait says
abbrev pub Headline : Type 0
Headline =
    (words : List (List ℕ)) (file bytes : List ℕ) (workers budget : ℕ) (c : Call) (status : ℕ) →
    job words ≡ Some (text file workers (Run budget ByName nothing_shown)) → c.old.told file ≡ Some bytes →
    (IsTrue (c.old.lacks file) → ⊥) → RunPromise (job words) c status → ComesTo bytes budget c status

-- and a run comes to one outcome alone
abbrev pub OneOutcome : Type 0
OneOutcome =
    (bytes : List ℕ) (budget s r : ℕ) (report other line other_line : List ℕ) → Outcome bytes budget s report line →
    Outcome bytes budget r other other_line → (s ≡ r) × (report ≡ other) × (line ≡ other_line)
