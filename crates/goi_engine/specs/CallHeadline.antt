-- What `goi call FILE N ..` comes to, for whoever reads nothing else.
-- It has the form of the headline, over the part of the promise that speaks of it: the words ask for a call that prints neither its
-- schedule nor its tally, the file is there, and its bytes are told. A text that takes as many numbers as there are is one term; what is
-- printed is the value of that term applied to the numbers, and the length of that term's net.
use Rattle.std.specs.Prelude.{◌≡◌, ◌⊎◌, ◌≤◌, ◌<◌, ℕ, IsTrue, List, [], Option, Some, None, false, length}
use Rattle.pcf_values.specs.declared.val.Val.{Val}
use Rattle.pcf_values.specs.Terms.{TermTree}
use Rattle.cbn_meaning.specs.Meaning.{Means}
use Rattle.net_build.specs.NetOf.{net_of}
use Rattle.adequacy_laws.specs.Questions.{Length}
use Rattle.open_net_laws.specs.Applied.{applied}
use Rattle.function_runs.specs.Functions.{CompilesText, FaultyFunction}
use Rattle.program_runs.specs.declared.fault.ProgramFault.{ProgramFault}
use Rattle.goi_words.specs.Asked.{job}
use Rattle.goi_jobs.specs.Jobs.{JobTree, call}
use Rattle.goi_reports.specs.Lines.{result_lines}
use Rattle.goi_tasks.specs.Refusals.{program_fault_line}
use Rattle.goi_engine.specs.Writes.{Wrote}
use Rattle.goi_engine.specs.Calls.{Call, NoneFailed}
use Rattle.goi_engine.specs.FilesSeen.{OfFile}

-- the text is this term, which takes as many numbers as these
abbrev pub IsFunction : List ℕ → List ℕ → TermTree → Type 0
IsFunction bytes numbers m = CompilesText bytes (length numbers) (m, length numbers)

-- what the call of a text's function within a budget of moves comes to: its status, what is written to `out`, and what is written to `err`
pub data CallOutcome (bytes numbers : List ℕ) (budget : ℕ) : ℕ → List ℕ → List ℕ → Type 0 where
  -- 0: the application to the numbers has this value, and the length of its net is within the budget; both are printed
  at_value : (m : TermTree) (v : Val) (n : ℕ) → IsFunction bytes numbers m → Means (applied m numbers) v →
      Length (net_of (applied m numbers)) v n → n ≤ budget → CallOutcome bytes numbers budget 0 (result_lines (Some v) n) []
  -- 5: the length of its net is absent or above the budget
  at_none : (m : TermTree) → IsFunction bytes numbers m →
      ((v : Val) (n : ℕ) → Length (net_of (applied m numbers)) v n → budget < n) →
      CallOutcome bytes numbers budget 5 (result_lines None budget) []
  -- 1: the text is no function of so many numbers, for this fault, which is its first
  at_fault : (f : ProgramFault) → FaultyFunction (length numbers) bytes f →
      CallOutcome bytes numbers budget 1 [] (program_fault_line f)

-- a call that ended with status 0, 5 or 1 wrote what it comes to; and where nothing fails, one of the three comes, or 6 for memory
pub record CallComesTo (bytes numbers : List ℕ) (budget : ℕ) (c : Call) (status : ℕ) : Type 0 where
  pub right : (status ≡ 0) ⊎ (status ≡ 5) ⊎ (status ≡ 1) →
      (report line : List ℕ) × CallOutcome bytes numbers budget status report line × Wrote report c.out × Wrote line c.err
  pub comes : NoneFailed c → ((status ≡ 0) ⊎ (status ≡ 5) ⊎ (status ≡ 1)) ⊎ (status ≡ 6)

-- the same of a file by its name, of the bytes that are told or of some where none are
pub record CallsFile (file numbers : List ℕ) (budget : ℕ) (c : Call) (status : ℕ) : Type 0 where
  pub right : (status ≡ 0) ⊎ (status ≡ 5) ⊎ (status ≡ 1) →
      (report line : List ℕ) × OfFile c.old file (λ bytes. CallOutcome bytes numbers budget status report line) × Wrote report c.out ×
      Wrote line c.err
  pub comes : (IsTrue (c.old.lacks file) → ⊥) → NoneFailed c → ((status ≡ 0) ⊎ (status ≡ 5) ⊎ (status ≡ 1)) ⊎ (status ≡ 6)

-- the part of the promise that speaks of a call: where that is asked for, so it is
abbrev pub CallPromise : Option JobTree → Call → ℕ → Type 0
CallPromise asked c status =
    (file numbers : List ℕ) (workers budget : ℕ) → asked ≡ Some (call file numbers workers budget false false) →
    CallsFile file numbers budget c status

-- so the call of told bytes comes to what they come to, whatever the number of workers
abbrev pub CallHeadline : Type 0
CallHeadline =
    (words : List (List ℕ)) (file bytes numbers : List ℕ) (workers budget : ℕ) (c : Call) (status : ℕ) →
    job words ≡ Some (call file numbers workers budget false false) → c.old.told file ≡ Some bytes → (IsTrue (c.old.lacks file) → ⊥) →
    CallPromise (job words) c status → CallComesTo bytes numbers budget c status

-- and a call comes to one outcome alone
abbrev pub OneCallOutcome : Type 0
OneCallOutcome =
    (bytes numbers : List ℕ) (budget s r : ℕ) (report other line other_line : List ℕ) →
    CallOutcome bytes numbers budget s report line → CallOutcome bytes numbers budget r other other_line →
    (s ≡ r) × (report ≡ other) × (line ≡ other_line)
