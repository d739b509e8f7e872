-- What the top call promises: for each status, what it means, what was written, and why it comes; and what comes where nothing fails.
-- The files are seen as `FilesState` before the call and after it, each sink as a `SinkTurn`. The top call keeps the promise for whatever
-- the files hold that all reads fit. Where that leaves out a file, the report is the right one for some bytes, and so is the line of a
-- fault.
use Rattle.std.specs.Prelude.{◌≡◌, ◌≢◌, ◌⊎◌, ℕ, ◌≤◌, List, length, Option, None, Some}
use Rattle.goi_world.specs.Seen.{FilesKept}
use Rattle.goi_tasks.specs.declared.fault.Fault.{Fault}
use Rattle.goi_tasks.specs.Outputs.{Output}
use Rattle.goi_jobs.specs.Jobs.{JobTree}
use Rattle.goi_engine.specs.Writes.{SinkTurn, Untouched, Wrote, Broke}
use Rattle.goi_tasks.specs.Refusals.{most_line, IsLine, fault_line, fault_status, words_line, read_line, memory_line, write_line}
use Rattle.goi_engine.specs.Verdicts.{Reports, Refuses, NotReadFor, CanDo, Faulty, SurelyLacks}
use Rattle.goi_engine.specs.Calls.{Call, NoneFailed}
use Rattle.goi_engine.specs.Headline.{RunPromise}
use Rattle.goi_engine.specs.CallHeadline.{CallPromise}
use Rattle.goi_engine.specs.CircuitHeadline.{CircuitPromise}

-- the line was written to `err` whole, and nothing to `out`
pub record WroteLine (line : List ℕ) (c : Call) : Type 0 where
  pub out : Untouched c.out
  pub err : Wrote line c.err

-- the output of the job, which ends with this status, was written whole: the report to `out`, and the notes behind it to `err`
pub record Printed (status : ℕ) (j : JobTree) (c : Call) : Type 0 where
  pub output : Output
  pub right : Reports j c.old output
  pub of_status : output.status ≡ status
  pub out : Wrote output.report c.out
  pub err : Wrote output.notes c.err

-- the line of a fault of this status was written, which is the job's first
pub record RefusedFault (status : ℕ) (j : JobTree) (c : Call) : Type 0 where
  pub fault : Fault
  pub right : Refuses j c.old fault
  pub of_status : fault_status fault ≡ status
  pub line : List ℕ
  pub is_line : IsLine fault line
  pub wrote : WroteLine line c

-- `out` failed behind a prefix of the job's report, and no more was offered to it; then the line that says so was written to `err`, or a
-- prefix of it before `err` failed too
pub record OutFailed (asked : Option JobTree) (c : Call) : Type 0 where
  pub j : JobTree
  pub is_asked : asked ≡ Some j
  pub output : Output
  pub right : Reports j c.old output
  pub out : Broke output.report c.out
  pub err : Wrote write_line c.err ⊎ Broke write_line c.err

-- the line of the refusal that stands: of the words, of a file that was not read, of want of memory, or of the job's first fault
pub data RefusalLine (asked : Option JobTree) (c : Call) : List ℕ → Type 0 where
  of_words : asked ≡ None → RefusalLine asked c words_line
  of_read : (j : JobTree) → asked ≡ Some j → NotReadFor j c.old c.new → RefusalLine asked c read_line
  of_memory : RefusalLine asked c memory_line
  of_fault : (j : JobTree) (f : Fault) (line : List ℕ) → asked ≡ Some j → Refuses j c.old f → IsLine f line → RefusalLine asked c line

-- `err` failed behind a prefix of that line, and nothing was written to `out`
pub record ErrFailed (asked : Option JobTree) (c : Call) : Type 0 where
  pub line : List ℕ
  pub stands : RefusalLine asked c line
  pub out : Untouched c.out
  pub err : Broke line c.err

-- the whole report was written, and `err` failed behind a prefix of its notes
pub record NotesFailed (asked : Option JobTree) (c : Call) : Type 0 where
  pub j : JobTree
  pub is_asked : asked ≡ Some j
  pub output : Output
  pub right : Reports j c.old output
  pub out : Wrote output.report c.out
  pub err : Broke output.notes c.err

-- what status 0 means: all is done, and the report stands in `out`; status 5: so does the report of a run that came to no value, or of a
-- list of which a program came to none; and status 1, where a program of a list is refused: so does the report on that list
abbrev pub MeansPrinted : ℕ → Option JobTree → Call → Type 0
MeansPrinted status asked c = (j : JobTree) × (asked ≡ Some j) × Printed status j c

-- status 1: the program has a fault, and the line that tells it stands in `err`; and status 7: so it is with the schedule, the net file or
-- the list
abbrev pub MeansFault : ℕ → Option JobTree → Call → Type 0
MeansFault status asked c = (j : JobTree) × (asked ≡ Some j) × RefusedFault status j c

-- status 2: the words ask for nothing
abbrev pub MeansBadWords : Option JobTree → Call → Type 0
MeansBadWords asked c = (asked ≡ None) × WroteLine words_line c

-- status 3: a file of the job was not read
abbrev pub MeansNotRead : Option JobTree → Call → Type 0
MeansNotRead asked c = (j : JobTree) × (asked ≡ Some j) × NotReadFor j c.old c.new × WroteLine read_line c

-- status 4: a write failed
abbrev pub MeansNotWritten : Option JobTree → Call → Type 0
MeansNotWritten asked c = OutFailed asked c ⊎ ErrFailed asked c ⊎ NotesFailed asked c

-- status 6: there was no memory
abbrev pub MeansNoMemory : Call → Type 0
MeansNoMemory c = WroteLine memory_line c

-- a sink's count of faults stayed
abbrev pub Quiet : SinkTurn → Type 0
Quiet t = t.new.faults ≡ t.old.faults

-- the sinks are sure to take what may come: `out` any report of the job, and `err` any line of a refusal and the notes of any output
pub record SureRoom (asked : Option JobTree) (c : Call) : Type 0 where
  pub out : (j : JobTree) (o : Output) → asked ≡ Some j → Reports j c.old o → length o.report ≤ c.out.old.spare
  pub err : most_line ≤ c.err.old.spare
  pub notes : (j : JobTree) (o : Output) → asked ≡ Some j → Reports j c.old o → length o.notes ≤ c.err.old.spare

-- where the files tell what the job needs: what it can be done with gives its report, with the status with which it ends on it
abbrev pub CompleteReport : Option JobTree → Call → ℕ → Type 0
CompleteReport asked c status = (j : JobTree) (own : ℕ) → asked ≡ Some j → CanDo j c.old own → NoneFailed c → (status ≡ own) ⊎ (status ≡ 6)

-- and what has a fault gives the line of that fault, and its status
abbrev pub CompleteFault : Option JobTree → Call → ℕ → Type 0
CompleteFault asked c status =
    (j : JobTree) (f : Fault) → asked ≡ Some j → Faulty j c.old f → NoneFailed c →
    ((status ≡ fault_status f) × WroteLine (fault_line f) c) ⊎ (status ≡ 6)

-- words that ask for nothing are refused
abbrev pub CompleteWords : Option JobTree → Call → ℕ → Type 0
CompleteWords asked c status = asked ≡ None → NoneFailed c → (status ≡ 2) ⊎ (status ≡ 6)

-- a file that is lacked can't be read, where it is certain that the job comes to it
abbrev pub CompleteLacked : Option JobTree → Call → ℕ → Type 0
CompleteLacked asked c status = (j : JobTree) → asked ≡ Some j → SurelyLacks j c.old → NoneFailed c → (status ≡ 3) ⊎ (status ≡ 6)

-- what each status means, and that no other comes
pub record Meanings (asked : Option JobTree) (c : Call) (status : ℕ) : Type 0 where
  pub done : status ≡ 0 → MeansPrinted 0 asked c
  pub fault : status ≡ 1 → MeansFault 1 asked c ⊎ MeansPrinted 1 asked c
  pub bad_words : status ≡ 2 → MeansBadWords asked c
  pub not_read : status ≡ 3 → MeansNotRead asked c
  pub not_written : status ≡ 4 → MeansNotWritten asked c
  pub no_value : status ≡ 5 → MeansPrinted 5 asked c
  pub no_memory : status ≡ 6 → MeansNoMemory c
  pub file_fault : status ≡ 7 → MeansFault 7 asked c
  pub statuses : (status ≡ 0) ⊎ (status ≡ 1) ⊎ (status ≡ 2) ⊎ (status ≡ 3) ⊎ (status ≡ 4) ⊎ (status ≡ 5) ⊎ (status ≡ 6) ⊎ (status ≡ 7)

-- the promise of the top call, for the job that was asked for, what is seen of the call from outside, and the status that it gave
pub record Promise (asked : Option JobTree) (c : Call) (status : ℕ) : Type 0 where
  -- of a run by name, of a call and of a circuit, in their own words
  pub run : RunPromise asked c status
  pub call : CallPromise asked c status
  pub circuit : CircuitPromise asked c status
  -- of every job
  pub means : Meanings asked c status
  -- what the files tell and lack stays
  pub files : FilesKept c.old c.new
  -- a sink's count of faults changes only with status 4, and the files' count only where a file could not be read
  pub quiet : status ≢ 4 → Quiet c.out × Quiet c.err
  pub read : status ≢ 3 → status ≢ 4 → c.new.faults ≡ c.old.faults
  -- where the sinks are sure to take what may come, no write fails
  pub sure : SureRoom asked c → status ≢ 4
  -- what comes where nothing fails
  pub reports : CompleteReport asked c status
  pub refuses : CompleteFault asked c status
  pub refuses_words : CompleteWords asked c status
  pub refuses_lacked : CompleteLacked asked c status
