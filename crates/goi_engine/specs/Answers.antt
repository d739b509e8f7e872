-- The answer to the words, by what is seen of the files before it and after it.
use Rattle.std.specs.Prelude.{◌≡◌, ◌⊎◌, ◌≤◌, ℕ, List, [], ◌∷◌, length, All, IsTrue, Option, None, Some}
use Rattle.goi_world.specs.Outside.{Reading}
use Rattle.pcf_values.specs.Terms.{TermTree}
use Rattle.net_build.specs.Nets.{NetTree}
use Rattle.goi_tasks.specs.declared.fault.Fault.{Fault}
use Rattle.goi_tasks.specs.declared.fault.Fault.TheVariants.{Batch}
use Rattle.goi_tasks.specs.declared.stop.Stop.{Stop}
use Rattle.goi_tasks.specs.declared.stop.Stop.TheVariants as stop
use Rattle.goi_jobs.specs.declared.task.Task.{Task}
use Rattle.goi_tasks.specs.Outputs.{Output}
use Rattle.goi_tasks.specs.Seen.{output_of}
use Rattle.program_runs.specs.declared.calling.Calling.TheVariants.{ByName}
use Rattle.program_runs.specs.Nets.{RunsAs}
use Rattle.program_runs.specs.Programs.{number, IsGround}
use Rattle.goi_tasks.specs.Programs.{FaultyText}
use Rattle.goi_tasks.specs.Refusals.{TellsFault}
use Rattle.goi_jobs.specs.declared.window.Window.{Window}
use Rattle.goi_tasks.specs.Replaying.{ReportsReplay, FaultySchedule}
use Rattle.goi_tasks.specs.Tasks.{ReportsText, FaultyFor}
use Rattle.batch_lists.specs.declared.fault.BatchFault.{BatchFault}
use Rattle.batch_lists.specs.declared.fault.BatchFault.TheVariants as list
use Rattle.batch_lists.specs.declared.line.BatchLine.{BatchLine}
use Rattle.batch_lists.specs.Limits.{most_jobs, most_job_budget}
use Rattle.goi_batches.specs.declared.judged.Judged.{Judged}
use Rattle.goi_batches.specs.Judging.{IsJudged}
use Rattle.goi_batches.specs.Sections.{listed}
use Rattle.goi_engine.specs.declared.answer.Answer.{Answer}
use Rattle.goi_engine.specs.declared.load.LoadError.{LoadError}
use Rattle.goi_engine.specs.declared.load.LoadError.TheVariants.{Memory, Failed}
use Rattle.goi_engine.specs.declared.answer.Answer.TheVariants.{Prints, Refused, BadWords, NotRead, NoMemory}
use Rattle.goi_jobs.specs.Jobs.{JobTree}
use Rattle.goi_world.specs.Seen.{FilesState}
use Rattle.goi_engine.specs.FilesSeen.{OfFile}
use Rattle.goi_engine.specs.ListsSeen.{OfList, FaultyList, ReportsLines, LacksOne, LoadedEach}
use Rattle.goi_engine.specs.Verdicts.{Reports, Refuses, NotReadAs, NotReadFor}

-- the answer is a right output, or a refusal for a fault that is there, or want of memory
abbrev pub Says : (Output → Type 0) → (Fault → Type 0) → Answer → Type 0
Says reports faulty (Prints report) = reports (output_of report)
Says reports faulty (Refused refusal) = (f : Fault) × faulty f × TellsFault f refusal
Says reports faulty BadWords = ⊥
Says reports faulty NotRead = ⊥
Says reports faulty NoMemory = Unit {0}

-- the answer over files, by what is a right output, a fault that is there and a file that is lacked
abbrev pub AnswersWith : (Output → Type 0) → (Fault → Type 0) → Type 0 → FilesState → FilesState → Answer → Type 0
AnswersWith reports faulty lacks old new (Prints report) = (new.faults ≡ old.faults) × reports (output_of report)
AnswersWith reports faulty lacks old new (Refused refusal) = (new.faults ≡ old.faults) × ((f : Fault) × faulty f × TellsFault f refusal)
AnswersWith reports faulty lacks old new BadWords = ⊥
AnswersWith reports faulty lacks old new NotRead = NotReadAs lacks old new
AnswersWith reports faulty lacks old new NoMemory = new.faults ≡ old.faults

-- the same with the bytes of one file
abbrev pub AnswersFile : (List ℕ → Output → Type 0) → (List ℕ → Fault → Type 0) → List ℕ → FilesState → FilesState → Answer → Type 0
AnswersFile reports faulty file old new a =
    AnswersWith (λ o. OfFile old file (λ bytes. reports bytes o)) (λ f. OfFile old file (λ bytes. faulty bytes f)) (IsTrue (old.lacks file))
    old new a

-- the answer to a task on the text of a file
abbrev pub AnswersTask : ℕ → Task → List ℕ → FilesState → FilesState → Answer → Type 0
AnswersTask workers task file old new a = AnswersFile (ReportsText workers task) (FaultyFor task) file old new a

-- the answer to a schedule's file on the net of a term
abbrev pub AnswersSchedule : TermTree → Option Window → List ℕ → FilesState → FilesState → Answer → Type 0
AnswersSchedule t window file old new a = AnswersFile (ReportsReplay t window) (FaultySchedule t) file old new a

-- the net of the program of a file was made
pub record MadeNet (file : List ℕ) (old new : FilesState) (net : NetTree) : Type 0 where
  pub term : TermTree
  pub ground : OfFile old file (λ bytes. IsGround bytes term)
  pub runs : RunsAs ByName term net
  pub faults : new.faults ≡ old.faults

-- the answer where no net was made
abbrev pub AnswersNoNet : List ℕ → FilesState → FilesState → Answer → Type 0
AnswersNoNet file old new a = AnswersFile (λ bytes o. ⊥) (FaultyText number) file old new a

-- the answer where there is no report, for this cause
abbrev pub IsStopped : Stop → Answer → Type 0
IsStopped s (Prints report) = ⊥
IsStopped s (Refused refusal) = (f : Fault) × (s ≡ stop.Fault f) × TellsFault f refusal
IsStopped s BadWords = ⊥
IsStopped s NotRead = ⊥
IsStopped s NoMemory = Unit {0}

-- ---- lists

-- each line's file is there, and its program came to this before the run
abbrev pub AreJudgedIn : FilesState → List BatchLine → List Judged → Type 0
AreJudgedIn files [] [] = Unit {0}
AreJudgedIn files [] (j ∷ js) = ⊥
AreJudgedIn files (l ∷ ls) [] = ⊥
AreJudgedIn files (l ∷ ls) (j ∷ js) = OfFile files l.file (λ bytes. IsJudged (listed l.budget bytes) j) × AreJudgedIn files ls js

-- a line has a budget within its limit
pub record LineFits (l : BatchLine) : Type 0 where
  pub some : 1 ≤ l.budget
  pub few : l.budget ≤ most_job_budget

-- there are not too many lines, and each is such a one
pub record LinesFit (lines : List BatchLine) : Type 0 where
  pub each : All LineFits lines
  pub few : length lines ≤ most_jobs

-- the answer to these lines
abbrev pub AnswersLines : ℕ → List BatchLine → FilesState → FilesState → Answer → Type 0
AnswersLines workers lines old new a = AnswersWith (ReportsLines old workers lines) (λ f. ⊥) (LacksOne old lines) old new a

-- the answer to the text of a list
abbrev pub AnswersList : ℕ → List ℕ → FilesState → FilesState → Answer → Type 0
AnswersList workers bytes old new a =
    AnswersWith (λ o. OfList bytes (λ lines. ReportsLines old workers lines o)) (FaultyList bytes) (OfList bytes (LacksOne old)) old new a

-- why nothing was loaded: want of memory, or a file was not read
abbrev pub NotLoaded : Type 0 → FilesState → FilesState → LoadError → Type 0
NotLoaded lacks old new Memory = new.faults ≡ old.faults
NotLoaded lacks old new Failed = NotReadAs lacks old new

-- the programs of a list that the bytes are were loaded, or nothing was read
abbrev pub LoadedLines : {S : Type 0} → (S → Reading → S → Type 0) → List ℕ → S → S → Type 0
LoadedLines one bytes old new = (new ≡ old) ⊎ OfList bytes (λ lines. LoadedEach one lines old new)

-- what a fault of a list stops for
abbrev pub stop_of_list : BatchFault → Stop
stop_of_list list.NoMemory = stop.Memory
stop_of_list f = stop.Fault (Batch f)

-- the answer to a job
abbrev pub AnswersJob : JobTree → FilesState → FilesState → Answer → Type 0
AnswersJob j old new (Prints report) = (new.faults ≡ old.faults) × Reports j old (output_of report)
AnswersJob j old new (Refused refusal) = (new.faults ≡ old.faults) × ((f : Fault) × Refuses j old f × TellsFault f refusal)
AnswersJob j old new BadWords = ⊥
AnswersJob j old new NotRead = NotReadFor j old new
AnswersJob j old new NoMemory = new.faults ≡ old.faults

-- the answer to words, by the job that they ask for
abbrev pub Answers : Option JobTree → FilesState → FilesState → Answer → Type 0
Answers None old new (Prints report) = ⊥
Answers None old new (Refused refusal) = ⊥
Answers None old new BadWords = new.faults ≡ old.faults
Answers None old new NotRead = ⊥
Answers None old new NoMemory = new.faults ≡ old.faults
Answers (Some j) old new a = AnswersJob j old new a
