-- What a job makes of files: its output, or the fault for which it refuses them, and which reads it makes.
-- A replay judges the program first, and the schedule's file is read where the program is a number. A list is judged first, and then its
-- programs are read; a fault of a program is told in the report. The generated program needs no file.
use Rattle.std.specs.Prelude.{◌≡◌, ◌⊎◌, ℕ, IsTrue, false, List, Option, None, Some}
use Rattle.goi_world.specs.Outside.{Rose, Reading}
use Rattle.pcf_values.specs.Most.{most_program_bytes, most_schedule_bytes}
use Rattle.net_build.specs.NetOf.{net_of}
use Rattle.demo_text.specs.Demo.{demo_term}
use Rattle.goi_tasks.specs.declared.fault.Fault.{Fault}
use Rattle.goi_tasks.specs.Calls.{ReportsCall, FaultyCall, EndsCall}
use Rattle.goi_tasks.specs.Outputs.{Output}
use Rattle.program_runs.specs.Programs.{OfGround}
use Rattle.goi_tasks.specs.Programs.{FaultyEither}
use Rattle.goi_tasks.specs.RunReports.{demo_budget, ReportsDemo, EndsRun}
use Rattle.goi_tasks.specs.Replaying.{ReportsReplay, EndsReplay, FaultySchedule}
use Rattle.goi_tasks.specs.Tasks.{most_bytes, ReportsText, FaultyFor, EndsText}
use Rattle.goi_tasks.specs.Verilogs.{ReportsVerilog, FaultyVerilog, EndsVerilog}
use Rattle.goi_jobs.specs.Jobs.{JobTree, text, replay, list, demo, call, verilog}
use Rattle.goi_jobs.specs.Tasks.{shown}
use Rattle.goi_engine.specs.ListsSeen.{OfList, FaultyList, ReportsLines, EndLines, LacksOne, LoadedList}
use Rattle.goi_world.specs.Seen.{FilesState}
use Rattle.goi_engine.specs.FilesSeen.{OfFile, OfTold, LoadedBy}

-- the text is a program whose term is a number
abbrev pub HasNumber : List ℕ → Type 0
HasNumber bytes = OfGround bytes (λ t. Unit {0})

-- ---- what comes of a job

-- its output, by what the files tell
abbrev pub Reports : JobTree → FilesState → Output → Type 0
Reports (text file workers task) files o = OfFile files file (λ bytes. ReportsText workers task bytes o)
Reports (replay file moves window) files o =
    OfFile files file (λ bytes. OfGround bytes (λ t. OfFile files moves (λ schedule. ReportsReplay t window schedule o)))
Reports (list file workers) files o = OfFile files file (λ bytes. OfList bytes (λ lines. ReportsLines files workers lines o))
Reports (demo n workers) files o = ReportsDemo n workers o
Reports (call file numbers workers budget schedule tally) files o =
    OfFile files file (λ bytes. ReportsCall workers budget (shown schedule tally false) numbers bytes o)
Reports (verilog file name v) files o = OfFile files file (λ bytes. ReportsVerilog name v bytes o)

-- its first fault, by what the files tell
abbrev pub Refuses : JobTree → FilesState → Fault → Type 0
Refuses (text file workers task) files f = OfFile files file (λ bytes. FaultyFor task bytes f)
Refuses (replay file moves window) files f =
    OfFile files file (λ bytes. FaultyEither bytes (λ t. OfFile files moves (λ schedule. FaultySchedule t schedule f)) f)
Refuses (list file workers) files f = OfFile files file (λ bytes. FaultyList bytes f)
Refuses (demo n workers) files f = ⊥
Refuses (call file numbers workers budget schedule tally) files f = OfFile files file (λ bytes. FaultyCall numbers bytes f)
Refuses (verilog file name v) files f = OfFile files file (λ bytes. FaultyVerilog v bytes f)

-- it comes to a file that is lacked
abbrev pub LacksFor : JobTree → FilesState → Type 0
LacksFor (text file workers task) files = IsTrue (files.lacks file)
LacksFor (replay file moves window) files = IsTrue (files.lacks file) ⊎ (OfFile files file HasNumber × IsTrue (files.lacks moves))
LacksFor (list file workers) files = IsTrue (files.lacks file) ⊎ OfFile files file (λ bytes. OfList bytes (LacksOne files))
LacksFor (demo n workers) files = ⊥
LacksFor (call file numbers workers budget schedule tally) files = IsTrue (files.lacks file)
LacksFor (verilog file name v) files = IsTrue (files.lacks file)

-- ---- the same where the files are told

-- the files tell enough for the job, which can be done with them and ends with this status
abbrev pub CanDo : JobTree → FilesState → ℕ → Type 0
CanDo (text file workers task) files status = OfTold files file (λ bytes. EndsText task bytes status)
CanDo (replay file moves window) files status =
    OfTold files file (λ bytes. OfGround bytes (λ t. OfTold files moves (λ schedule. EndsReplay t schedule status)))
CanDo (list file workers) files status = OfTold files file (λ bytes. OfList bytes (λ lines. EndLines files lines status))
CanDo (demo n workers) files status = EndsRun demo_budget (net_of (demo_term n)) status
CanDo (call file numbers workers budget schedule tally) files status = OfTold files file (λ bytes. EndsCall budget numbers bytes status)
CanDo (verilog file name v) files status = OfTold files file (λ bytes. EndsVerilog v bytes status)

-- the files tell enough for the job, and this is its first fault
abbrev pub Faulty : JobTree → FilesState → Fault → Type 0
Faulty (text file workers task) files f = OfTold files file (λ bytes. FaultyFor task bytes f)
Faulty (replay file moves window) files f =
    OfTold files file (λ bytes. FaultyEither bytes (λ t. OfTold files moves (λ schedule. FaultySchedule t schedule f)) f)
Faulty (list file workers) files f = OfTold files file (λ bytes. FaultyList bytes f)
Faulty (demo n workers) files f = ⊥
Faulty (call file numbers workers budget schedule tally) files f = OfTold files file (λ bytes. FaultyCall numbers bytes f)
Faulty (verilog file name v) files f = OfTold files file (λ bytes. FaultyVerilog v bytes f)

-- the files tell enough to know that the job comes to a file that is lacked
abbrev pub SurelyLacks : JobTree → FilesState → Type 0
SurelyLacks (text file workers task) files = IsTrue (files.lacks file)
SurelyLacks (replay file moves window) files = IsTrue (files.lacks file) ⊎ (OfTold files file HasNumber × IsTrue (files.lacks moves))
SurelyLacks (list file workers) files = IsTrue (files.lacks file) ⊎ OfTold files file (λ bytes. OfList bytes (LacksOne files))
SurelyLacks (demo n workers) files = ⊥
SurelyLacks (call file numbers workers budget schedule tally) files = IsTrue (files.lacks file)
SurelyLacks (verilog file name v) files = IsTrue (files.lacks file)

-- ---- reads

-- the job reads a file
abbrev pub ReadsFiles : JobTree → Type 0
ReadsFiles (text file workers task) = Unit {0}
ReadsFiles (replay file moves window) = Unit {0}
ReadsFiles (list file workers) = Unit {0}
ReadsFiles (demo n workers) = ⊥
ReadsFiles (call file numbers workers budget schedule tally) = Unit {0}
ReadsFiles (verilog file name v) = Unit {0}

-- a file was not read: it is lacked, or a read of it failed, which steady files never do
pub record NotReadAs (lacks : Type 0) (old new : FilesState) : Type 0 where
  pub cause : lacks ⊎ Rose old.faults new.faults
  pub sure : IsTrue old.steady → lacks

-- a file of the job was not read
abbrev pub NotReadFor : JobTree → FilesState → FilesState → Type 0
NotReadFor j old new = ReadsFiles j × NotReadAs (LacksFor j old) old new

-- a program's file was loaded, and then the schedule's, or nothing more was read
pub record LoadedBoth {S : Type 0} (one : S → Reading → S → Type 0) (file moves : List ℕ) (old new : S) : Type 0 where
  pub mid : S
  pub program : LoadedBy one file most_program_bytes old mid
  pub schedule : (new ≡ mid) ⊎ LoadedBy one moves most_schedule_bytes mid new

-- files came from their first state to the second by the reads of the job, each file up to its limit; without a job by none. Which files
-- a list's programs are in is known by what the list holds.
abbrev pub ReadFor : {S : Type 0} → (S → Reading → S → Type 0) → (List ℕ → Option (List ℕ)) → Option JobTree → S → S → Type 0
ReadFor one told None old new = new ≡ old
ReadFor one told (Some (text file workers task)) old new = LoadedBy one file (most_bytes task) old new
ReadFor one told (Some (replay file moves window)) old new = LoadedBoth one file moves old new
ReadFor one told (Some (list file workers)) old new = LoadedList one (told file) file old new
ReadFor one told (Some (demo n workers)) old new = new ≡ old
ReadFor one told (Some (call file numbers workers budget schedule tally)) old new = LoadedBy one file most_program_bytes old new
ReadFor one told (Some (verilog file name v)) old new = LoadedBy one file most_program_bytes old new

-- so it is whatever the files hold that all that was read of them fits
abbrev pub ReadAsFits : {S : Type 0} → (S → Reading → S → Type 0) → (S → (List ℕ → Option (List ℕ)) → Type 0) → Option JobTree → S → S →
    Type 0
ReadAsFits one fits asked old new = (told : List ℕ → Option (List ℕ)) → fits new told → ReadFor one told asked old new
