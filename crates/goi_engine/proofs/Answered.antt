-- The answer to a job, from those to its files.
use Rattle.std.proofs.Common.{◌≡◌, ℕ, Bool, false, List, [], Option, Some, None, IsTrue, refl, sym, ap, ◌∙◌, subst, inl, inr}
use Rattle.std.proofs.Common.{⊎_elim, arith}
use Rattle.std.proofs.lemmas.List.Elements.{All-nil}
use Rattle.goi_world.specs.Outside.{Reading}
use Rattle.pcf_values.specs.Terms.{TermTree}
use Rattle.net_build.specs.Nets.{NetTree}
use Rattle.program_runs.specs.declared.calling.Calling.TheVariants.{ByName}
use Rattle.program_runs.specs.Nets.{RunsAs}
use Rattle.goi_engine.specs.declared.answer.Answer.{Answer}
use Rattle.goi_engine.specs.declared.answer.Answer.TheVariants.{Prints, Refused, BadWords, NotRead, NoMemory}
use Rattle.goi_engine.specs.Answers.{AnswersFile, AnswersTask, AnswersSchedule, MadeNet, AnswersJob}
use Rattle.goi_jobs.specs.declared.task.Task.{Task}
use Rattle.goi_jobs.specs.Jobs.{JobTree, text, replay, list, demo, call, verilog}
use Rattle.goi_jobs.specs.declared.verilog.Verilog.{Verilog}
use Rattle.goi_world.specs.Seen.{FilesState, FilesKept}
use Rattle.goi_world.specs.Told.{files_seen}
use Rattle.goi_engine.specs.FilesSeen.{Possibly, OfFile, ReadsWithin, LoadedBy}
use Rattle.goi_tasks.specs.Calls.{ReportsCall, FaultyCall}
use Rattle.goi_tasks.specs.Seen.{output_of}
use Rattle.program_runs.specs.Programs.{IsGround, OfGround}
use Rattle.goi_tasks.specs.Programs.{FaultyEither}
use Rattle.goi_jobs.specs.declared.window.Window.{Window}
use Rattle.goi_jobs.specs.Tasks.{shown}
use Rattle.goi_tasks.specs.Replaying.{ReportsReplay, FaultySchedule}
use Rattle.goi_tasks.specs.Verilogs.{ReportsVerilog, FaultyVerilog}
use Rattle.goi_engine.specs.Verdicts.{HasNumber, ReadFor}
use Rattle.goi_engine.proofs.Coming.{possibly}

-- what is seen of the files is the same in both states where all that is seen is
pub same_state : (old new : FilesState) → FilesKept old new → new.faults ≡ old.faults → new ≡ old
same_state old new k f =
    ap (λ (x : List ℕ → Option (List ℕ)). files_seen x new.lacks new.faults new.steady) k.told
    ∙ ap (λ (x : List ℕ → Bool). files_seen old.told x new.faults new.steady) k.lacks
    ∙ ap (λ (x : ℕ). files_seen old.told old.lacks x new.steady) f
    ∙ ap (λ (x : Bool). files_seen old.told old.lacks old.faults x) k.steady

-- ---- replay

module _ (file moves : List ℕ) (window : Option Window) (old new : FilesState) where
  module _ (t : TermTree) (ground : OfFile old file (λ bytes. IsGround bytes t)) where
    has_number : OfFile old file HasNumber
    has_number = (ground.0, possibly (old.told file) (λ b. IsGround b t) HasNumber (λ b g. (t, g, tt)) ground.1)

    -- the program's term is t, and the schedule was answered
    with_term : (a : Answer) → AnswersSchedule t window moves old new a → AnswersJob (replay file moves window) old new a
    with_term (Prints r) (same, of) = (
      same,
      (
        ground.0,
        possibly (old.told file) (λ b. IsGround b t)
            (λ b. OfGround b (λ u. OfFile old moves (λ schedule. ReportsReplay u window schedule (output_of r))))
            (λ b g. (t, g, of)) ground.1,
      ),
    )
    with_term (Refused r) (same, (f, of, line)) = (
      same,
      (
        f,
        (
          ground.0,
          possibly (old.told file) (λ b. IsGround b t)
              (λ b. FaultyEither b (λ u. OfFile old moves (λ schedule. FaultySchedule u schedule f)) f) (λ b g. inr (t, g, of)) ground.1,
        ),
        line,
      ),
    )
    with_term BadWords h = h
    with_term NotRead h = (
      tt,
      record {
        cause = ⊎_elim (λ (l : IsTrue (old.lacks moves)). inl (inr (has_number, l))) (λ r. inr r) h.cause;
        sure = λ s. inr (has_number, h.sure s);
      },
    )
    with_term NoMemory h = h

  pub schedule_job : (mid : FilesState) (net : NetTree) (a : Answer) → FilesKept old mid → MadeNet file old mid net →
      ((t : TermTree) → RunsAs ByName t net → AnswersSchedule t window moves mid new a) →
      AnswersJob (replay file moves window) old new a
  schedule_job mid net a kept made h =
      with_term made.term made.ground a
      (subst (λ (s : FilesState). AnswersSchedule made.term window moves s new a) (same_state old mid kept made.faults)
      (h made.term made.runs))

-- ---- text

-- the answer to a task on a file is that to the job
text_job : (workers : ℕ) (task : Task) (file : List ℕ) (old new : FilesState) (a : Answer) → AnswersTask workers task file old new a →
    AnswersJob (text file workers task) old new a
text_job workers task file old new (Prints r) h = h
text_job workers task file old new (Refused r) h = h
text_job workers task file old new BadWords h = h
text_job workers task file old new NotRead h = (tt, h)
text_job workers task file old new NoMemory h = h

-- and so to the job that asks for it, by what was called
pub text_of_job : (job : JobTree) (file : List ℕ) (workers : ℕ) (task : Task) → job ≡ text file workers task → (named : List ℕ) →
    named ≡ file → (old new : FilesState) (a : Answer) → AnswersTask workers task named old new a → AnswersJob job old new a
text_of_job job file workers task is named n old new a h =
    subst (λ (j : JobTree). AnswersJob j old new a) (sym is)
    (text_job workers task file old new a (subst (λ (xs : List ℕ). AnswersTask workers task xs old new a) n h))

-- ---- call

-- the answer to the file of a function is that to its call
pub call_job : (workers budget : ℕ) (schedule tally : Bool) (numbers file : List ℕ) (old new : FilesState) (a : Answer) →
    AnswersFile (ReportsCall workers budget (shown schedule tally false) numbers) (FaultyCall numbers) file old new a →
    AnswersJob (call file numbers workers budget schedule tally) old new a
call_job workers budget schedule tally numbers file old new (Prints r) h = h
call_job workers budget schedule tally numbers file old new (Refused r) h = h
call_job workers budget schedule tally numbers file old new BadWords h = h
call_job workers budget schedule tally numbers file old new NotRead h = (tt, h)
call_job workers budget schedule tally numbers file old new NoMemory h = h

-- and so to the job that asks for it, by what was called
pub call_of_job : (job : JobTree) (file numbers : List ℕ) (workers budget : ℕ) (schedule tally : Bool) →
    job ≡ call file numbers workers budget schedule tally → (named given : List ℕ) → named ≡ file → given ≡ numbers →
    (old new : FilesState) (a : Answer) →
    AnswersFile (ReportsCall workers budget (shown schedule tally false) given) (FaultyCall given) named old new a →
    AnswersJob job old new a
call_of_job job file numbers workers budget schedule tally is named given n g old new a h =
    subst (λ (j : JobTree). AnswersJob j old new a) (sym is)
    (call_job workers budget schedule tally numbers file old new a
    (subst (λ (xs : List ℕ). AnswersFile (ReportsCall workers budget (shown schedule tally false) xs) (FaultyCall xs) file old new a) g
    (subst (λ (xs : List ℕ). AnswersFile (ReportsCall workers budget (shown schedule tally false) given) (FaultyCall given) xs old new a) n
    h)))

-- ---- Verilog

-- the answer to the file of a text is that to what is printed of Verilog for it
pub verilog_job : (v : Verilog) (name file : List ℕ) (old new : FilesState) (a : Answer) →
    AnswersFile (ReportsVerilog name v) (FaultyVerilog v) file old new a → AnswersJob (verilog file name v) old new a
verilog_job v name file old new (Prints r) h = h
verilog_job v name file old new (Refused r) h = h
verilog_job v name file old new BadWords h = h
verilog_job v name file old new NotRead h = (tt, h)
verilog_job v name file old new NoMemory h = h

-- and so to the job that asks for it, by what was printed
pub verilog_of_job : (job : JobTree) (file name : List ℕ) (v : Verilog) → job ≡ verilog file name v →
    (given_file given_name : List ℕ) → given_file ≡ file → given_name ≡ name → (old new : FilesState) (a : Answer) →
    AnswersFile (ReportsVerilog given_name v) (FaultyVerilog v) given_file old new a → AnswersJob job old new a
verilog_of_job job file name v is given_file given_name f n old new a h =
    subst (λ (j : JobTree). AnswersJob j old new a) (sym is)
    (verilog_job v name file old new a
    (subst (λ (xs : List ℕ). AnswersFile (ReportsVerilog xs v) (FaultyVerilog v) file old new a) n
    (subst (λ (xs : List ℕ). AnswersFile (ReportsVerilog given_name v) (FaultyVerilog v) xs old new a) f h)))

-- ---- no file

-- a file of which nothing was read
unread : {S : Type 0} (one : S → Reading → S → Type 0) (name : List ℕ) (limit : ℕ) (old : S) → LoadedBy one name limit old old
unread one name limit old = record {
  log = [];
  came = refl;
  few = omega arith;
  each = All-nil (ReadsWithin name limit);
  onwards = tt;
  joined = tt;
}

-- reading nothing is within every job's reads
pub nothing_read : {S : Type 0} (one : S → Reading → S → Type 0) (told : List ℕ → Option (List ℕ)) (asked : Option JobTree) (old : S) →
    ReadFor one told asked old old
nothing_read one told None old = refl
nothing_read one told (Some (text file workers task)) old = unread one file _ old
nothing_read one told (Some (replay file moves window)) old =
    record { mid = old; program = unread one file _ old; schedule = inl refl }
nothing_read one told (Some (list file workers)) old = record { mid = old; list = unread one file _ old; programs = inl refl }
nothing_read one told (Some (demo n workers)) old = refl
nothing_read one told (Some (call file numbers workers budget schedule tally)) old = unread one file _ old
nothing_read one told (Some (verilog file name v)) old = unread one file _ old
