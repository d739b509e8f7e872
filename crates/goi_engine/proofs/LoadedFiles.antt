-- What was loaded of a file says all that its bytes say: it is the file itself, or more bytes than there may be.
use Rattle.std.proofs.Common.{◌≡◌, ◌⊎◌, ℕ, zero, suc, ◌+◌, ◌<◌, ◌≤◌, List, length, take, Option, Some, None, IfSome, Result, Ok, Err, IfOk}
use Rattle.std.proofs.Common.{IfErr, refl, sym, IsTrue, inl, inr, ap, ◌∙◌, subst, ⊎_elim, arith}
use Rattle.std.proofs.lemmas.List.{take_all, length-take-le}
use Rattle.std.proofs.lemmas.Bool.{cases_lt}
use Rattle.pcf_values.specs.Most.{most_program_bytes, most_schedule_bytes}
use Rattle.pcf_values.specs.Terms.{TyTree, TermTree, nat}
use Rattle.pcf_values.specs.Named.{NamedTree}
use Rattle.pcf_reader.specs.declared.fault.ReadFault.{ReadFault}
use Rattle.pcf_reader.specs.declared.fault.ReadFault.TheVariants as read
use Rattle.pcf_reader.specs.Correct.{Text, TokenFault, FirstFault}
use Rattle.net_build.specs.Nets.{NetTree}
use Rattle.net_text.specs.declared.fault.NetTextFault.{NetTextFault}
use Rattle.net_text.specs.declared.fault.NetTextFault.TheVariants as listing
use Rattle.net_text.specs.Accepted.{Accepts, ListsProgram}
use Rattle.net_text.specs.Limits.{most_text_bytes}
use Rattle.net_text.specs.NetText.{TextOf}
use Rattle.schedule_log.specs.declared.fault.ScheduleFault.{ScheduleFault}
use Rattle.schedule_log.specs.declared.fault.ScheduleFault.TheVariants as schedule
use Rattle.schedule_log.specs.Schedules.{HasFault, ReadAs}
use Rattle.goi_tasks.specs.declared.fault.Fault.{Fault}
use Rattle.goi_tasks.specs.declared.stop.Stop.{Stop}
use Rattle.goi_tasks.specs.Stops.{StopsFor}
use Rattle.goi_jobs.specs.declared.task.Task.{Task}
use Rattle.goi_jobs.specs.declared.task.Task.TheVariants.{Run, Check, ShowNet, RunNet, Trace, Span, Steps}
use Rattle.goi_jobs.specs.declared.verilog.Verilog.{Verilog}
use Rattle.goi_jobs.specs.declared.verilog.Verilog.TheVariants as printed
use Rattle.goi_engine.specs.declared.answer.Answer.{Answer}
use Rattle.goi_engine.specs.declared.answer.Answer.TheVariants.{Prints, Refused, BadWords, NotRead, NoMemory}
use Rattle.goi_engine.specs.Answers.{Says, IsStopped, AnswersFile, AnswersNoNet, MadeNet}
use Rattle.goi_world.specs.Seen.{FilesState, holding}
use Rattle.goi_engine.specs.FilesSeen.{Whatever, Possibly}
use Rattle.goi_tasks.specs.NetFiles.{FaultyListing, unlisted}
use Rattle.goi_jobs.specs.declared.shown.Shown.{Shown}
use Rattle.function_runs.specs.Functions.{FaultyFunction, unread as no_function_read, of_tree as of_function_tree}
use Rattle.goi_tasks.specs.Calls.{ReportsCall, FaultyCall, FaultyAnyFunction}
use Rattle.goi_tasks.specs.Outputs.{Output}
use Rattle.goi_tasks.specs.Seen.{output_of}
use Rattle.program_runs.specs.declared.fault.ProgramFault.{ProgramFault}
use Rattle.program_runs.specs.declared.calling.Calling.TheVariants.{ByName}
use Rattle.program_runs.specs.Nets.{IsNetFor}
use Rattle.program_runs.specs.Programs.{Wanted, any_type, number, wanted_by_run, IsProgram, OfProgram}
use Rattle.program_runs.specs.Programs.{IsGround, FaultyProgram, unread, of_tree}
use Rattle.goi_tasks.specs.Programs.{FaultyText, no_program}
use Rattle.goi_jobs.specs.declared.window.Window.{Window}
use Rattle.goi_tasks.specs.Replaying.{ReportsReplay, FaultySchedule, unread as no_schedule, unmoved}
use Rattle.goi_tasks.specs.Tasks.{most_bytes, ReportsText, FaultyFor}
use Rattle.goi_tasks.specs.Verilogs.{ReportsVerilog, FaultyVerilog}
use Rattle.goi_tasks.proofs.Texts.{ground_net}

-- these are the same bytes, or both are more than there may be
abbrev pub Same : ℕ → List ℕ → List ℕ → Type 0
Same limit v bytes = (v ≡ bytes) ⊎ ((limit < length v) × (limit < length bytes))

same_bytes : (limit : ℕ) (v bytes : List ℕ) → v ≡ take (limit + 1) bytes → Same limit v bytes
same_bytes limit v bytes e =
    ⊎_elim (λ (n : limit + 1 < length bytes).
    let m : length v ≡ limit + 1 = ap length e ∙ length-take-le (limit + 1) bytes (omega arith) in
    inr (omega (arith, m), omega (arith, n)))
    (λ (n : length bytes ≤ limit + 1). inl (e ∙ take_all (limit + 1) bytes n))
    (cases_lt (limit + 1) (length bytes))

-- the told bytes are these, or none are told
abbrev pub Agrees : Option (List ℕ) → List ℕ → Type 0
Agrees told bytes = (told ≡ None) ⊎ (told ≡ Some bytes)

-- so there are bytes that agree with what is told
told_bytes : (limit : ℕ) (told : Option (List ℕ)) (v : List ℕ) → IfSome told (λ bytes. v ≡ take (limit + 1) bytes) →
    (bytes : List ℕ) × Agrees told bytes × Same limit v bytes
told_bytes limit None v e = (v, inl refl, inl refl)
told_bytes limit (Some bytes) v e = (bytes, inr refl, same_bytes limit v bytes e)

possibly : (told : Option (List ℕ)) (bytes : List ℕ) (P : List ℕ → Type 0) → Agrees told bytes → P bytes → Possibly told P
possibly None bytes P e p = (bytes, p)
possibly (Some b) bytes P (inl e) p = let h : None ≡ Some b = sym e in cc
possibly (Some b) bytes P (inr e) p = let h : bytes ≡ b = cc in subst P h p

-- what is possible of what was loaded is possible of the file
pub possible : (limit : ℕ) (P : List ℕ → Type 0) → ((v bytes : List ℕ) → Same limit v bytes → P v → P bytes) →
    (told : Option (List ℕ)) (v : List ℕ) → IfSome told (λ bytes. v ≡ take (limit + 1) bytes) → P v → Possibly told P
possible limit P goes told v e h = let t = told_bytes limit told v e in possibly told t.0 P t.1 (goes v t.0 t.2 h)

-- ---- the text of a program

no_text : (bytes : List ℕ) (tree : NamedTree) → most_program_bytes < length bytes → Text bytes tree → ⊥
no_text bytes tree n x = omega (arith, x.1.short)

no_token_fault : (bytes : List ℕ) (f : ReadFault) → most_program_bytes < length bytes → TokenFault bytes f → ⊥
no_token_fault bytes f n h = omega (arith, h.1.short)

too_long : (v bytes : List ℕ) (f : ReadFault) → most_program_bytes < length v → most_program_bytes < length bytes → FirstFault v f →
    FirstFault bytes f
too_long v bytes read.TooLong m n h = n
too_long v bytes (read.NotText at) m n h = absurd (omega (arith, h.0))
too_long v bytes read.NoMemory m n h = h
too_long v bytes (read.BadToken at) m n h = absurd (no_token_fault v (read.BadToken at) m h)
too_long v bytes (read.NumberTooWide at) m n h = absurd (no_token_fault v (read.NumberTooWide at) m h)
too_long v bytes (read.Unexpected at) m n h = absurd (no_token_fault v (read.Unexpected at) m h)
too_long v bytes (read.TooDeep at) m n h = absurd (no_token_fault v (read.TooDeep at) m h)
too_long v bytes (read.TooLarge at) m n h = absurd (no_token_fault v (read.TooLarge at) m h)

text_goes : (v bytes : List ℕ) (tree : NamedTree) → Same most_program_bytes v bytes → Text v tree → Text bytes tree
text_goes v bytes tree (inl e) x = subst (λ (b : List ℕ). Text b tree) e x
text_goes v bytes tree (inr n) x = absurd (no_text v tree n.0 x)

first_goes : (v bytes : List ℕ) (f : ReadFault) → Same most_program_bytes v bytes → FirstFault v f → FirstFault bytes f
first_goes v bytes f (inl e) x = subst (λ (b : List ℕ). FirstFault b f) e x
first_goes v bytes f (inr n) x = too_long v bytes f n.0 n.1 x

program_goes : (wanted : Wanted) (tree : NamedTree) (t : TermTree) (A : TyTree) (v bytes : List ℕ) → Same most_program_bytes v bytes →
    IsProgram wanted v tree t A → IsProgram wanted bytes tree t A
program_goes wanted tree t A v bytes s h = record { text = text_goes v bytes tree s h.text; typed = h.typed; will_do = h.will_do }

program_fault_goes : (wanted : Wanted) (f : ProgramFault) (v bytes : List ℕ) → Same most_program_bytes v bytes → FaultyProgram wanted v f →
    FaultyProgram wanted bytes f
program_fault_goes wanted _ v bytes s (unread f h) = unread f (first_goes v bytes f s h)
program_fault_goes wanted f v bytes s (of_tree tree _ x h) = of_tree tree f (text_goes v bytes tree s x) h

pub faulty_goes : (wanted : Wanted) (f : Fault) (v bytes : List ℕ) → Same most_program_bytes v bytes → FaultyText wanted v f →
    FaultyText wanted bytes f
faulty_goes wanted _ v bytes s (no_program f h) = no_program f (program_fault_goes wanted f v bytes s h)

pub of_program_goes : (wanted : Wanted) (P : NamedTree → TermTree → TyTree → Type 0) (v bytes : List ℕ) → Same most_program_bytes v bytes →
    OfProgram wanted v P → OfProgram wanted bytes P
of_program_goes wanted P v bytes s h =
    record { tree = h.tree; term = h.term; type = h.type; is = program_goes wanted h.tree h.term h.type v bytes s h.is; so = h.so }

-- ---- the text of a function

function_fault_goes : (n : ℕ) (f : ProgramFault) (v bytes : List ℕ) → Same most_program_bytes v bytes → FaultyFunction n v f →
    FaultyFunction n bytes f
function_fault_goes n _ v bytes s (no_function_read f h) = no_function_read f (first_goes v bytes f s h)
function_fault_goes n f v bytes s (of_function_tree tree _ x h) = of_function_tree tree f (text_goes v bytes tree s x) h

-- a fault of what was loaded is one of every text that is the same up to the limit
pub call_fault_goes : (numbers : List ℕ) (f : Fault) (v bytes : List ℕ) → Same most_program_bytes v bytes → FaultyCall numbers v f →
    FaultyCall numbers bytes f
call_fault_goes numbers _ v bytes s (no_program f h) = no_program f (function_fault_goes (length numbers) f v bytes s h)

any_fault_goes : (f : Fault) (v bytes : List ℕ) → Same most_program_bytes v bytes → FaultyAnyFunction v f → FaultyAnyFunction bytes f
any_fault_goes _ v bytes s (no_program f h) = no_program f (λ n. function_fault_goes n f v bytes s (h n))

-- and so is a report
pub call_goes : (workers budget : ℕ) (shown : Shown) (numbers : List ℕ) (o : Output) (v bytes : List ℕ) →
    Same most_program_bytes v bytes → ReportsCall workers budget shown numbers v o → ReportsCall workers budget shown numbers bytes o
call_goes workers budget shown numbers o v bytes s h =
    let (tree, x, is) = h.is in
    record { term = h.term; is = (tree, text_goes v bytes tree s x, is); so = h.so }

-- ---- the listing of a net

lists_goes : (t : TermTree) (v bytes : List ℕ) → Same most_text_bytes v bytes → ListsProgram v t → ListsProgram bytes t
lists_goes t v bytes (inl e) h = subst (λ (b : List ℕ). ListsProgram b t) e h
lists_goes t v bytes (inr n) h = absurd (omega (arith, n.0, h.short))

no_text_of : (v : List ℕ) (net : NetTree) → most_text_bytes < length v → TextOf v net → ⊥
no_text_of v net n h = omega (arith, n, h.short)

far_too_long : (v bytes : List ℕ) (f : NetTextFault) → most_text_bytes < length v → most_text_bytes < length bytes → Accepts v (Err f) →
    Accepts bytes (Err f)
far_too_long v bytes listing.NoMemory m n h = tt
far_too_long v bytes listing.TooLong m n h = n
far_too_long v bytes (listing.BadLine k) m n h = absurd (omega (arith, m, h.0))
far_too_long v bytes (listing.NotSound f) m n (net, x, h) = absurd (no_text_of v net m x)
far_too_long v bytes listing.NotOfTerm m n (net, x, s, h) = absurd (no_text_of v net m x)

accepts_goes : (f : NetTextFault) (v bytes : List ℕ) → Same most_text_bytes v bytes → Accepts v (Err f) → Accepts bytes (Err f)
accepts_goes f v bytes (inl e) h = subst (λ (b : List ℕ). Accepts b (Err f)) e h
accepts_goes f v bytes (inr n) h = far_too_long v bytes f n.0 n.1 h

listing_goes : (f : Fault) (v bytes : List ℕ) → Same most_text_bytes v bytes → FaultyListing v f → FaultyListing bytes f
listing_goes _ v bytes s (unlisted f n h) = unlisted f n (accepts_goes f v bytes s h)

-- ---- the text of a task

-- a fault of the first bytes of a file is one of the file, for each task
pub fault_goes : (task : Task) (f : Fault) (v bytes : List ℕ) → Same (most_bytes task) v bytes → FaultyFor task v f → FaultyFor task bytes f
fault_goes (Run budget calling shown) f v bytes s h = faulty_goes (wanted_by_run calling) f v bytes s h
fault_goes (Check term) f v bytes s h = faulty_goes any_type f v bytes s h
fault_goes ShowNet f v bytes s h = faulty_goes number f v bytes s h
fault_goes (Span budget calling profile schedule) f v bytes s h = faulty_goes (wanted_by_run calling) f v bytes s h
fault_goes (Steps budget window) f v bytes s h = faulty_goes number f v bytes s h
fault_goes (RunNet budget shown) f v bytes s h = listing_goes f v bytes s h
fault_goes (Trace budget calling window) f v bytes s h = faulty_goes (wanted_by_run calling) f v bytes s h

-- what may be said of a file's bytes goes with the report on them, for each task
pub report_goes : (workers : ℕ) (task : Task) (o : Output) (v bytes : List ℕ) → Same (most_bytes task) v bytes →
    ReportsText workers task v o → ReportsText workers task bytes o
report_goes workers (Run budget calling shown) o v bytes s h = of_program_goes (wanted_by_run calling) _ v bytes s h
report_goes workers (Check term) o v bytes s h = of_program_goes any_type _ v bytes s h
report_goes workers ShowNet o v bytes s h = of_program_goes number _ v bytes s h
report_goes workers (Span budget calling profile schedule) o v bytes s h = of_program_goes (wanted_by_run calling) _ v bytes s h
report_goes workers (Steps budget window) o v bytes s h = of_program_goes number _ v bytes s h
report_goes workers (RunNet budget shown) o v bytes s h =
    record { term = h.term; lists = lists_goes h.term v bytes s h.lists; so = h.so }
report_goes workers (Trace budget calling window) o v bytes s h = of_program_goes (wanted_by_run calling) _ v bytes s h

pub ground_goes : (t : TermTree) (v bytes : List ℕ) → Same most_program_bytes v bytes → IsGround v t → IsGround bytes t
ground_goes t v bytes s (tree, h) = (tree, program_goes number tree t nat v bytes s h)

-- ---- what is printed of Verilog for a text

-- a fault of the first bytes of a file is one of the file
pub verilog_fault_goes : (verilog : Verilog) (f : Fault) (v bytes : List ℕ) → Same most_program_bytes v bytes → FaultyVerilog verilog v f →
    FaultyVerilog verilog bytes f
verilog_fault_goes (printed.Circuit cells forks handshake) f v bytes s h = any_fault_goes f v bytes s h
verilog_fault_goes (printed.Run cells forks budget) f v bytes s h = faulty_goes number f v bytes s h
verilog_fault_goes (printed.Waves cells forks budget) f v bytes s h = faulty_goes number f v bytes s h
verilog_fault_goes (printed.Bench budget) f v bytes s h = faulty_goes number f v bytes s h
verilog_fault_goes (printed.Needs budget) f v bytes s h = faulty_goes number f v bytes s h
verilog_fault_goes (printed.Schedule budget) f v bytes s h = faulty_goes number f v bytes s h

-- and so is a report
pub verilog_goes : (name : List ℕ) (verilog : Verilog) (o : Output) (v bytes : List ℕ) → Same most_program_bytes v bytes →
    ReportsVerilog name verilog v o → ReportsVerilog name verilog bytes o
verilog_goes name (printed.Circuit cells forks handshake) o v bytes s h =
    let (tree, x, is) = h.is in
    record { term = h.term; count = h.count; is = (tree, text_goes v bytes tree s x, is); so = h.so }
verilog_goes name (printed.Run cells forks budget) o v bytes s h = of_program_goes number _ v bytes s h
verilog_goes name (printed.Waves cells forks budget) o v bytes s h = of_program_goes number _ v bytes s h
verilog_goes name (printed.Bench budget) o v bytes s h = of_program_goes number _ v bytes s h
verilog_goes name (printed.Needs budget) o v bytes s h = of_program_goes number _ v bytes s h
verilog_goes name (printed.Schedule budget) o v bytes s h = of_program_goes number _ v bytes s h

-- ---- the text of a schedule

no_fault_line : (text : List ℕ) (f : ScheduleFault) → most_schedule_bytes < length text → HasFault text f → ⊥
no_fault_line text f n h = omega (arith, h.short)

much_too_long : (v text : List ℕ) (r : Result (List ℕ) ScheduleFault) → most_schedule_bytes < length v → most_schedule_bytes < length text →
    ReadAs v r → ReadAs text r
much_too_long v text (Ok tickets) m n h = absurd (omega (arith, h.short))
much_too_long v text (Err schedule.NoMemory) m n h = h
much_too_long v text (Err schedule.BadHeader) m n h = absurd (omega (arith, h.short))
much_too_long v text (Err (schedule.BadLine k)) m n h = absurd (no_fault_line v (schedule.BadLine k) m h)
much_too_long v text (Err (schedule.TicketTooWide k)) m n h = absurd (no_fault_line v (schedule.TicketTooWide k) m h)
much_too_long v text (Err schedule.NoEnd) m n h = absurd (no_fault_line v schedule.NoEnd m h)
much_too_long v text (Err (schedule.TooLong zero)) m n h = n
much_too_long v text (Err (schedule.TooLong (suc k))) m n h = absurd (no_fault_line v (schedule.TooLong (suc k)) m h)

schedule_goes : (r : Result (List ℕ) ScheduleFault) (v text : List ℕ) → Same most_schedule_bytes v text → ReadAs v r → ReadAs text r
schedule_goes r v text (inl e) h = subst (λ (b : List ℕ). ReadAs b r) e h
schedule_goes r v text (inr n) h = much_too_long v text r n.0 n.1 h

-- a report on a schedule's text is one on every text that is the same up to the limit
pub replay_goes : (t : TermTree) (window : Option Window) (o : Output) (v text : List ℕ) → Same most_schedule_bytes v text →
    ReportsReplay t window v o →
    ReportsReplay t window text o
replay_goes t window o v text s h = record {
  tickets = h.tickets;
  schedule = schedule_goes (Ok h.tickets) v text s h.schedule;
  state = h.state;
  led = h.led;
  agrees = h.agrees;
  output_is = h.output_is;
}

pub moves_goes : (t : TermTree) (f : Fault) (v text : List ℕ) → Same most_schedule_bytes v text → FaultySchedule t v f →
    FaultySchedule t text f
moves_goes t _ v text s (no_schedule f n h) = no_schedule f n (schedule_goes (Err f) v text s h)
moves_goes t _ v text s (unmoved f tickets n h k) = unmoved f tickets n (schedule_goes (Ok tickets) v text s h) k

-- ---- an answer to what was loaded

-- what is said of what was loaded is the answer to the file
pub answers_file : (limit : ℕ) (R : List ℕ → Output → Type 0) (P : List ℕ → Fault → Type 0) →
    ((o : Output) (v bytes : List ℕ) → Same limit v bytes → R v o → R bytes o) →
    ((f : Fault) (v bytes : List ℕ) → Same limit v bytes → P v f → P bytes f) →
    (file : List ℕ) (old new : FilesState) (v : List ℕ) (a : Answer) → new.faults ≡ old.faults → (IsTrue (old.lacks file) → ⊥) → IfSome
    (old.told file) (λ bytes. v ≡ take (limit + 1) bytes) → Says (R v) (P v) a → AnswersFile R P file old new a
answers_file limit R P goes moves file old new v (Prints r) same had e h =
    (same, (had, possible limit (λ b. R b (output_of r)) (goes (output_of r)) (old.told file) v e h))
answers_file limit R P goes moves file old new v (Refused r) same had e (f, h, line) =
    (same, (f, (had, possible limit (λ b. P b f) (moves f) (old.told file) v e h), line))
answers_file limit R P goes moves file old new v BadWords same had e h = h
answers_file limit R P goes moves file old new v NotRead same had e h = absurd h
answers_file limit R P goes moves file old new v NoMemory same had e h = same

-- the net of what was loaded is that of the file's program
made_net : (file : List ℕ) (old new : FilesState) (v : List ℕ) (net : NetTree) → new.faults ≡ old.faults → (IsTrue (old.lacks file) → ⊥) →
    IfSome (old.told file) (λ bytes. v ≡ take (most_program_bytes + 1) bytes) → IsNetFor ByName v net → MadeNet file old new net
made_net file old new v net same had e h =
    let (t, ground, runs) = ground_net v net h in
    record {
      term = t;
      ground = (had, possible most_program_bytes (λ b. IsGround b t) (ground_goes t) (old.told file) v e ground);
      runs = runs;
      faults = same;
    }

-- and so it is whatever the files hold
module _ {S : Type 0} (seen : S → FilesState) (fits : S → (List ℕ → Option (List ℕ)) → Type 0) (file : List ℕ) (old new : S) (v : List ℕ)
  where
    abbrev Loaded : Type 0
    Loaded = (told : List ℕ → Option (List ℕ)) → fits new told → IfSome (told file) (λ bytes. v ≡ take (most_program_bytes + 1) bytes)

    pub whatever_net : {E : Type 0} (r : Result NetTree E) → (seen new).faults ≡ (seen old).faults → (IsTrue ((seen old).lacks file) → ⊥) →
        Loaded → IfOk r (λ net. IsNetFor ByName v net) → IfOk r (λ net. Whatever seen fits old new (λ x y. MadeNet file x y net))
    whatever_net (Ok net) same had e h =
        λ told is. made_net file (holding told (seen old)) (holding told (seen new)) v net same had (e told is) h
    whatever_net (Err x) same had e h = h

    pub whatever_none : {N : Type 0} (r : Result N Answer) → (seen new).faults ≡ (seen old).faults → (IsTrue ((seen old).lacks file) → ⊥) →
        Loaded → IfErr r (λ a. Says (λ o. ⊥) (FaultyText number v) a) →
        IfErr r (λ a. Whatever seen fits old new (λ x y. AnswersNoNet file x y a))
    whatever_none (Ok net) same had e h = h
    whatever_none (Err a) same had e h =
        λ told is.
        answers_file most_program_bytes (λ bytes o. ⊥) (FaultyText number) (λ o v b s x. x) (faulty_goes number) file
        (holding told (seen old)) (holding told (seen new)) v a same had (e told is) h

-- ---- no report

-- what there is no report for is said, whatever a report would be
pub says_stopped : (R : Output → Type 0) (P : Fault → Type 0) (s : Stop) (a : Answer) → StopsFor P s → IsStopped s a → Says R P a
says_stopped R P s (Prints r) h k = absurd k
says_stopped R P s (Refused r) h (f, e, tells) = (f, subst (λ (x : Stop). StopsFor P x) e h, tells)
says_stopped R P s BadWords h k = k
says_stopped R P s NotRead h k = absurd k
says_stopped R P s NoMemory h k = tt
