-- The promise of the top call is kept: an answer that is right for the words and the files, and is delivered, is what it promises.
use Rattle.std.proofs.Common.{◌≡◌, ◌≢◌, ◌⊎◌, ℕ, ◌≤◌, false, List, length, Option, Some, None, IsTrue, refl, sym, ap, ◌∙◌, subst, inl}
use Rattle.std.proofs.Common.{inr, ⊎_elim, arith}
use Rattle.goi_tasks.specs.declared.fault.Fault.{Fault}
use Rattle.goi_engine.specs.declared.answer.Answer.{Answer}
use Rattle.goi_engine.specs.declared.answer.Answer.TheVariants.{Prints, Refused, BadWords, NotRead, NoMemory}
use Rattle.goi_tasks.specs.declared.fault.Fault.TheVariants.{Program, NetText, Schedule, Moves, Batch}
use Rattle.goi_engine.specs.Answers.{AnswersJob, Answers}
use Rattle.goi_jobs.specs.Jobs.{JobTree, text, replay, list, demo, call, verilog}
use Rattle.goi_jobs.specs.Tasks.{shown}
use Rattle.goi_engine.specs.Writes.{Wrote}
use Rattle.goi_engine.specs.Delivers.{Reported, RefusedAs, Delivered}
use Rattle.function_runs.specs.Laws.{OneFunction}
use Rattle.goi_tasks.specs.Calls.{ReportsCall}
use Rattle.goi_tasks.specs.Outputs.{Output}
use Rattle.goi_tasks.specs.Seen.{output_of}
use Rattle.goi_world.specs.Seen.{FilesKept, FilesState, SinkState}
use Rattle.goi_engine.specs.FilesSeen.{Possibly, OfFile}
use Rattle.goi_engine.specs.Calls.{Call, NoneFailed}
use Rattle.goi_engine.specs.Promise.{WroteLine, Printed, RefusedFault, RefusalLine, of_words, of_read, of_memory}
use Rattle.goi_engine.specs.Promise.{of_fault, Quiet, SureRoom}
use Rattle.goi_engine.specs.Promise.{MeansPrinted, MeansFault, MeansBadWords, MeansNotRead, MeansNotWritten, MeansNoMemory}
use Rattle.goi_engine.specs.Promise.{CompleteReport, CompleteFault, CompleteWords, CompleteLacked, Meanings, Promise}
use Rattle.goi_tasks.specs.Refusals.{most_line, fault_line, fault_status, words_line, read_line, memory_line}
use Rattle.goi_tasks.specs.Replaying.{ReportsReplay}
use Rattle.goi_tasks.specs.Tasks.{ReportsText}
use Rattle.goi_tasks.specs.Verilogs.{ReportsVerilog}
use Rattle.goi_tasks.proofs.Functions.{call_status}
use Rattle.goi_tasks.proofs.Outcomes.{Known, text_status, schedule_status, run_status}
use Rattle.goi_tasks.proofs.Printed.{verilog_status}
use Rattle.goi_batches.specs.Sections.{statuses_of}
use Rattle.goi_batches.proofs.One.{three}
use Rattle.goi_engine.specs.ListsSeen.{OfList, ReportsLines}
use Rattle.program_runs.specs.Programs.{OfGround}
use Rattle.goi_engine.specs.Verdicts.{Reports, CanDo, Faulty, SurelyLacks}
use Rattle.goi_engine.proofs.CallHeadlines.{call_promise}
use Rattle.goi_engine.proofs.CircuitHeadlines.{circuit_promise}
use Rattle.goi_engine.proofs.Coming.{some_bytes}
use Rattle.goi_engine.proofs.Headlines.{run_promise}
use Rattle.goi_engine.proofs.Settled.{one_status, no_fault, no_refusal, same_fault, had_for_report, had_for_refusal, can_has, faulty_has}

-- the files' count of faults stayed
abbrev SameFaults : Call → Type 0
SameFaults c = c.new.faults ≡ c.old.faults

-- what came, by its status
data Outcome (asked : Option JobTree) (c : Call) : ℕ → Type 0 where
  done : MeansPrinted 0 asked c → SameFaults c → Outcome asked c 0
  fault : MeansFault 1 asked c → SameFaults c → Outcome asked c 1
  some_refused : MeansPrinted 1 asked c → SameFaults c → Outcome asked c 1
  bad_words : MeansBadWords asked c → SameFaults c → Outcome asked c 2
  not_read : MeansNotRead asked c → Outcome asked c 3
  not_written : MeansNotWritten asked c → Outcome asked c 4
  no_value : MeansPrinted 5 asked c → SameFaults c → Outcome asked c 5
  no_memory : MeansNoMemory c → SameFaults c → Outcome asked c 6
  file_fault : MeansFault 7 asked c → SameFaults c → Outcome asked c 7

-- a line that stands is short
short_line : (asked : Option JobTree) (c : Call) (line : List ℕ) → RefusalLine asked c line → length line ≤ most_line
short_line asked c _ (of_words e) = omega arith
short_line asked c _ (of_read j e h) = omega arith
short_line asked c _ of_memory = omega arith
short_line asked c _ (of_fault j f line e h is) = is.short

-- sinks that are sure to take what may come don't fail
never_broke : (asked : Option JobTree) (c : Call) → SureRoom asked c → MeansNotWritten asked c → ⊥
never_broke asked c room (inl o) = let fits = room.out o.j o.output o.is_asked o.right in omega (arith, o.out.short, fits)
never_broke asked c room (inr (inl e)) = let fits = short_line asked c e.line e.stands in omega (arith, e.err.short, fits, room.err)
never_broke asked c room (inr (inr n)) = let fits = room.notes n.j n.output n.is_asked n.right in omega (arith, n.err.short, fits)

-- ---- what each status means

module _ (asked : Option JobTree) (c : Call) where
  at_0 : Outcome asked c 0 → MeansPrinted 0 asked c
  at_0 (done m f) = m

  at_1 : Outcome asked c 1 → MeansFault 1 asked c ⊎ MeansPrinted 1 asked c
  at_1 (fault m f) = inl m
  at_1 (some_refused m f) = inr m

  at_2 : Outcome asked c 2 → MeansBadWords asked c
  at_2 (bad_words m f) = m

  at_3 : Outcome asked c 3 → MeansNotRead asked c
  at_3 (not_read m) = m

  at_4 : Outcome asked c 4 → MeansNotWritten asked c
  at_4 (not_written m) = m

  at_5 : Outcome asked c 5 → MeansPrinted 5 asked c
  at_5 (no_value m f) = m

  at_6 : Outcome asked c 6 → MeansNoMemory c
  at_6 (no_memory m f) = m

  at_7 : Outcome asked c 7 → MeansFault 7 asked c
  at_7 (file_fault m f) = m

  quiet_print : (status : ℕ) → MeansPrinted status asked c → Quiet c.out × Quiet c.err
  quiet_print status m = (m.2.out.faults, m.2.err.faults)

  quiet_line : (line : List ℕ) → WroteLine line c → Quiet c.out × Quiet c.err
  quiet_line line w = (ap (λ (s : SinkState). s.faults) w.out.same, w.err.faults)

  -- no sink failed, whatever came but status 4
  quiet_of : (status : ℕ) → Outcome asked c status → status ≢ 4 → Quiet c.out × Quiet c.err
  quiet_of _ (done m f) other = quiet_print 0 m
  quiet_of _ (fault m f) other = quiet_line m.2.line m.2.wrote
  quiet_of _ (some_refused m f) other = quiet_print 1 m
  quiet_of _ (bad_words m f) other = quiet_line words_line m.1
  quiet_of _ (not_read m) other = quiet_line read_line m.3
  quiet_of _ (not_written m) other = absurd (other refl)
  quiet_of _ (no_value m f) other = quiet_print 5 m
  quiet_of _ (no_memory m f) other = quiet_line memory_line m
  quiet_of _ (file_fault m f) other = quiet_line m.2.line m.2.wrote

  -- no read failed, whatever came but status 3 and 4
  read_of : (status : ℕ) → Outcome asked c status → status ≢ 3 → status ≢ 4 → SameFaults c
  read_of _ (done m f) read written = f
  read_of _ (fault m f) read written = f
  read_of _ (some_refused m f) read written = f
  read_of _ (bad_words m f) read written = f
  read_of _ (not_read m) read written = absurd (read refl)
  read_of _ (not_written m) read written = absurd (written refl)
  read_of _ (no_value m f) read written = f
  read_of _ (no_memory m f) read written = f
  read_of _ (file_fault m f) read written = f

  abbrev OneOfEight : ℕ → Type 0
  OneOfEight status =
      (status ≡ 0) ⊎ (status ≡ 1) ⊎ (status ≡ 2) ⊎ (status ≡ 3) ⊎ (status ≡ 4) ⊎ (status ≡ 5) ⊎ (status ≡ 6) ⊎ (status ≡ 7)

  status_of : (status : ℕ) → Outcome asked c status → OneOfEight status
  status_of _ (done m f) = inl refl
  status_of _ (fault m f) = inr (inl refl)
  status_of _ (some_refused m f) = inr (inl refl)
  status_of _ (bad_words m f) = inr (inr (inl refl))
  status_of _ (not_read m) = inr (inr (inr (inl refl)))
  status_of _ (not_written m) = inr (inr (inr (inr (inl refl))))
  status_of _ (no_value m f) = inr (inr (inr (inr (inr (inl refl)))))
  status_of _ (no_memory m f) = inr (inr (inr (inr (inr (inr (inl refl))))))
  status_of _ (file_fault m f) = inr (inr (inr (inr (inr (inr (inr refl))))))

  -- so all of the promise is kept but what it says where nothing fails
  promised : FilesKept c.old c.new → (status : ℕ) → Outcome asked c status → CompleteReport asked c status → CompleteFault asked c status →
      CompleteWords asked c status → CompleteLacked asked c status → Promise asked c status
  promised files status came reports refuses refuses_words refuses_lacked =
      let At : ℕ → Type 0 = λ k. Outcome asked c k in
      let means : Meanings asked c status = record {
        done = λ e. at_0 (subst At e came);
        fault = λ e. at_1 (subst At e came);
        bad_words = λ e. at_2 (subst At e came);
        not_read = λ e. at_3 (subst At e came);
        not_written = λ e. at_4 (subst At e came);
        no_value = λ e. at_5 (subst At e came);
        no_memory = λ e. at_6 (subst At e came);
        file_fault = λ e. at_7 (subst At e came);
        statuses = status_of status came;
      } in
      record {
        run = run_promise asked c status means;
        call = call_promise asked c status means;
        circuit = circuit_promise asked c status means;
        means = means;
        files = files;
        quiet = quiet_of status came;
        read = read_of status came;
        sure = λ room e. never_broke asked c room (at_4 (subst At e came));
        reports = reports;
        refuses = refuses;
        refuses_words = refuses_words;
        refuses_lacked = refuses_lacked;
      }

-- ---- what came of an answer that was delivered

module _ (asked : Option JobTree) (c : Call) where
  abbrev Came : ℕ → Type 0
  Came status = Outcome asked c status

  -- a refusal that is delivered is that refusal, or `err` failed
  refusal : (own : ℕ) (line : List ℕ) (status : ℕ) → RefusalLine asked c line → (WroteLine line c → Came own) →
      RefusedAs own line c.out c.err status → Came status
  refusal own line status stands came (u, inl (e, w)) = subst Came (sym e) (came (record { out = u; err = w }))
  refusal own line status stands came (u, inr (e, b)) =
      subst Came (sym e) (not_written (inr (inl (record { line = line; stands = stands; out = u; err = b }))))

  -- an output that was written ends with its own status
  ended : (own : ℕ) → (own ≡ 0) ⊎ (own ≡ 1) ⊎ (own ≡ 5) → MeansPrinted own asked c → SameFaults c → Came own
  ended own (inl e) m f = subst Came (sym e) (done (subst (λ (o : ℕ). MeansPrinted o asked c) e m) f)
  ended own (inr (inl e)) m f = subst Came (sym e) (some_refused (subst (λ (o : ℕ). MeansPrinted o asked c) e m) f)
  ended own (inr (inr e)) m f = subst Came (sym e) (no_value (subst (λ (o : ℕ). MeansPrinted o asked c) e m) f)

  -- an output that is delivered is that output, or a sink failed
  reported : (j : JobTree) → asked ≡ Some j → (o : Output) → Reports j c.old o → (status : ℕ) →
      (Wrote o.report c.out → Wrote o.notes c.err → Came o.status) → Reported o c.out c.err status → Came status
  reported j is o right status came (inl (e, w, n)) = subst Came (sym e) (came w n)
  reported j is o right status came (inr (inl (e, b, r))) =
      subst Came (sym e) (not_written (inl (record { j = j; is_asked = is; output = o; right = right; out = b; err = r })))
  reported j is o right status came (inr (inr (e, w, b))) =
      subst Came (sym e) (not_written (inr (inr (record { j = j; is_asked = is; output = o; right = right; out = w; err = b }))))

abbrev OneOfTwo : ℕ → Type 0
OneOfTwo status = (status ≡ 0) ⊎ (status ≡ 5)

abbrev OneOfThree : ℕ → Type 0
OneOfThree status = (status ≡ 0) ⊎ (status ≡ 1) ⊎ (status ≡ 5)

two_of_three : (status : ℕ) → OneOfTwo status → OneOfThree status
two_of_three status (inl e) = inl e
two_of_three status (inr e) = inr (inr e)

-- an output ends with one of three statuses: one of a program or a schedule with 0 or 5, and one of a list with 1 too
three_statuses : (j : JobTree) (files : FilesState) (o : Output) → Reports j files o → OneOfThree o.status
three_statuses (text file workers task) files o h =
    two_of_three o.status
    (some_bytes (files.told file) (λ b. ReportsText workers task b o) (OneOfTwo o.status) (λ b x. text_status workers task b o x) h.1)
three_statuses (replay file moves window) files o h =
    let OfMoves : List ℕ → Type 0 = λ b. OfGround b (λ t. OfFile files moves (λ schedule. ReportsReplay t window schedule o)) in
    two_of_three o.status (
    some_bytes (files.told file) OfMoves (OneOfTwo o.status)
    (λ b x. some_bytes (files.told moves) (λ schedule. ReportsReplay x.0 window schedule o) (OneOfTwo o.status)
    (λ schedule y. schedule_status x.0 window schedule o y)
    x.2.1)
    h.1
    )
three_statuses (list file workers) files o h =
    some_bytes (files.told file) (λ b. OfList b (λ ls. ReportsLines files workers ls o)) (OneOfThree o.status)
    (λ b x.
    let r = x.2 in
    subst OneOfThree (sym (ap (λ (y : Output). y.status) r.output_is)) (three (statuses_of r.sections))) h.1
three_statuses (demo n workers) files o h = two_of_three o.status (run_status h.answer o.status h.ends)
three_statuses (call file numbers workers budget schedule tally) files o h =
    two_of_three o.status
    (some_bytes (files.told file) (λ b. ReportsCall workers budget (shown schedule tally false) numbers b o) (OneOfTwo o.status)
    (λ b x. call_status workers budget (shown schedule tally false) numbers b o x) h.1)
three_statuses (verilog file name v) files o h =
    two_of_three o.status
    (some_bytes (files.told file) (λ b. ReportsVerilog name v b o) (OneOfTwo o.status) (λ b x. verilog_status name v b o x) h.1)

-- a fault ends with its status
fault_outcome : (j : JobTree) (c : Call) (f : Fault) → MeansFault (fault_status f) (Some j) c → SameFaults c →
    Outcome (Some j) c (fault_status f)
fault_outcome j c (Program f) m h = fault m h
fault_outcome j c (NetText f) m h = file_fault m h
fault_outcome j c (Schedule f) m h = file_fault m h
fault_outcome j c (Moves f) m h = file_fault m h
fault_outcome j c (Batch f) m h = file_fault m h

-- a right answer to a job has come to one of the outcomes, once it is delivered
outcome_job : (j : JobTree) (c : Call) (a : Answer) (status : ℕ) → AnswersJob j c.old c.new a → Delivered a c.out c.err status →
    Outcome (Some j) c status
outcome_job j c (Prints r) status (h, right) delivered =
    let o = output_of r in
    reported (Some j) c j refl o right status
    (λ w n.
    let printed : Printed r.status j c = record { output = o; right = right; of_status = refl; out = w; err = n } in
    ended (Some j) c r.status (three_statuses j c.old o right) (j, refl, printed) h) delivered
outcome_job j c (Refused r) status (h, (f, right, tells)) delivered =
    let line = r.line.items in
    refusal (Some j) c r.status line status (of_fault j f line refl right tells.line)
    (λ w.
    let refused : RefusedFault (fault_status f) j c =
    record { fault = f; right = right; of_status = refl; line = line; is_line = tells.line; wrote = w } in
    subst (λ (s : ℕ). Outcome (Some j) c s) (sym tells.status) (fault_outcome j c f (j, refl, refused) h)) delivered
outcome_job j c BadWords status h delivered = absurd h
outcome_job j c NotRead status h delivered =
    refusal (Some j) c 3 read_line status (of_read j refl h) (λ w. not_read (j, refl, h, w)) delivered
outcome_job j c NoMemory status h delivered = refusal (Some j) c 6 memory_line status of_memory (λ w. no_memory w h) delivered

-- and so has a right answer to words
outcome : (asked : Option JobTree) (c : Call) (a : Answer) (status : ℕ) → Answers asked c.old c.new a → Delivered a c.out c.err status →
    Outcome asked c status
outcome (Some j) c a status h delivered = outcome_job j c a status h delivered
outcome None c (Prints r) status h delivered = elim h [ ]
outcome None c (Refused line) status h delivered = elim h [ ]
outcome None c BadWords status h delivered = refusal None c 2 words_line status (of_words refl) (λ w. bad_words (refl, w) h) delivered
outcome None c NotRead status h delivered = elim h [ ]
outcome None c NoMemory status h delivered = refusal None c 6 memory_line status of_memory (λ w. no_memory w h) delivered

-- ---- where nothing fails

-- a delivery that no sink spoils
module _ (c : Call) (fine : NoneFailed c) where
  refused_well : (own : ℕ) (line : List ℕ) (status : ℕ) → RefusedAs own line c.out c.err status → (status ≡ own) × WroteLine line c
  refused_well own line status (u, inl (e, w)) = (e, record { out = u; err = w })
  refused_well own line status (u, inr (e, b)) = absurd (fine.err b.rose)

  reported_well : (o : Output) (status : ℕ) → Reported o c.out c.err status → status ≡ o.status
  reported_well o status (inl (e, w, n)) = e
  reported_well o status (inr (inl (e, b, r))) = absurd (fine.out b.rose)
  reported_well o status (inr (inr (e, w, b))) = absurd (fine.err b.rose)

  no_memory_well : (status : ℕ) → RefusedAs 6 memory_line c.out c.err status → status ≡ 6
  no_memory_well status h = (refused_well 6 memory_line status h).0

-- what is lacked isn't told
abbrev pub LackedUntold : FilesState → Type 0
LackedUntold files = (name : List ℕ) → IsTrue (files.lacks name) → files.told name ≡ None

-- Below, a job is answered, and no device failed.
module _ (known : Known) (one : OneFunction) (j : JobTree) (c : Call) (untold : LackedUntold c.old) (fine : NoneFailed c) (status : ℕ) where
  -- what it can be done with comes to its report
  report_comes : (a : Answer) → AnswersJob j c.old c.new a → Delivered a c.out c.err status → (own : ℕ) → CanDo j c.old own →
      (status ≡ own) ⊎ (status ≡ 6)
  report_comes (Prints r) h delivered own can =
      inl (reported_well c fine (output_of r) status delivered ∙ one_status known one c.old j (output_of r) own h.1 can)
  report_comes (Refused r) (h, (f, right, tells)) delivered own can = absurd (no_refusal known one c.old j f own right can)
  report_comes BadWords h delivered own can = absurd h
  report_comes NotRead h delivered own can = absurd (⊎_elim (λ l. can_has known one c.old untold j own l can) fine.files h.1.cause)
  report_comes NoMemory h delivered own can = inr (no_memory_well c fine status delivered)

  -- what has a fault comes to the line of that fault
  refusal_comes : (a : Answer) → AnswersJob j c.old c.new a → Delivered a c.out c.err status → (f : Fault) → Faulty j c.old f →
      ((status ≡ fault_status f) × WroteLine (fault_line f) c) ⊎ (status ≡ 6)
  refusal_comes (Prints r) h delivered f k = absurd (no_fault known one c.old j (output_of r) f h.1 k)
  refusal_comes (Refused r) (h, (g, right, tells)) delivered f k =
      let same : g ≡ f = same_fault known one c.old j g f right k in
      let w = refused_well c fine r.status r.line.items status delivered in
      inl (w.0 ∙ tells.status ∙ ap fault_status same, subst (λ (l : List ℕ). WroteLine l c) (tells.line.same ∙ ap fault_line same) w.1)
  refusal_comes BadWords h delivered f k = absurd h
  refusal_comes NotRead h delivered f k = absurd (⊎_elim (λ l. faulty_has known one c.old untold j f l k) fine.files h.1.cause)
  refusal_comes NoMemory h delivered f k = inr (no_memory_well c fine status delivered)

  -- a file that is lacked comes to a refusal
  lacked_comes : (a : Answer) → AnswersJob j c.old c.new a → Delivered a c.out c.err status → SurelyLacks j c.old →
      (status ≡ 3) ⊎ (status ≡ 6)
  lacked_comes (Prints r) h delivered l = absurd (had_for_report known one c.old j (output_of r) h.1 l)
  lacked_comes (Refused r) (h, (f, right, tells)) delivered l = absurd (had_for_refusal known one c.old j f right l)
  lacked_comes BadWords h delivered l = absurd h
  lacked_comes NotRead h delivered l = inl (refused_well c fine 3 read_line status delivered).0
  lacked_comes NoMemory h delivered l = inr (no_memory_well c fine status delivered)

-- words that ask for nothing come to their refusal
words_come : (c : Call) (a : Answer) (status : ℕ) → Answers None c.old c.new a → Delivered a c.out c.err status → NoneFailed c →
    (status ≡ 2) ⊎ (status ≡ 6)
words_come c (Prints r) status h delivered fine = elim h [ ]
words_come c (Refused line) status h delivered fine = elim h [ ]
words_come c BadWords status h delivered fine = inl (refused_well c fine 2 words_line status delivered).0
words_come c NotRead status h delivered fine = elim h [ ]
words_come c NoMemory status h delivered fine = inr (no_memory_well c fine status delivered)

-- ---- the promise

module _ (known : Known) (one : OneFunction) (c : Call) (a : Answer) where
  abbrev Of : Option JobTree → Type 0
  Of asked = Answers asked c.old c.new a

  -- a right answer that is delivered keeps the promise; two jobs of the same words are one
  pub kept : (asked : Option JobTree) (status : ℕ) → FilesKept c.old c.new → LackedUntold c.old → Of asked →
      Delivered a c.out c.err status → Promise asked c status
  kept asked status files untold h delivered =
      promised asked c files status (outcome asked c a status h delivered)
      (λ j own e can fine. report_comes known one j c untold fine status a (subst Of e h) delivered own can)
      (λ j f e faulty fine. refusal_comes known one j c untold fine status a (subst Of e h) delivered f faulty)
      (λ e fine. words_come c a status (subst Of e h) delivered fine)
      (λ j e l fine. lacked_comes known one j c untold fine status a (subst Of e h) delivered l)
