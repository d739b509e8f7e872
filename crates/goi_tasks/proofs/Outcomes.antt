-- What comes of a text is settled by its bytes: it is one program or has one fault, and a task ends on it with one status; and so it is
-- with a schedule.
use Rattle.std.proofs.Common.{◌≡◌, ◌≢◌, ◌⊎◌, ℕ, List, length, Option, Some, None, Result, Ok, Err, refl, sym, ap, ◌∙◌}
use Rattle.std.proofs.Common.{Bool, subst, inl, inr, arith}
use Rattle.pcf_values.specs.declared.val.Val.{Val}
use Rattle.pcf_values.specs.Terms.{TyTree, TermTree, nat}
use Rattle.pcf_values.specs.Named.{NamedTree}
use Rattle.cbn_meaning.specs.Meaning.{Means}
use Rattle.net_text.specs.declared.fault.NetTextFault.{NetTextFault}
use Rattle.net_text.specs.Accepted.{ListsProgram}
use Rattle.net_text.specs.Laws.{OneAnswer as OneListing}
use Rattle.net_text.proofs.OneAnswers.{same_program as same_listed}
use Rattle.batch_lists.specs.Laws.{OneList}
use Rattle.net_build.specs.Nets.{NetTree}
use Rattle.net_build.specs.NetOf.{net_of}
use Rattle.interleave_laws.specs.Maps.{MapState, LeadsToMap}
use Rattle.adequacy_laws.specs.Finished.{Within, Beyond}
use Rattle.round_laws.specs.Rounds.{round_log}
use Rattle.goi_jobs.specs.declared.window.Window.{Window}
use Rattle.schedule_log.specs.declared.fault.ScheduleFault.{ScheduleFault}
use Rattle.schedule_log.specs.declared.fault.ScheduleFault.TheVariants as schedule
use Rattle.schedule_log.specs.Laws.{OneAnswer}
use Rattle.schedule_log.specs.Schedules.{IsSchedule, ReadAs}
use Rattle.replay_check.specs.declared.fault.ReplayFault.{ReplayFault}
use Rattle.replay_check.specs.declared.fault.ReplayFault.TheVariants as replay
use Rattle.replay_check.specs.declared.replayed.Replayed.{Replayed}
use Rattle.replay_check.specs.Laws.{OneReplay}
use Rattle.replay_check.specs.Replays.{ReplaysAs}
use Rattle.pcf_reader.proofs.Splitting.{one_text}
use Rattle.step_text.specs.Courses.{course_value}
use Rattle.program_runs.specs.Laws.{OneProgram}
use Rattle.program_runs.specs.Programs.{Wanted, any_type, number, wanted_by_run, IsProgram, OfProgram, IsGround}
use Rattle.program_runs.specs.Runs.{Tells, meaning, net_run}
use Rattle.program_runs.proofs.OneProgram.{same_program}
use Rattle.function_runs.specs.Laws.{OneFunction}
use Rattle.goi_tasks.specs.declared.fault.Fault.{Fault}
use Rattle.goi_tasks.specs.declared.fault.Fault.TheVariants.{Program, NetText, Schedule, Moves}
use Rattle.goi_jobs.specs.declared.shown.Shown.{Shown}
use Rattle.goi_jobs.specs.declared.task.Task.{Task}
use Rattle.goi_jobs.specs.declared.task.Task.TheVariants.{Run, Check, ShowNet, RunNet, Trace, Span, Steps}
use Rattle.goi_tasks.specs.NetFiles.{FaultyListing, unlisted}
use Rattle.goi_tasks.specs.Outputs.{Output}
use Rattle.goi_tasks.specs.Programs.{no_program, FaultyText}
use Rattle.goi_tasks.specs.Replaying.{replay_status, ReportsReplay, EndsReplay, FaultySchedule, unread as no_schedule, unmoved}
use Rattle.goi_tasks.specs.Reductions.{reduction}
use Rattle.goi_tasks.specs.Rounds.{TellsSpan, ReportsRounds}
use Rattle.goi_tasks.specs.RunReports.{ReportsNet, ReportsWalk, EndsRun}
use Rattle.goi_tasks.specs.Tasks.{ReportsText, FaultyFor, EndsText}

-- ---- the laws of the crates below that settle it

pub record Known : Type 0 where
  pub one_program : OneProgram
  pub one_listing : OneListing
  pub one_answer : OneAnswer
  pub one_replay : OneReplay
  pub one_list : OneList
  pub one_function : OneFunction

-- ---- a run or a listing ends with one status

not_both_ends : (budget : ℕ) (net : NetTree) → ((value : Val) × Within net budget value) → Beyond net budget → ⊥
not_both_ends budget net (v, (n, long, within)) beyond = let k = beyond v n long in omega (arith, k, within)

pub one_run_end : (budget : ℕ) (net : NetTree) (a b : ℕ) → EndsRun budget net a → EndsRun budget net b → a ≡ b
one_run_end budget net a b (inl (e, w)) (inl (f, x)) = e ∙ sym f
one_run_end budget net a b (inl (e, w)) (inr (f, x)) = absurd (not_both_ends budget net w x)
one_run_end budget net a b (inr (e, w)) (inl (f, x)) = absurd (not_both_ends budget net x w)
one_run_end budget net a b (inr (e, w)) (inr (f, x)) = e ∙ sym f

pub run_ends : (means : Val → Type 0) (net : NetTree) (budget : ℕ) (answer : Option Val) (moves status : ℕ) →
    status ≡ replay_status answer →
    Tells means net budget answer moves → EndsRun budget net status
run_ends means net budget None moves status e (beyond, spent) = inr (e, beyond)
run_ends means net budget (Some v) moves status e (m, long, within) = inl (e, (v, (moves, long, within)))

-- a status is one of these two
pub run_status : (answer : Option Val) (status : ℕ) → status ≡ replay_status answer → (status ≡ 0) ⊎ (status ≡ 5)
run_status (Some v) status e = inl e
run_status None status e = inr e

-- the output of a run ends as the net's runs do, and so does that of one whose walk is told
report_ends : (means : Val → Type 0) (net : NetTree) (workers budget : ℕ) (shown : Shown) (o : Output) →
    ReportsNet means net workers budget shown o → EndsRun budget net o.status
report_ends means net workers budget shown o h =
    run_ends means net budget h.answer (length h.log) o.status h.ends h.run.tells

walk_ends : (means : Val → Type 0) (net : NetTree) (workers budget : ℕ) (window : Window) (o : Output) →
    ReportsWalk means net workers budget window o → EndsRun budget net o.status
walk_ends means net workers budget window o h = run_ends means net budget h.answer (length h.log) o.status h.ends h.run.tells

-- and so does that of a run in rounds
rounds_end : (means : Val → Type 0) (net : NetTree) (budget : ℕ) (profile schedule : Bool) (o : Output) →
    ReportsRounds means net budget profile schedule o → EndsRun budget net o.status
rounds_end means net budget profile schedule o h = go h.answer h.ends h.tells
  where
    go : (answer : Option Val) → o.status ≡ replay_status answer → TellsSpan means net budget answer h.rounds → EndsRun budget net o.status
    go None e t = inr (e, t.0)
    go (Some v) e t = inl (e, (v, (length (round_log net h.rounds), t.2, t.3)))

-- each output ends with 0 or with 5
pub text_status : (workers : ℕ) (task : Task) (bytes : List ℕ) (o : Output) → ReportsText workers task bytes o →
    (o.status ≡ 0) ⊎ (o.status ≡ 5)
text_status workers (Run budget calling shown) bytes o h = run_status h.so.answer o.status h.so.ends
text_status workers (Check term) bytes o h = inl (ap (λ (x : Output). x.status) h.so)
text_status workers ShowNet bytes o h = inl (ap (λ (x : Output). x.status) h.so)
text_status workers (Span budget calling profile schedule) bytes o h = run_status h.so.answer o.status h.so.ends
text_status workers (Steps budget window) bytes o h =
    run_status (course_value (reduction budget window h.tree)) o.status (ap (λ (x : Output). x.status) h.so.output_is)
text_status workers (RunNet budget shown) bytes o h = run_status h.so.answer o.status h.so.ends
text_status workers (Trace budget calling window) bytes o h = run_status h.so.answer o.status h.so.ends

pub schedule_status : (t : TermTree) (window : Option Window) (text : List ℕ) (o : Output) → ReportsReplay t window text o →
    (o.status ≡ 0) ⊎ (o.status ≡ 5)
schedule_status t window text o h = run_status h.state.answered o.status (ap (λ (x : Output). x.status) h.output_is)

-- ---- what the code answers says it

abbrev tickets_or : List ℕ → Result (List ℕ) ScheduleFault → List ℕ
tickets_or d (Ok ts) = ts
tickets_or d (Err f) = d

abbrev schedule_fault_or : ScheduleFault → Result (List ℕ) ScheduleFault → ScheduleFault
schedule_fault_or d (Ok ts) = d
schedule_fault_or d (Err f) = f

abbrev replay_fault_or : ReplayFault → Result Replayed ReplayFault → ReplayFault
replay_fault_or d (Ok r) = d
replay_fault_or d (Err f) = f

abbrev listing_fault_or : NetTextFault → Result (TermTree × TyTree) NetTextFault → NetTextFault
listing_fault_or d (Ok p) = d
listing_fault_or d (Err f) = f

no_listing : (r s : Result (TermTree × TyTree) NetTextFault) (p : TermTree × TyTree) (f : NetTextFault) → r ≡ Ok p → s ≡ Err f → r ≡ s → ⊥
no_listing r s p f d e h = cc

ok_or_err : (a : List ℕ) (f : ScheduleFault) → Ok a ≡ Err f → ⊥
ok_or_err a f e = cc

err_or_ok : (f : ReplayFault) (r : Replayed) → Err f ≡ Ok r → ⊥
err_or_ok f r e = cc

abbrev state_or : MapState → Option MapState → MapState
state_or d None = d
state_or d (Some s) = s

module _ (one : OneProgram) where
  -- ---- a text is one program, and then it has no fault

  pub text_sound : (wanted : Wanted) (bytes : List ℕ) (tree : NamedTree) (t : TermTree) (A : TyTree) (f : Fault) →
      IsProgram wanted bytes tree t A → FaultyText wanted bytes f → ⊥
  text_sound wanted bytes tree t A _ h (no_program f k) = one.not_both wanted bytes tree t A f h k

  pub ground_sound : (bytes : List ℕ) (t : TermTree) (f : Fault) → IsGround bytes t → FaultyText number bytes f → ⊥
  ground_sound bytes t f (tree, h) k = text_sound number bytes tree t nat f h k

module _ (known : Known) where
  -- ---- a text has one fault

  pub one_text_fault : (wanted : Wanted) (bytes : List ℕ) (f g : Fault) → FaultyText wanted bytes f → FaultyText wanted bytes g → f ≡ g
  one_text_fault wanted bytes _ _ (no_program f h) (no_program g k) = ap Program (known.one_program.one_fault wanted bytes f g h k)

  -- ---- a listing is that of one program, or has one fault

  listing_sound : (bytes : List ℕ) (t : TermTree) (f : Fault) → ListsProgram bytes t → FaultyListing bytes f → ⊥
  listing_sound bytes t _ h (unlisted f n k) =
      no_listing (Ok (t, nat)) (Err f) (t, nat) f refl refl
      (known.one_listing bytes (Ok (t, nat)) (Err f) (h, refl) k (λ e. cc) (λ e. n (ap (listing_fault_or f) e)))

  one_listing_fault : (bytes : List ℕ) (f g : Fault) → FaultyListing bytes f → FaultyListing bytes g → f ≡ g
  one_listing_fault bytes _ _ (unlisted f n h) (unlisted g m k) =
      ap NetText (ap (listing_fault_or f)
      (known.one_listing bytes (Err f) (Err g) h k (λ e. n (ap (listing_fault_or f) e)) (λ e. m (ap (listing_fault_or g) e))))

  -- ---- a task has one status on a text or one fault

  -- a run by name of a text's program, with this answer, ends with the status with which the program's runs do
  pub program_end : (budget : ℕ) (bytes : List ℕ) (P : NamedTree → TermTree → TyTree → Type 0) (answer : Option Val) →
      (moves status own : ℕ) → (h : OfProgram number bytes P) → status ≡ replay_status answer →
      Tells (Means h.term) (net_of h.term) budget answer moves → OfProgram number bytes (λ tree t A. EndsRun budget (net_of t) own) →
      status ≡ own
  program_end budget bytes P answer moves status own h ends tells k =
      let e : h.term ≡ k.term = same_program known.one_program number bytes _ _ h k in
      one_run_end budget (net_of k.term) status own
      (subst (λ (t : TermTree). EndsRun budget (net_of t) status) e
      (run_ends (Means h.term) (net_of h.term) budget answer moves status ends tells)) k.so

  -- the output for a text ends with the status with which the task does
  pub text_end : (workers : ℕ) (task : Task) (bytes : List ℕ) (o : Output) (own : ℕ) → ReportsText workers task bytes o →
      EndsText task bytes own → o.status ≡ own
  text_end workers (Run budget calling shown) bytes o own h k =
      let e : h.term ≡ k.term = same_program known.one_program (wanted_by_run calling) bytes _ _ h k in
      one_run_end budget (net_run calling k.term) o.status own
      (subst (λ (t : TermTree). EndsRun budget (net_run calling t) o.status) e
      (report_ends (meaning calling h.term) (net_run calling h.term) workers budget shown o h.so)) k.so
  text_end workers (Check term) bytes o own h k = ap (λ (x : Output). x.status) h.so ∙ sym k.so
  text_end workers ShowNet bytes o own h k = ap (λ (x : Output). x.status) h.so ∙ sym k.so
  text_end workers (Span budget calling profile schedule) bytes o own h k =
      let e : h.term ≡ k.term = same_program known.one_program (wanted_by_run calling) bytes _ _ h k in
      one_run_end budget (net_run calling k.term) o.status own
      (subst (λ (t : TermTree). EndsRun budget (net_run calling t) o.status) e
      (rounds_end (meaning calling h.term) (net_run calling h.term) budget profile schedule o h.so)) k.so
  text_end workers (Steps budget window) bytes o own h k =
      let e : h.tree ≡ k.tree = one_text bytes h.tree k.tree h.is.text k.is.text in
      ap (λ (x : Output). x.status) h.so.output_is
      ∙ ap (λ (tree : NamedTree). replay_status (course_value (reduction budget window tree))) e ∙ sym k.so
  text_end workers (RunNet budget shown) bytes o own h k =
      let e : h.term ≡ k.term = same_listed bytes h.term k.term h.lists k.lists in
      one_run_end budget (net_of k.term) o.status own
      (subst (λ (t : TermTree). EndsRun budget (net_of t) o.status) e
      (report_ends (Means h.term) (net_of h.term) workers budget shown o h.so)) k.so
  text_end workers (Trace budget calling window) bytes o own h k =
      let e : h.term ≡ k.term = same_program known.one_program (wanted_by_run calling) bytes _ _ h k in
      one_run_end budget (net_run calling k.term) o.status own
      (subst (λ (t : TermTree). EndsRun budget (net_run calling t) o.status) e
      (walk_ends (meaning calling h.term) (net_run calling h.term) workers budget window o h.so)) k.so

  -- what has an output has no fault
  pub report_sound : (workers : ℕ) (task : Task) (bytes : List ℕ) (o : Output) (f : Fault) → ReportsText workers task bytes o →
      FaultyFor task bytes f → ⊥
  report_sound workers (Run budget calling shown) bytes o f h k =
      text_sound known.one_program (wanted_by_run calling) bytes h.tree h.term h.type f h.is k
  report_sound workers (Check term) bytes o f h k = text_sound known.one_program any_type bytes h.tree h.term h.type f h.is k
  report_sound workers ShowNet bytes o f h k = text_sound known.one_program number bytes h.tree h.term h.type f h.is k
  report_sound workers (Span budget calling profile schedule) bytes o f h k =
      text_sound known.one_program (wanted_by_run calling) bytes h.tree h.term h.type f h.is k
  report_sound workers (Steps budget window) bytes o f h k = text_sound known.one_program number bytes h.tree h.term h.type f h.is k
  report_sound workers (RunNet budget shown) bytes o f h k = listing_sound bytes h.term f h.lists k
  report_sound workers (Trace budget calling window) bytes o f h k =
      text_sound known.one_program (wanted_by_run calling) bytes h.tree h.term h.type f h.is k

  -- nor has what the task ends on
  pub end_sound : (task : Task) (bytes : List ℕ) (own : ℕ) (f : Fault) → EndsText task bytes own → FaultyFor task bytes f → ⊥
  end_sound (Run budget calling shown) bytes own f h k =
      text_sound known.one_program (wanted_by_run calling) bytes h.tree h.term h.type f h.is k
  end_sound (Check term) bytes own f h k = text_sound known.one_program any_type bytes h.tree h.term h.type f h.is k
  end_sound ShowNet bytes own f h k = text_sound known.one_program number bytes h.tree h.term h.type f h.is k
  end_sound (Span budget calling profile schedule) bytes own f h k =
      text_sound known.one_program (wanted_by_run calling) bytes h.tree h.term h.type f h.is k
  end_sound (Steps budget window) bytes own f h k = text_sound known.one_program number bytes h.tree h.term h.type f h.is k
  end_sound (RunNet budget shown) bytes own f h k = listing_sound bytes h.term f h.lists k
  end_sound (Trace budget calling window) bytes own f h k =
      text_sound known.one_program (wanted_by_run calling) bytes h.tree h.term h.type f h.is k

  -- two faults are one
  pub one_fault_for : (task : Task) (bytes : List ℕ) (f g : Fault) → FaultyFor task bytes f → FaultyFor task bytes g → f ≡ g
  one_fault_for (Run budget calling shown) bytes f g h k = one_text_fault (wanted_by_run calling) bytes f g h k
  one_fault_for (Check term) bytes f g h k = one_text_fault any_type bytes f g h k
  one_fault_for ShowNet bytes f g h k = one_text_fault number bytes f g h k
  one_fault_for (Span budget calling profile schedule) bytes f g h k = one_text_fault (wanted_by_run calling) bytes f g h k
  one_fault_for (Steps budget window) bytes f g h k = one_text_fault number bytes f g h k
  one_fault_for (RunNet budget shown) bytes f g h k = one_listing_fault bytes f g h k
  one_fault_for (Trace budget calling window) bytes f g h k = one_text_fault (wanted_by_run calling) bytes f g h k

  -- ---- a text is one schedule, or has one fault, and so it is with its moves

  same_tickets : (text a b : List ℕ) → IsSchedule text a → IsSchedule text b → a ≡ b
  same_tickets text a b h k = ap (tickets_or a) (known.one_answer text (Ok a) (Ok b) (λ e. cc) (λ e. cc) h k)

  not_schedule : (text a : List ℕ) (f : ScheduleFault) → IsSchedule text a → f ≢ schedule.NoMemory → ReadAs text (Err f) → ⊥
  not_schedule text a f h n k = ok_or_err a f (known.one_answer text (Ok a) (Err f) (λ e. cc) (λ e. n (ap (schedule_fault_or f) e)) h k)

  same_state : (net : NetTree) (a b : List ℕ) (S T : MapState) → a ≡ b → LeadsToMap net a S → LeadsToMap net b T → S ≡ T
  same_state net a b S T e h k = ap (state_or S) (sym (subst (λ (l : List ℕ). LeadsToMap net l S) e h) ∙ k)

  no_replay : (net : NetTree) (f : ReplayFault) (tickets : List ℕ) (S : MapState) → LeadsToMap net tickets S → f ≢ replay.NoMemory →
      ReplaysAs net tickets (Err f) → ⊥
  no_replay net f tickets S h n k =
      let r : Replayed = record { answer = S.answered; moves = length tickets } in
      let run : ReplaysAs net tickets (Ok r) = record { state = S; led = h; answer = refl; moves = refl } in
      err_or_ok f r (known.one_replay net tickets (Err f) (Ok r) (λ e. n (ap (replay_fault_or f) e)) (λ e. cc) k run)

  pub schedule_sound : (t : TermTree) (text : List ℕ) (f : Fault) (tickets : List ℕ) (S : MapState) → IsSchedule text tickets →
      LeadsToMap (net_of t) tickets S → FaultySchedule t text f → ⊥
  schedule_sound t text _ tickets S s h (no_schedule f n k) = not_schedule text tickets f s n k
  schedule_sound t text _ tickets S s h (unmoved f ts n r k) =
      no_replay (net_of t) f tickets S h n (subst (λ (l : List ℕ). ReplaysAs (net_of t) l (Err f)) (same_tickets text ts tickets r s) k)

  pub one_schedule_fault : (t : TermTree) (text : List ℕ) (f g : Fault) → FaultySchedule t text f → FaultySchedule t text g → f ≡ g
  one_schedule_fault t text _ _ (no_schedule f n h) (no_schedule g m k) =
      ap Schedule (ap (schedule_fault_or f)
      (known.one_answer text (Err f) (Err g) (λ e. n (ap (schedule_fault_or f) e)) (λ e. m (ap (schedule_fault_or g) e)) h k))
  one_schedule_fault t text _ _ (no_schedule f n h) (unmoved g ts m s k) = absurd (not_schedule text ts f s n h)
  one_schedule_fault t text _ _ (unmoved f ts n s h) (no_schedule g m k) = absurd (not_schedule text ts g s m k)
  one_schedule_fault t text _ _ (unmoved f ts n s h) (unmoved g us m r k) =
      let e : us ≡ ts = same_tickets text us ts r s in
      ap Moves (ap (replay_fault_or f)
      (known.one_replay (net_of t) ts (Err f) (Err g) (λ e. n (ap (replay_fault_or f) e)) (λ e. m (ap (replay_fault_or g) e)) h
      (subst (λ (l : List ℕ). ReplaysAs (net_of t) l (Err g)) e k)))

  pub replay_end : (t : TermTree) (window : Option Window) (text : List ℕ) (o : Output) (own : ℕ) → ReportsReplay t window text o →
      EndsReplay t text own → o.status ≡ own
  replay_end t window text o own h k =
      let e = same_tickets text h.tickets k.tickets h.schedule k.schedule in
      ap (λ (x : Output). x.status) h.output_is
      ∙ ap (λ (S : MapState). replay_status S.answered) (same_state (net_of t) h.tickets k.tickets h.state k.state e h.led k.led)
      ∙ sym k.ends
