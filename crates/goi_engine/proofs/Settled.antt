-- What comes of a job is settled by what the files tell: it has one status or one fault.
use Rattle.std.proofs.Common.{◌≡◌, ℕ, false, List, [], ◌∷◌, length, Option, Some, None, Result, Ok, Err, IsTrue, refl, sym, ap, ◌∙◌}
use Rattle.std.proofs.Common.{subst, inl, inr, ⊎_elim}
use Rattle.cbn_meaning.specs.Meaning.{Means}
use Rattle.pcf_values.specs.Terms.{TermTree}
use Rattle.net_build.specs.NetOf.{net_of}
use Rattle.demo_text.specs.Demo.{demo_term}
use Rattle.batch_lists.specs.declared.fault.BatchFault.{BatchFault}
use Rattle.batch_lists.specs.declared.line.BatchLine.{BatchLine}
use Rattle.batch_lists.specs.Lists.{IsList}
use Rattle.goi_tasks.specs.declared.fault.Fault.{Fault}
use Rattle.goi_tasks.specs.declared.fault.Fault.TheVariants.{Batch}
use Rattle.function_runs.specs.Laws.{OneFunction}
use Rattle.goi_tasks.specs.Calls.{ReportsCall, FaultyCall, EndsCall}
use Rattle.goi_tasks.specs.Outputs.{Output}
use Rattle.program_runs.specs.Programs.{number, OfGround}
use Rattle.program_runs.proofs.OneProgram.{same_ground}
use Rattle.goi_tasks.specs.Programs.{FaultyText, FaultyEither}
use Rattle.goi_tasks.specs.Replaying.{ReportsReplay, EndsReplay, FaultySchedule}
use Rattle.goi_tasks.specs.RunReports.{demo_budget}
use Rattle.goi_tasks.specs.Tasks.{ReportsText, FaultyFor, EndsText}
use Rattle.goi_tasks.specs.Verilogs.{ReportsVerilog, FaultyVerilog, EndsVerilog}
use Rattle.goi_tasks.proofs.Functions.{call_end, call_sound, one_call_fault}
use Rattle.goi_tasks.proofs.Outcomes.{Known, ground_sound, one_text_fault, text_end, report_sound, end_sound, one_fault_for}
use Rattle.goi_tasks.proofs.Printed.{verilog_end, verilog_sound, verilog_end_sound, one_verilog_fault}
use Rattle.goi_tasks.proofs.Outcomes.{schedule_sound, one_schedule_fault, replay_end, one_run_end, run_ends}
use Rattle.goi_jobs.specs.Jobs.{JobTree, text, replay, list, demo, call, verilog}
use Rattle.goi_jobs.specs.Tasks.{shown}
use Rattle.goi_batches.specs.Sections.{listed, Section, IsSection, statuses_of, batch_status, EndsListed}
use Rattle.goi_batches.proofs.One.{section_end}
use Rattle.goi_engine.specs.ListsSeen.{OfList, FaultyList, unlisted, AreSectionsIn, ReportsLines, EndEachIn, EndLines, LacksOne}
use Rattle.goi_world.specs.Seen.{FilesState}
use Rattle.goi_engine.specs.FilesSeen.{Possibly, OfFile, OfTold}
use Rattle.goi_engine.specs.Verdicts.{HasNumber, Reports, Refuses, LacksFor, CanDo, Faulty, SurelyLacks}

-- ---- the told bytes of a file are the possible ones

meets : (told : Option (List ℕ)) (P Q : List ℕ → Type 0) → Possibly told P → (bytes : List ℕ) × (told ≡ Some bytes) × Q bytes →
    (bytes : List ℕ) × P bytes × Q bytes
meets None P Q p (b, e, q) = let k : None ≡ Some b = e in cc
meets (Some c) P Q p (b, e, q) = let k : b ≡ c = cc in (c, p, subst Q k q)

never_lacked : (told : List ℕ → Option (List ℕ)) (name : List ℕ) (bytes : List ℕ) → told name ≡ None → told name ≡ Some bytes → ⊥
never_lacked told name bytes e h = let k : None ≡ Some bytes = sym e ∙ h in cc

-- ---- a list has one meaning

abbrev lines_or : List BatchLine → Result (List BatchLine) BatchFault → List BatchLine
lines_or j (Ok ls) = ls
lines_or j (Err f) = j

abbrev list_fault_or : BatchFault → Result (List BatchLine) BatchFault → BatchFault
list_fault_or j (Ok ls) = j
list_fault_or j (Err f) = f

no_list : (ls : List BatchLine) (f : BatchFault) → Ok ls ≡ Err f → ⊥
no_list ls f e = cc

module _ (known : Known) where
  same_lines : (bytes : List ℕ) (a b : List BatchLine) → IsList bytes a → IsList bytes b → a ≡ b
  same_lines bytes a b h k = ap (lines_or a) (known.one_list bytes (Ok a) (Ok b) (λ e. cc) (λ e. cc) h k)

  list_sound : (bytes : List ℕ) (ls : List BatchLine) (f : Fault) → IsList bytes ls → FaultyList bytes f → ⊥
  list_sound bytes ls _ h (unlisted f n k) =
      no_list ls f (known.one_list bytes (Ok ls) (Err f) (λ e. cc) (λ e. n (ap (list_fault_or f) e)) h k)

  one_list_fault : (bytes : List ℕ) (f g : Fault) → FaultyList bytes f → FaultyList bytes g → f ≡ g
  one_list_fault bytes _ _ (unlisted f n h) (unlisted g m k) =
      ap Batch
      (ap (list_fault_or f) (known.one_list bytes (Err f) (Err g) (λ e. n (ap (list_fault_or f) e)) (λ e. m (ap (list_fault_or g) e)) h k))

  both_lines : (bytes : List ℕ) (P Q : List BatchLine → Type 0) → OfList bytes P → OfList bytes Q → (ls : List BatchLine) × P ls × Q ls
  both_lines bytes P Q (a, h, p) (b, k, q) = (b, subst P (same_lines bytes a b h k) p, q)

  -- ---- and so have its programs

  module _ (files : FilesState) (workers : ℕ) where
    -- what is told of each line ends as the line does, since a file that is told has one text
    each_end : (ls : List BatchLine) (ss : List Section) (es : List ℕ) → AreSectionsIn files workers ls ss → EndEachIn files ls es →
        statuses_of ss ≡ es
    each_end [] [] [] h k = refl
    each_end [] [] (e ∷ es) h k = absurd k
    each_end [] (s ∷ ss) es h k = absurd h
    each_end (l ∷ ls) [] es h k = absurd h
    each_end (l ∷ ls) (s ∷ ss) [] h k = absurd k
    each_end (l ∷ ls) (s ∷ ss) (e ∷ es) (h, hs) (k, ks) =
        let (b, p, q) = meets (files.told l.file) (λ b. IsSection workers (listed l.budget b) s)
        (λ b. EndsListed (listed l.budget b) e) h.1 k in
        ap (λ (n : ℕ). n ∷ statuses_of ss) (section_end known workers (listed l.budget b) s e p q) ∙ ap (λ (ns : List ℕ). e ∷ ns)
        (each_end ls ss es hs ks)

    lines_end : (ls : List BatchLine) (o : Output) (own : ℕ) → ReportsLines files workers ls o → EndLines files ls own →
        o.status ≡ own
    lines_end ls o own h (ends, each, is) =
        ap (λ (x : Output). x.status) h.output_is ∙ ap batch_status (each_end ls h.sections ends h.are each) ∙ sym is

    had_each : (ls : List BatchLine) (ss : List Section) → AreSectionsIn files workers ls ss → LacksOne files ls → ⊥
    had_each [] ss h l = l
    had_each (l ∷ ls) [] h k = h
    had_each (l ∷ ls) (s ∷ ss) (h, hs) (inl k) = h.0 k
    had_each (l ∷ ls) (s ∷ ss) (h, hs) (inr k) = had_each ls ss hs k

    tells_each : ((name : List ℕ) → IsTrue (files.lacks name) → files.told name ≡ None) → (ls : List BatchLine) (es : List ℕ) →
        LacksOne files ls → EndEachIn files ls es → ⊥
    tells_each untold [] es l h = l
    tells_each untold (l ∷ ls) [] k h = h
    tells_each untold (l ∷ ls) (e ∷ es) (inl k) ((b, told, x), hs) = never_lacked files.told l.file b (untold l.file k) told
    tells_each untold (l ∷ ls) (e ∷ es) (inr k) (h, hs) = tells_each untold ls es k hs

module _ (known : Known) (one : OneFunction) (files : FilesState) where
  -- ---- both of one program

  both_ground : (bytes : List ℕ) (P Q : TermTree → Type 0) → OfGround bytes P → OfGround bytes Q → (t : TermTree) × P t × Q t
  both_ground bytes P Q (t, g, p) (u, h, q) = (u, subst P (same_ground known.one_program bytes t u g h) p, q)

  -- and of one schedule
  abbrev AtMoves : List ℕ → (TermTree → List ℕ → Type 0) → TermTree → Type 0
  AtMoves moves P t = OfFile files moves (P t)

  abbrev AtTold : List ℕ → (TermTree → List ℕ → Type 0) → TermTree → Type 0
  AtTold moves P t = OfTold files moves (P t)

  both_moves : (bytes moves : List ℕ) (P Q : TermTree → List ℕ → Type 0) → OfGround bytes (AtMoves moves P) →
      OfGround bytes (AtTold moves Q) → (t : TermTree) × (schedule : List ℕ) × P t schedule × Q t schedule
  both_moves bytes moves P Q h k =
      let (t, x, y) = both_ground bytes (AtMoves moves P) (AtTold moves Q) h k in
      let (c, r, e) = meets (files.told moves) (P t) (Q t) x.1 y in
      (t, c, r, e)

  -- ---- a job has one status or one fault

  -- the output that is right ends with the status with which the job does
  pub one_status : (j : JobTree) (o : Output) (own : ℕ) → Reports j files o → CanDo j files own → o.status ≡ own
  one_status (text file workers task) o own h k =
      let (b, p, q) = meets (files.told file) (λ b. ReportsText workers task b o) (λ b. EndsText task b own) h.1 k in
      text_end known workers task b o own p q
  one_status (replay file moves window) o own h k =
      let (b, p, q) = meets (files.told file) (λ b. OfGround b (AtMoves moves (λ t schedule. ReportsReplay t window schedule o)))
      (λ b. OfGround b (AtTold moves (λ t schedule. EndsReplay t schedule own))) h.1 k in
      let (t, c, r, e) = both_moves b moves (λ t schedule. ReportsReplay t window schedule o) (λ t schedule. EndsReplay t schedule own)
      p q in
      replay_end known t window c o own r e
  one_status (list file workers) o own h k =
      let (b, p, q) = meets (files.told file) (λ b. OfList b (λ ls. ReportsLines files workers ls o))
      (λ b. OfList b (λ ls. EndLines files ls own)) h.1 k in
      let (ls, r, e) = both_lines known b (λ ls. ReportsLines files workers ls o) (λ ls. EndLines files ls own) p q in
      lines_end known files workers ls o own r e
  one_status (demo n workers) o own h k =
      one_run_end demo_budget (net_of (demo_term n)) o.status own
      (run_ends (Means (demo_term n)) (net_of (demo_term n)) demo_budget h.answer (length h.log) o.status h.ends h.run.tells) k
  one_status (call file numbers workers budget schedule tally) o own h k =
      let (b, p, q) = meets (files.told file) (λ b. ReportsCall workers budget (shown schedule tally false) numbers b o)
      (λ b. EndsCall budget numbers b own) h.1 k in
      call_end one numbers b workers budget (shown schedule tally false) o own p q
  one_status (verilog file name v) o own h k =
      let (b, p, q) = meets (files.told file) (λ b. ReportsVerilog name v b o) (λ b. EndsVerilog v b own) h.1 k in
      verilog_end known name v b o own p q

  -- what has a right output has no fault
  pub no_fault : (j : JobTree) (o : Output) (f : Fault) → Reports j files o → Faulty j files f → ⊥
  no_fault (text file workers task) o f h k =
      let (b, p, q) = meets (files.told file) (λ b. ReportsText workers task b o) (λ b. FaultyFor task b f) h.1 k in
      report_sound known workers task b o f p q
  no_fault (replay file moves window) o f h (b, e, inl k) =
      let (b, p, q) = meets (files.told file) (λ b. OfGround b (AtMoves moves (λ t schedule. ReportsReplay t window schedule o)))
      (λ b. FaultyText number b f) h.1 (b, e, k) in
      ground_sound known.one_program b p.0 f p.1 q
  no_fault (replay file moves window) o f h (b, e, inr k) =
      let (b, p, q) = meets (files.told file) (λ b. OfGround b (AtMoves moves (λ t schedule. ReportsReplay t window schedule o)))
      (λ b. OfGround b (AtTold moves (λ t schedule. FaultySchedule t schedule f))) h.1 (b, e, k) in
      let (t, c, r, s) = both_moves b moves (λ t schedule. ReportsReplay t window schedule o) (λ t schedule. FaultySchedule t schedule f)
      p q in
      schedule_sound known t c f r.tickets r.state r.schedule r.led s
  no_fault (list file workers) o f h k =
      let (b, p, q) = meets (files.told file) (λ b. OfList b (λ ls. ReportsLines files workers ls o)) (λ b. FaultyList b f) h.1 k in
      list_sound known b p.0 f p.1 q
  no_fault (demo n workers) o f h k = k
  no_fault (call file numbers workers budget schedule tally) o f h k =
      let (b, p, q) = meets (files.told file) (λ b. ReportsCall workers budget (shown schedule tally false) numbers b o)
      (λ b. FaultyCall numbers b f) h.1 k in
      call_sound one numbers b _ f p q
  no_fault (verilog file name v) o f h k =
      let (b, p, q) = meets (files.told file) (λ b. ReportsVerilog name v b o) (λ b. FaultyVerilog v b f) h.1 k in
      verilog_sound known name v b o f p q

  -- and what can be done is not refused
  pub no_refusal : (j : JobTree) (f : Fault) (own : ℕ) → Refuses j files f → CanDo j files own → ⊥
  no_refusal (text file workers task) f own h k =
      let (b, p, q) = meets (files.told file) (λ b. FaultyFor task b f) (λ b. EndsText task b own) h.1 k in
      end_sound known task b own f q p
  no_refusal (replay file moves window) f own h k =
      let (b, p, q) = meets (files.told file) (λ b. FaultyEither b (AtMoves moves (λ t schedule. FaultySchedule t schedule f)) f)
      (λ b. OfGround b (AtTold moves (λ t schedule. EndsReplay t schedule own))) h.1 k in
      ⊎_elim (λ (x : FaultyText number b f). ground_sound known.one_program b q.0 f q.1 x)
      (λ (x : OfGround b (AtMoves moves (λ t schedule. FaultySchedule t schedule f))).
      let (t, c, r, s) = both_moves b moves (λ t schedule. FaultySchedule t schedule f) (λ t schedule. EndsReplay t schedule own) x q in
      schedule_sound known t c f s.tickets s.state s.schedule s.led r)
      p
  no_refusal (list file workers) f own h k =
      let (b, p, q) = meets (files.told file) (λ b. FaultyList b f) (λ b. OfList b (λ ls. EndLines files ls own)) h.1 k in
      list_sound known b q.0 f q.1 p
  no_refusal (demo n workers) f own h k = h
  no_refusal (call file numbers workers budget schedule tally) f own h k =
      let (b, p, q) = meets (files.told file) (λ b. FaultyCall numbers b f) (λ b. EndsCall budget numbers b own) h.1 k in
      call_sound one numbers b _ f q p
  no_refusal (verilog file name v) f own h k =
      let (b, p, q) = meets (files.told file) (λ b. FaultyVerilog v b f) (λ b. EndsVerilog v b own) h.1 k in
      verilog_end_sound known v b own f q p

  same_either : (moves b : List ℕ) (f g : Fault) → FaultyEither b (AtMoves moves (λ t schedule. FaultySchedule t schedule f)) f →
      FaultyEither b (AtTold moves (λ t schedule. FaultySchedule t schedule g)) g → f ≡ g
  same_either moves b f g (inl h) (inl k) = one_text_fault known number b f g h k
  same_either moves b f g (inl h) (inr (t, k, x)) = absurd (ground_sound known.one_program b t f k h)
  same_either moves b f g (inr (t, h, x)) (inl k) = absurd (ground_sound known.one_program b t g h k)
  same_either moves b f g (inr h) (inr k) =
      let (t, c, r, s) = both_moves b moves (λ t schedule. FaultySchedule t schedule f) (λ t schedule. FaultySchedule t schedule g) h k in
      one_schedule_fault known t c f g r s

  -- two faults of a job are one
  pub same_fault : (j : JobTree) (f g : Fault) → Refuses j files f → Faulty j files g → f ≡ g
  same_fault (text file workers task) f g h k =
      let (b, p, q) = meets (files.told file) (λ b. FaultyFor task b f) (λ b. FaultyFor task b g) h.1 k in
      one_fault_for known task b f g p q
  same_fault (replay file moves window) f g h k =
      let (b, p, q) = meets (files.told file) (λ b. FaultyEither b (AtMoves moves (λ t schedule. FaultySchedule t schedule f)) f)
      (λ b. FaultyEither b (AtTold moves (λ t schedule. FaultySchedule t schedule g)) g) h.1 k in
      same_either moves b f g p q
  same_fault (list file workers) f g h k =
      let (b, p, q) = meets (files.told file) (λ b. FaultyList b f) (λ b. FaultyList b g) h.1 k in
      one_list_fault known b f g p q
  same_fault (demo n workers) f g h k = absurd h
  same_fault (call file numbers workers budget schedule tally) f g h k =
      let (b, p, q) = meets (files.told file) (λ b. FaultyCall numbers b f) (λ b. FaultyCall numbers b g) h.1 k in
      one_call_fault one numbers b f g p q
  same_fault (verilog file name v) f g h k =
      let (b, p, q) = meets (files.told file) (λ b. FaultyVerilog v b f) (λ b. FaultyVerilog v b g) h.1 k in
      one_verilog_fault known v b f g p q

  -- ---- a file that is lacked

  -- a job with a right output lacked none
  pub had_for_report : (j : JobTree) (o : Output) → Reports j files o → SurelyLacks j files → ⊥
  had_for_report (text file workers task) o h l = h.0 l
  had_for_report (replay file moves window) o h (inl l) = h.0 l
  had_for_report (replay file moves window) o h (inr (k, l)) =
      let (b, p, q) = meets (files.told file) (λ b. OfGround b (AtMoves moves (λ t schedule. ReportsReplay t window schedule o)))
      HasNumber h.1 k in
      p.2.0 l
  had_for_report (list file workers) o h (inl l) = h.0 l
  had_for_report (list file workers) o h (inr k) =
      let (b, p, q) = meets (files.told file) (λ b. OfList b (λ ls. ReportsLines files workers ls o)) (λ b. OfList b (LacksOne files))
      h.1 k in
      let (ls, r, e) = both_lines known b (λ ls. ReportsLines files workers ls o) (LacksOne files) p q in
      had_each known files workers ls r.sections r.are e
  had_for_report (demo n workers) o h l = l
  had_for_report (call file numbers workers budget schedule tally) o h l = h.0 l
  had_for_report (verilog file name v) o h l = h.0 l

  -- nor did one that is refused for a fault
  pub had_for_refusal : (j : JobTree) (f : Fault) → Refuses j files f → SurelyLacks j files → ⊥
  had_for_refusal (text file workers task) f h l = h.0 l
  had_for_refusal (replay file moves window) f h (inl l) = h.0 l
  had_for_refusal (replay file moves window) f h (inr (k, l)) =
      let (b, p, q) = meets (files.told file) (λ b. FaultyEither b (AtMoves moves (λ t schedule. FaultySchedule t schedule f)) f)
      HasNumber h.1 k in
      ⊎_elim (λ (x : FaultyText number b f). ground_sound known.one_program b q.0 f q.1 x)
      (λ (x : OfGround b (AtMoves moves (λ t schedule. FaultySchedule t schedule f))). x.2.0 l) p
  had_for_refusal (list file workers) f h (inl l) = h.0 l
  had_for_refusal (list file workers) f h (inr k) =
      let (b, p, q) = meets (files.told file) (λ b. FaultyList b f) (λ b. OfList b (LacksOne files)) h.1 k in
      list_sound known b q.0 f q.1 p
  had_for_refusal (demo n workers) f h l = l
  had_for_refusal (call file numbers workers budget schedule tally) f h l = h.0 l
  had_for_refusal (verilog file name v) f h l = h.0 l

  -- where what is lacked isn't told, what can be done or refused lacks nothing that it comes to
  module _ (untold : (name : List ℕ) → IsTrue (files.lacks name) → files.told name ≡ None) where
    -- a job that can be done comes to no file that is lacked
    pub can_has : (j : JobTree) (own : ℕ) → LacksFor j files → CanDo j files own → ⊥
    can_has (text file workers task) own l (b, e, k) = never_lacked files.told file b (untold file l) e
    can_has (replay file moves window) own (inl l) (b, e, k) = never_lacked files.told file b (untold file l) e
    can_has (replay file moves window) own (inr (h, l)) (b, e, (t, g, (c, told, x))) =
        never_lacked files.told moves c (untold moves l) told
    can_has (list file workers) own (inl l) (b, e, k) = never_lacked files.told file b (untold file l) e
    can_has (list file workers) own (inr h) k =
        let (b, p, q) = meets (files.told file) (λ b. OfList b (LacksOne files)) (λ b. OfList b (λ ls. EndLines files ls own))
        h.1 k in
        let (ls, l, e) = both_lines known b (LacksOne files) (λ ls. EndLines files ls own) p q in
        tells_each known files workers untold ls e.0 l e.1
    can_has (demo n workers) own l k = l
    can_has (call file numbers workers budget schedule tally) own l (b, e, k) = never_lacked files.told file b (untold file l) e
    can_has (verilog file name v) own l (b, e, k) = never_lacked files.told file b (untold file l) e

    -- nor does one that is refused for a fault which the files tell
    pub faulty_has : (j : JobTree) (f : Fault) → LacksFor j files → Faulty j files f → ⊥
    faulty_has (text file workers task) f l (b, e, k) = never_lacked files.told file b (untold file l) e
    faulty_has (replay file moves window) f (inl l) (b, e, k) = never_lacked files.told file b (untold file l) e
    faulty_has (replay file moves window) f (inr (h, l)) (b, e, inl k) =
        let (c, p, q) = meets (files.told file) HasNumber (λ b. FaultyText number b f) h.1 (b, e, k) in
        ground_sound known.one_program c p.0 f p.1 q
    faulty_has (replay file moves window) f (inr (h, l)) (b, e, inr (t, g, (c, told, x))) =
        never_lacked files.told moves c (untold moves l) told
    faulty_has (list file workers) f (inl l) (b, e, k) = never_lacked files.told file b (untold file l) e
    faulty_has (list file workers) f (inr h) k =
        let (b, p, q) = meets (files.told file) (λ b. OfList b (LacksOne files)) (λ b. FaultyList b f) h.1 k in
        list_sound known b p.0 f p.1 q
    faulty_has (demo n workers) f l k = l
    faulty_has (call file numbers workers budget schedule tally) f l (b, e, k) = never_lacked files.told file b (untold file l) e
    faulty_has (verilog file name v) f l (b, e, k) = never_lacked files.told file b (untold file l) e
