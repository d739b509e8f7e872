-- What a promise says of a job with one file, whose reports and faults are known: with status 0, 5 or 1 that was written which the job
-- comes to, and where nothing fails the other statuses are excluded, since the words ask for the job, its file is there, no device
-- failed, and a program's fault has status 1. And what a run of a program comes to is one thing alone.
use Rattle.std.proofs.Common.{◌≡◌, ◌⊎◌, ◌≤◌, ◌<◌, ℕ, List, [], append-nil, length, Option, Some, None, false}
use Rattle.std.proofs.Common.{refl, sym, ap, ◌∙◌, subst, inl, inr, ⊎_elim, arith}
use Rattle.pcf_values.specs.declared.val.Val.{Val}
use Rattle.pcf_values.specs.Terms.{TermTree}
use Rattle.cbn_meaning.specs.Meaning.{Means}
use Rattle.net_build.specs.NetOf.{net_of}
use Rattle.adequacy_laws.specs.Lengths.{OneLength}
use Rattle.adequacy_laws.specs.Questions.{Length}
use Rattle.schedule_log.specs.declared.entry.Entry.{Entry}
use Rattle.goi_world.specs.Outside.{with_more}
use Rattle.goi_world.specs.Seen.{SinkState}
use Rattle.program_runs.specs.declared.calling.Calling.TheVariants.{ByName}
use Rattle.program_runs.specs.declared.fault.ProgramFault.{ProgramFault}
use Rattle.program_runs.specs.Runs.{Tells}
use Rattle.goi_reports.specs.Lines.{result_lines}
use Rattle.goi_reports.specs.Reports.{run_report}
use Rattle.goi_tasks.specs.declared.fault.Fault.{Fault}
use Rattle.goi_tasks.specs.Outputs.{Output}
use Rattle.goi_tasks.specs.Programs.{no_program, IsProgramFault}
use Rattle.goi_tasks.specs.Refusals.{IsLine, fault_status, program_fault_line}
use Rattle.goi_tasks.specs.Replaying.{replay_status}
use Rattle.goi_tasks.specs.RunReports.{ReportsRun}
use Rattle.goi_jobs.specs.Tasks.{nothing_shown}
use Rattle.goi_jobs.specs.Jobs.{JobTree}
use Rattle.goi_engine.specs.FilesSeen.{Possibly}
use Rattle.goi_engine.specs.Calls.{Call, NoneFailed}
use Rattle.goi_engine.specs.Promise.{RefusedFault, MeansPrinted, MeansFault, MeansNotRead, MeansNotWritten, Meanings}
use Rattle.goi_engine.specs.Verdicts.{Reports, Refuses, LacksFor}
use Rattle.goi_engine.specs.Writes.{SinkTurn, Offers, AllTake, count_taken, Untouched, Wrote}

-- what is possible of the bytes of a file is so of the told ones
pub of_told : (told : Option (List ℕ)) (bytes : List ℕ) (P : List ℕ → Type 0) → told ≡ Some bytes → Possibly told P → P bytes
of_told None bytes P e h = let k : None ≡ Some bytes = e in cc
of_told (Some c) bytes P e h = let k : c ≡ bytes = cc in subst P k h

-- what follows of any bytes is possible of those of a file, and what doesn't speak of them is so
pub possibly : (told : Option (List ℕ)) (P Q : List ℕ → Type 0) → ((bytes : List ℕ) → P bytes → Q bytes) → Possibly told P → Possibly told Q
possibly None P Q k (b, p) = (b, k b p)
possibly (Some b) P Q k p = k b p

pub some_bytes : (told : Option (List ℕ)) (P : List ℕ → Type 0) (Q : Type 0) → ((bytes : List ℕ) → P bytes → Q) → Possibly told P → Q
some_bytes None P Q k (b, p) = k b p
some_bytes (Some b) P Q k p = k b p

-- a sink that wasn't touched was written nothing
none_more : (known : Option (List ℕ)) → with_more known [] ≡ known
none_more None = refl
none_more (Some bytes) = ap (λ (b : List ℕ). Some b) (append-nil bytes)

wrote_nothing : (t : SinkTurn) → Untouched t → Wrote [] t
wrote_nothing t h = record {
  offers = subst (λ log. Offers [] log) (sym h.none) tt;
  takes = subst (λ log. AllTake log) (sym h.none) tt;
  whole = ap count_taken h.none;
  written = ap (λ (s : SinkState). s.written) h.same ∙ sym (none_more t.old.written);
  faults = ap (λ (s : SinkState). s.faults) h.same;
}

-- ---- what a run comes to

-- What comes of a run within a budget, where a term may be what runs, and a fault may be the first: status, report and line.
pub data OutcomeOf (is : TermTree → Type 0) (faulty : ProgramFault → Type 0) (budget : ℕ) : ℕ → List ℕ → List ℕ → Type 0 where
  value : (t : TermTree) (v : Val) (n : ℕ) → is t → Means t v → Length (net_of t) v n → n ≤ budget →
      OutcomeOf is faulty budget 0 (result_lines (Some v) n) []
  none : (t : TermTree) → is t → ((v : Val) (n : ℕ) → Length (net_of t) v n → budget < n) →
      OutcomeOf is faulty budget 5 (result_lines None budget) []
  fault : (f : ProgramFault) → faulty f → OutcomeOf is faulty budget 1 [] (program_fault_line f)

-- the two lines are the whole report where nothing else is asked for
two_lines : (answer : Option Val) (log : List Entry) (workers : ℕ) →
    run_report answer log workers false false ≡ result_lines answer (length log)
two_lines answer log workers = append-nil (result_lines answer (length log))

module _ (is : TermTree → Type 0) (faulty : ProgramFault → Type 0) (budget : ℕ) where
  -- what a run says of its term, with its status
  answered : (t : TermTree) → is t → (answer : Option Val) (moves status : ℕ) → status ≡ replay_status answer →
      Tells (Means t) (net_of t) budget answer moves → OutcomeOf is faulty budget status (result_lines answer moves) []
  answered t so (Some v) moves status e (means, long, within) =
      subst (λ (s : ℕ). OutcomeOf is faulty budget s (result_lines (Some v) moves) []) (sym e) (value t v moves so means long within)
  answered t so None moves status e (beyond, spent) =
      subst (λ (s : ℕ). OutcomeOf is faulty budget s (result_lines None moves) []) (sym e)
      (subst (λ (n : ℕ). OutcomeOf is faulty budget 5 (result_lines None n) []) (sym spent) (none t so beyond))

  -- so does its output, where nothing else is asked for
  pub reported : (t : TermTree) → is t → (workers : ℕ) (o : Output) → ReportsRun workers budget ByName nothing_shown t o →
      OutcomeOf is faulty budget o.status o.report o.notes
  reported t so workers o h =
      subst (λ (r : List ℕ). OutcomeOf is faulty budget o.status r o.notes) (sym (h.report_is ∙ two_lines h.answer h.log workers))
      (subst (λ (r : List ℕ). OutcomeOf is faulty budget o.status (result_lines h.answer (length h.log)) r) (sym h.notes)
      (answered t so h.answer (length h.log) o.status h.ends h.run.tells))

  -- and the line of a first fault
  pub refused_line : (f : Fault) (line : List ℕ) → IsProgramFault faulty f → IsLine f line → OutcomeOf is faulty budget 1 [] line
  refused_line _ line (no_program f h) told = subst (λ (l : List ℕ). OutcomeOf is faulty budget 1 [] l) (sym told.same) (fault f h)

  -- the fault of a program is no fault of a file
  pub no_other : (f : Fault) → IsProgramFault faulty f → fault_status f ≡ 7 → ⊥
  no_other _ (no_program f h) e = cc

  -- ---- it is one thing alone

  module _ (lengths : OneLength) (same : (t u : TermTree) → is t → is u → t ≡ u)
      (sound : (t : TermTree) (f : ProgramFault) → is t → faulty f → ⊥)
      (one : (f g : ProgramFault) → faulty f → faulty g → f ≡ g) where
    -- a net is not both within the budget and beyond it
    not_both : (t u : TermTree) (v : Val) (n : ℕ) → is t → is u → Length (net_of t) v n → n ≤ budget →
        ((w : Val) (m : ℕ) → Length (net_of u) w m → budget < m) → ⊥
    not_both t u v n g h long within beyond =
        let far = beyond v n (subst (λ (x : TermTree). Length (net_of x) v n) (same t u g h) long) in omega (arith, far, within)

    same_lines : (t u : TermTree) (v w : Val) (n m : ℕ) → is t → is u → Length (net_of t) v n →
        Length (net_of u) w m → result_lines (Some v) n ≡ result_lines (Some w) m
    same_lines t u v w n m g h long other =
        let both = lengths (net_of u) v w n m (subst (λ (x : TermTree). Length (net_of x) v n) (same t u g h) long) other in
        ap (λ (x : Val). result_lines (Some x) n) both.0 ∙ ap (λ (k : ℕ). result_lines (Some w) k) both.1

    pub one_thing : (s r : ℕ) (report other line other_line : List ℕ) → OutcomeOf is faulty budget s report line →
        OutcomeOf is faulty budget r other other_line → (s ≡ r) × (report ≡ other) × (line ≡ other_line)
    one_thing _ _ _ _ _ _ (value t v n g m long within) (value u w k h o other most) =
        (refl, same_lines t u v w n k g h long other, refl)
    one_thing _ _ _ _ _ _ (value t v n g m long within) (none u h beyond) = absurd (not_both t u v n g h long within beyond)
    one_thing _ _ _ _ _ _ (value t v n g m long within) (fault f h) = absurd (sound t f g h)
    one_thing _ _ _ _ _ _ (none t g beyond) (value u v n h m long within) = absurd (not_both u t v n h g long within beyond)
    one_thing _ _ _ _ _ _ (none t g beyond) (none u h far) = (refl, refl, refl)
    one_thing _ _ _ _ _ _ (none t g beyond) (fault f h) = absurd (sound t f g h)
    one_thing _ _ _ _ _ _ (fault f h) (value u v n g m long within) = absurd (sound u f g h)
    one_thing _ _ _ _ _ _ (fault f h) (none u g beyond) = absurd (sound u f g h)
    one_thing _ _ _ _ _ _ (fault f h) (fault g k) = (refl, refl, ap program_fault_line (one f g h k))

-- ---- the promise of a job

-- what was written is what the job comes to with this status
abbrev pub Came : (ℕ → List ℕ → List ℕ → Type 0) → Call → ℕ → Type 0
Came Out c status = (report line : List ℕ) × Out status report line × Wrote report c.out × Wrote line c.err

-- Below, Out has the job's reports and the lines of its faults, none of which is a fault of a file.
module _ (j : JobTree) (c : Call) (Out : ℕ → List ℕ → List ℕ → Type 0)
    (of_report : (o : Output) → Reports j c.old o → Out o.status o.report o.notes)
    (of_fault : (f : Fault) (line : List ℕ) → Refuses j c.old f → IsLine f line → Out 1 [] line)
    (of_program : (f : Fault) → Refuses j c.old f → fault_status f ≡ 7 → ⊥) where
  printed : (status : ℕ) → MeansPrinted status (Some j) c → Came Out c status
  printed status (asked, e, h) =
      let k : asked ≡ j = cc in
      let right = subst (λ (x : JobTree). Reports x c.old h.output) k h.right in (
        h.output.report,
        h.output.notes,
        subst (λ (s : ℕ). Out s h.output.report h.output.notes) h.of_status (of_report h.output right),
        h.out,
        h.err,
      )

  -- the fault is one of the job
  fault_of : (status : ℕ) (asked : JobTree) → Some j ≡ Some asked → (h : RefusedFault status asked c) → Refuses j c.old h.fault
  fault_of status asked e h =
      let k : asked ≡ j = cc in
      subst (λ (x : JobTree). Refuses x c.old h.fault) k h.right

  refused : MeansFault 1 (Some j) c → Came Out c 1
  refused (asked, e, h) =
      ([], h.line, of_fault h.fault h.line (fault_of 1 asked e h) h.is_line, wrote_nothing c.out h.wrote.out, h.wrote.err)

  not_of_file : MeansFault 7 (Some j) c → ⊥
  not_of_file (asked, e, h) = of_program h.fault (fault_of 7 asked e h) h.of_status

  -- what is there was read
  was_read : (LacksFor j c.old → ⊥) → NoneFailed c → MeansNotRead (Some j) c → ⊥
  was_read there fine (asked, e, h, wrote) =
      let k : asked ≡ j = cc in
      ⊎_elim (λ (l : LacksFor asked c.old). there (subst (λ (x : JobTree). LacksFor x c.old) k l)) fine.files h.1.cause

  -- and what was written, was written whole
  was_written : NoneFailed c → MeansNotWritten (Some j) c → ⊥
  was_written fine (inl h) = fine.out h.out.rose
  was_written fine (inr (inl h)) = fine.err h.err.rose
  was_written fine (inr (inr h)) = fine.err h.err.rose

  module _ (status : ℕ) (p : Meanings (Some j) c status) where
    pub right : (status ≡ 0) ⊎ (status ≡ 5) ⊎ (status ≡ 1) → Came Out c status
    right (inl e) = subst (Came Out c) (sym e) (printed 0 (p.done e))
    right (inr (inl e)) = subst (Came Out c) (sym e) (printed 5 (p.no_value e))
    right (inr (inr e)) = subst (Came Out c) (sym e) (⊎_elim refused (printed 1) (p.fault e))

    pub comes : (LacksFor j c.old → ⊥) → NoneFailed c → ((status ≡ 0) ⊎ (status ≡ 5) ⊎ (status ≡ 1)) ⊎ (status ≡ 6)
    comes there fine = by p.statuses where
      by : (status ≡ 0) ⊎ (status ≡ 1) ⊎ (status ≡ 2) ⊎ (status ≡ 3) ⊎ (status ≡ 4) ⊎ (status ≡ 5) ⊎ (status ≡ 6) ⊎ (status ≡ 7) →
          ((status ≡ 0) ⊎ (status ≡ 5) ⊎ (status ≡ 1)) ⊎ (status ≡ 6)
      by (inl e) = inl (inl e)
      by (inr (inl e)) = inl (inr (inr e))
      by (inr (inr (inl e))) = let k : Some j ≡ None = (p.bad_words e).0 in absurd cc
      by (inr (inr (inr (inl e)))) = absurd (was_read there fine (p.not_read e))
      by (inr (inr (inr (inr (inl e))))) = absurd (was_written fine (p.not_written e))
      by (inr (inr (inr (inr (inr (inl e)))))) = inl (inr (inl e))
      by (inr (inr (inr (inr (inr (inr (inl e))))))) = inr e
      by (inr (inr (inr (inr (inr (inr (inr e))))))) = absurd (not_of_file (p.file_fault e))
