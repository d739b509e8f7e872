-- What was loaded of a list and of its programs says all that the files say of them.
use Rattle.std.proofs.Common.{◌≡◌, ℕ, suc, ◌+◌, ◌-◌, ◌<◌, ◌≤◌, List, [], ◌∷◌, ◌++◌, append_assoc, get_or, length, take, drop}
use Rattle.std.proofs.Common.{Option, Some, None, IfSome, Result, Ok, Err, IfOk, IfErr, OnOk, refl, sym, IsTrue, inl, inr, ap, ◌∙◌, subst}
use Rattle.std.proofs.Common.{⊎_elim, arith, All}
use Rattle.std.proofs.lemmas.List.Elements.{All-nil, All-cons}
use Rattle.std.proofs.Math.Seq.{take-length}
use Rattle.goi_world.specs.Outside.{Reading}
use Rattle.pcf_values.specs.Most.{most_program_bytes, most_schedule_bytes}
use Rattle.batch_lists.specs.declared.fault.BatchFault.{BatchFault}
use Rattle.batch_lists.specs.declared.fault.BatchFault.TheVariants as lists
use Rattle.batch_lists.specs.declared.line.BatchLine.{BatchLine}
use Rattle.batch_lists.specs.Limits.{most_list_bytes}
use Rattle.batch_lists.specs.Lists.{IsList, HasListFault, ReadAsList, StandFor}
use Rattle.goi_tasks.specs.declared.fault.Fault.{Fault}
use Rattle.goi_tasks.specs.declared.fault.Fault.TheVariants.{Batch}
use Rattle.goi_tasks.specs.declared.stop.Stop.{Stop}
use Rattle.goi_tasks.specs.declared.stop.Stop.TheVariants as stop
use Rattle.goi_tasks.specs.Outputs.{Output}
use Rattle.goi_tasks.specs.Seen.{output_of}
use Rattle.program_runs.specs.declared.calling.Calling.TheVariants.{ByName}
use Rattle.program_runs.specs.Programs.{number, wanted_by_run}
use Rattle.goi_batches.specs.declared.judged.Judged.{Judged}
use Rattle.goi_batches.specs.declared.judged.Judged.TheVariants.{Runs, Refused as Told}
use Rattle.goi_batches.specs.Judging.{IsJudged, AreJudged}
use Rattle.goi_batches.specs.Sections.{Listed, listed, Section, IsSection}
use Rattle.goi_batches.specs.Telling.{AreSections, ReportsBatch}
use Rattle.goi_engine.specs.declared.answer.Answer.{Answer}
use Rattle.goi_engine.specs.declared.answer.Answer.TheVariants.{Prints, Refused, BadWords, NotRead, NoMemory}
use Rattle.goi_engine.specs.declared.load.LoadError.{LoadError}
use Rattle.goi_engine.specs.declared.load.LoadError.TheVariants.{Memory, Failed}
use Rattle.goi_engine.specs.Answers.{Says, AnswersJob, AnswersLines, AnswersList, AreJudgedIn, IsStopped, LineFits, LinesFit}
use Rattle.goi_engine.specs.Answers.{NotLoaded, LoadedLines, stop_of_list}
use Rattle.goi_jobs.specs.Jobs.{JobTree, text, replay, list, demo, call, verilog}
use Rattle.goi_engine.specs.Verdicts.{ReadFor}
use Rattle.goi_world.specs.Told.{Fits}
use Rattle.goi_world.specs.Seen.{FilesState, FilesKept, holding}
use Rattle.goi_engine.specs.FilesSeen.{Whatever, Possibly, OfFile, LoadedBy}
use Rattle.goi_engine.specs.ListsSeen.{OfList, FaultyList, unlisted, AreSectionsIn, ReportsLines, LacksOne, LoadedEach, LoadedList}
use Rattle.goi_engine.proofs.Answered.{same_state}
use Rattle.goi_engine.proofs.Loading.{load_fits, kept_holding}
use Rattle.goi_engine.proofs.LoadedFiles.{Same, possible, of_program_goes, faulty_goes}

-- ---- what was loaded of a list's file

no_line_fault : (v : List ℕ) (f : BatchFault) → most_list_bytes < length v → HasListFault v f → ⊥
no_line_fault v f n h = omega (arith, n, h.short)

list_too_long : (v bytes : List ℕ) (f : BatchFault) → most_list_bytes < length v → most_list_bytes < length bytes → ReadAsList v (Err f) →
    ReadAsList bytes (Err f)
list_too_long v bytes lists.NoMemory m n h = tt
list_too_long v bytes lists.TooLong m n h = n
list_too_long v bytes lists.BadHeader m n h = absurd (omega (arith, m, h.short))
list_too_long v bytes (lists.BadLine k) m n h = absurd (no_line_fault v (lists.BadLine k) m h)
list_too_long v bytes (lists.TooMany k) m n h = absurd (no_line_fault v (lists.TooMany k) m h)
list_too_long v bytes lists.NoEnd m n h = absurd (no_line_fault v lists.NoEnd m h)

read_goes : (f : BatchFault) (v bytes : List ℕ) → Same most_list_bytes v bytes → ReadAsList v (Err f) → ReadAsList bytes (Err f)
read_goes f v bytes (inl e) h = subst (λ (b : List ℕ). ReadAsList b (Err f)) e h
read_goes f v bytes (inr n) h = list_too_long v bytes f n.0 n.1 h

is_list_goes : (lines : List BatchLine) (v bytes : List ℕ) → Same most_list_bytes v bytes → IsList v lines → IsList bytes lines
is_list_goes lines v bytes (inl e) h = subst (λ (b : List ℕ). IsList b lines) e h
is_list_goes lines v bytes (inr n) h = absurd (omega (arith, n.0, h.short))

of_list_goes : (P : List BatchLine → Type 0) (v bytes : List ℕ) → Same most_list_bytes v bytes → OfList v P → OfList bytes P
of_list_goes P v bytes s (lines, is, p) = (lines, is_list_goes lines v bytes s is, p)

faulty_list_goes : (f : Fault) (v bytes : List ℕ) → Same most_list_bytes v bytes → FaultyList v f → FaultyList bytes f
faulty_list_goes _ v bytes s (unlisted f n h) = unlisted f n (read_goes f v bytes s h)

-- Below, a list's file was loaded.
module _ (file : List ℕ) (workers : ℕ) (old : FilesState) (v : List ℕ) (had : IsTrue (old.lacks file) → ⊥)
    (e : IfSome (old.told file) (λ bytes. v ≡ take (most_list_bytes + 1) bytes)) where
  of_list : (P : List BatchLine → Type 0) → OfList v P → OfFile old file (λ bytes. OfList bytes P)
  of_list P h = (had, possible most_list_bytes (λ b. OfList b P) (of_list_goes P) (old.told file) v e h)

  of_answer : (new : FilesState) (a : Answer) → AnswersList workers v old new a → AnswersJob (list file workers) old new a
  of_answer new (Prints r) (same, h) = (same, of_list (λ lines. ReportsLines old workers lines (output_of r)) h)
  of_answer new (Refused r) (same, (f, h, line)) =
      (same, (f, (had, possible most_list_bytes (λ b. FaultyList b f) (faulty_list_goes f) (old.told file) v e h), line))
  of_answer new BadWords h = h
  of_answer new NotRead h = (
    tt,
    record {
      cause = ⊎_elim (λ (l : OfList v (LacksOne old)). inl (inr (of_list (LacksOne old) l))) (λ r. inr r) h.cause;
      sure = λ s. inr (of_list (LacksOne old) (h.sure s));
    },
  )
  of_answer new NoMemory h = h

  -- so what is answered to it is the answer to the job
  pub list_job : (mid new : FilesState) (a : Answer) → FilesKept old mid → mid.faults ≡ old.faults → AnswersList workers v mid new a →
      AnswersJob (list file workers) old new a
  list_job mid new a kept same h =
      of_answer new a (subst (λ (s : FilesState). AnswersList workers v s new a) (same_state old mid kept same) h)

  -- and so it is with the reads
  pub list_reads : {S : Type 0} (one : S → Reading → S → Type 0) (first mid last : S) → LoadedBy one file most_list_bytes first mid →
      LoadedLines one v mid last → LoadedList one (old.told file) file first last
  list_reads one first mid last l (inl same) = record { mid = mid; list = l; programs = inl same }
  list_reads one first mid last l (inr (lines, is, each)) = record {
    mid = mid;
    list = l;
    programs = inr (lines, possible most_list_bytes (λ b. IsList b lines) (is_list_goes lines) (old.told file) v e is, each);
  }

-- nothing more was read of a list that was loaded
pub only_list : {S : Type 0} (one : S → Reading → S → Type 0) (told : Option (List ℕ)) (file : List ℕ) (first last : S) →
    LoadedBy one file most_list_bytes first last → LoadedList one told file first last
only_list one told file first last l = record { mid = last; list = l; programs = inl refl }

-- ---- the answer to the text of a list

module _ (bytes : List ℕ) (workers : ℕ) (old new : FilesState) where
  pub lines_job : (lines : List BatchLine) → IsList bytes lines → (a : Answer) → AnswersLines workers lines old new a →
      AnswersList workers bytes old new a
  lines_job lines is (Prints r) (same, h) = (same, (lines, is, h))
  lines_job lines is (Refused r) (same, (f, h, line)) = absurd h
  lines_job lines is BadWords h = h
  lines_job lines is NotRead h =
      record { cause = ⊎_elim (λ (l : LacksOne old lines). inl (lines, is, l)) (λ r. inr r) h.cause; sure = λ s. (lines, is, h.sure s) }
  lines_job lines is NoMemory h = h

  no_lines_job : new.faults ≡ old.faults → (a : Answer) → Says (λ o. ⊥) (FaultyList bytes) a → AnswersList workers bytes old new a
  no_lines_job same (Prints r) h = absurd h
  no_lines_job same (Refused r) h = (same, h)
  no_lines_job same BadWords h = h
  no_lines_job same NotRead h = absurd h
  no_lines_job same NoMemory h = same

pub none_job : (bytes : List ℕ) (workers : ℕ) (old : FilesState) (a : Answer) → Says (λ o. ⊥) (FaultyList bytes) a →
    AnswersList workers bytes old old a
none_job bytes workers old a h = no_lines_job bytes workers old old refl a h

-- ---- the programs of its lines

judged_goes : (budget : ℕ) (j : Judged) (v bytes : List ℕ) → Same most_program_bytes v bytes → IsJudged (listed budget v) j →
    IsJudged (listed budget bytes) j
judged_goes budget (Runs job) v bytes s h =
    record { net = of_program_goes (wanted_by_run ByName) _ v bytes s h.net; budget = h.budget; fits = h.fits }
judged_goes budget (Told line) v bytes s (f, h, is) = (f, faulty_goes number f v bytes s h, is)

-- what the program that was loaded of a line's file came to, whatever the files hold
pub whatever_judged : {S E : Type 0} (seen : S → FilesState) (fits : S → (List ℕ → Option (List ℕ)) → Type 0) (file : List ℕ) (budget : ℕ)
    (old new : S) (v : List ℕ) → (IsTrue ((seen old).lacks file) → ⊥) →
    ((told : List ℕ → Option (List ℕ)) → fits new told → IfSome (told file) (λ bytes. v ≡ take (most_program_bytes + 1) bytes)) →
    (r : Result Judged E) → IfOk r (IsJudged (listed budget v)) →
    IfOk r (λ j. Whatever seen fits old new (λ x y. OfFile x file (λ bytes. IsJudged (listed budget bytes) j)))
whatever_judged seen fits file budget old new v had e (Ok j) h =
    λ told is. (
      had,
      possible most_program_bytes (λ b. IsJudged (listed budget b) j) (judged_goes budget j) (told file) v (e told is) h,
    )
whatever_judged seen fits file budget old new v had e (Err x) h = tt

-- nothing more was read
nothing_more : {S : Type 0} (one : S → Reading → S → Type 0) (lines : List BatchLine) (s : S) → LoadedEach one lines s s
nothing_more one [] s = refl
nothing_more one (l ∷ ls) s = inl refl

-- what fits after the programs were loaded fits before
pub lines_fit_before : {S : Type 0} (one : S → Reading → S → Type 0) (fits : S → (List ℕ → Option (List ℕ)) → Type 0) →
    ((old : S) (r : Reading) (new : S) (told : List ℕ → Option (List ℕ)) → one old r new → fits new told → fits old told × Fits told r) →
    (told : List ℕ → Option (List ℕ)) (lines : List BatchLine) (old new : S) → LoadedEach one lines old new → fits new told → fits old told
lines_fit_before one fits each told [] old new e h = subst (λ s. fits s told) e h
lines_fit_before one fits each told (l ∷ ls) old new (inl e) h = subst (λ s. fits s told) e h
lines_fit_before one fits each told (l ∷ ls) old new (inr (mid, loaded, more)) h =
    load_fits one fits each told l.file most_program_bytes old mid loaded (lines_fit_before one fits each told ls mid new more h)

-- and so it is with the programs of a list
pub text_fit_before : {S : Type 0} (one : S → Reading → S → Type 0) (fits : S → (List ℕ → Option (List ℕ)) → Type 0) →
    ((old : S) (r : Reading) (new : S) (told : List ℕ → Option (List ℕ)) → one old r new → fits new told → fits old told × Fits told r) →
    (told : List ℕ → Option (List ℕ)) (bytes : List ℕ) (old new : S) → LoadedLines one bytes old new → fits new told → fits old told
text_fit_before one fits each told bytes old new (inl e) h = subst (λ s. fits s told) e h
text_fit_before one fits each told bytes old new (inr (lines, is, more)) h = lines_fit_before one fits each told lines old new more h

-- whether a file of some lines is lacked doesn't hang on what the files hold
pub lacks_holding : (told : List ℕ → Option (List ℕ)) (files : FilesState) (lines : List BatchLine) → LacksOne files lines →
    LacksOne (holding told files) lines
lacks_holding told files [] h = h
lacks_holding told files (l ∷ ls) (inl h) = inl h
lacks_holding told files (l ∷ ls) (inr h) = inr (lacks_holding told files ls h)

pub unread_holding : (told : List ℕ → Option (List ℕ)) (old new : FilesState) (lines : List BatchLine) (e : LoadError) →
    NotLoaded (LacksOne old lines) old new e → NotLoaded (LacksOne (holding told old) lines) (holding told old) (holding told new) e
unread_holding told old new lines Memory h = h
unread_holding told old new lines Failed h = record {
  cause = ⊎_elim (λ (l : LacksOne old lines). inl (lacks_holding told old lines l)) (λ r. inr r) h.cause;
  sure = λ s. lacks_holding told old lines (h.sure s);
}

-- the lines behind the first
abbrev pub others : List BatchLine → List BatchLine
others xs = take (length xs - 1) (drop 1 xs)

first_and_rest : (xs : List BatchLine) (x : BatchLine) → 1 ≤ length xs → x ≡ get_or xs 0 x → xs ≡ x ∷ others xs
first_and_rest [] x l e = absurd (omega (arith, l))
first_and_rest (y ∷ ys) x l e =
    let n : length ys ≡ suc (length ys) - 1 = omega arith in
    ap (λ z. z ∷ ys) (sym e) ∙ ap (λ zs. x ∷ zs) (sym (take-length ys) ∙ ap (λ n. take n ys) n)

-- Below, the first of some lines was come to.
module _ (lines : List BatchLine) (line : BatchLine) (some : 1 ≤ length lines) (is : line ≡ get_or lines 0 line) where
  pub read_one : {S : Type 0} (one : S → Reading → S → Type 0) (first mid : S) → LoadedBy one line.file most_program_bytes first mid →
      LoadedEach one lines first mid
  read_one one first mid l =
      subst (λ ls. LoadedEach one ls first mid) (sym (first_and_rest lines line some is))
      (inr (mid, l, nothing_more one (others lines) mid))

  pub read_more : {S : Type 0} (one : S → Reading → S → Type 0) (first mid last : S) → LoadedBy one line.file most_program_bytes first mid →
      LoadedEach one (others lines) mid last → LoadedEach one lines first last
  read_more one first mid last l more =
      subst (λ ls. LoadedEach one ls first last) (sym (first_and_rest lines line some is)) (inr (mid, l, more))

  module _ (old : FilesState) where
    lacks_first : (new : FilesState) (e : LoadError) → NotLoaded (IsTrue (old.lacks line.file)) old new e →
        NotLoaded (LacksOne old (line ∷ others lines)) old new e
    lacks_first new Memory h = h
    lacks_first new Failed h = record { cause = ⊎_elim (λ l. inl (inl l)) (λ r. inr r) h.cause; sure = λ s. inl (h.sure s) }

    pub not_first : (new : FilesState) (e : LoadError) → NotLoaded (IsTrue (old.lacks line.file)) old new e →
        NotLoaded (LacksOne old lines) old new e
    not_first new e h = subst (λ ls. NotLoaded (LacksOne old ls) old new e) (sym (first_and_rest lines line some is)) (lacks_first new e h)

    lacks_more : (new : FilesState) (e : LoadError) → NotLoaded (LacksOne old (others lines)) old new e →
        NotLoaded (LacksOne old (line ∷ others lines)) old new e
    lacks_more new Memory h = h
    lacks_more new Failed h = record { cause = ⊎_elim (λ l. inl (inr l)) (λ r. inr r) h.cause; sure = λ s. inr (h.sure s) }

    -- Below, its program was judged, and the files are as before.
    module _ (mid : FilesState) (kept : FilesKept old mid) (same : mid.faults ≡ old.faults) where
      pub not_more : {A : Type 0} (new : FilesState) (r : Result A LoadError) → IfErr r (NotLoaded (LacksOne mid (others lines)) mid new) →
          IfErr r (NotLoaded (LacksOne old lines) old new)
      not_more new (Ok x) h = h
      not_more new (Err e) h =
          let k = subst (λ s. NotLoaded (LacksOne s (others lines)) s new e) (same_state old mid kept same) h in
          subst (λ ls. NotLoaded (LacksOne old ls) old new e) (sym (first_and_rest lines line some is)) (lacks_more new e k)

-- the lines behind the first are judged, and so all of them are, whatever the files hold
module _ {S : Type 0} (seen : S → FilesState) (one : S → Reading → S → Type 0) (fits : S → (List ℕ → Option (List ℕ)) → Type 0)
    (each : (old : S) (r : Reading) (new : S) (told : List ℕ → Option (List ℕ)) → one old r new → fits new told →
    fits old told × Fits told r)
    (lines : List BatchLine) (line : BatchLine) (some : 1 ≤ length lines) (is : line ≡ get_or lines 0 line) (first mid last : S)
    (kept : FilesKept (seen first) (seen mid)) (same : (seen mid).faults ≡ (seen first).faults) where
  abbrev Judges : (List BatchLine) → S → S → List Judged → Type 0
  Judges ls old new js = Whatever seen fits old new (λ x y. AreJudgedIn x ls js)

  pub judged_more : {A : Type 0} (j : Judged) (before put after : List Judged) →
      Whatever seen fits first mid (λ x y. OfFile x line.file (λ bytes. IsJudged (listed line.budget bytes) j)) → put ≡ before ++ j ∷ [] →
      (r : Result A LoadError) → LoadedEach one (others lines) mid last →
      OnOk r ((more : List Judged) × (after ≡ put ++ more) × Judges (others lines) mid last more) →
      OnOk r ((more : List Judged) × (after ≡ before ++ more) × Judges lines first last more)
  judged_more j before put after h pushed (Err e) read x = x
  judged_more j before put after h pushed (Ok y) read (more, is_more, rest) = (
    j ∷ more,
    is_more ∙ ap (λ xs. xs ++ more) pushed ∙ append_assoc before (j ∷ []) more,
    λ told fit.
        let old = holding told (seen first) in
        let between = holding told (seen mid) in
        let still = same_state old between (kept_holding told (seen first) (seen mid) kept) same in
        let all = subst (λ s. AreJudgedIn s (others lines) more) still (rest told fit) in
        subst (λ ls. AreJudgedIn old ls (j ∷ more)) (sym (first_and_rest lines line some is))
        (h told (lines_fit_before one fits each told (others lines) mid last read fit), all),
  )

-- ---- their report

-- texts that the files may have, with which the programs came to what they did
pub record Chosen (files : FilesState) (workers : ℕ) (lines : List BatchLine) (js : List Judged) : Type 0 where
  pub texts : List Listed
  pub judged : AreJudged texts js
  pub told : (ss : List Section) → AreSections workers texts ss → AreSectionsIn files workers lines ss
  pub count : length js ≡ length lines

-- one such text
record OneChosen (files : FilesState) (workers : ℕ) (line : BatchLine) (j : Judged) : Type 0 where
  pub bytes : List ℕ
  pub judged : IsJudged (listed line.budget bytes) j
  pub told : (s : Section) → IsSection workers (listed line.budget bytes) s →
      OfFile files line.file (λ b. IsSection workers (listed line.budget b) s)

choose_told : (known : Option (List ℕ)) (budget workers : ℕ) (j : Judged) → Possibly known (λ b. IsJudged (listed budget b) j) →
    (bytes : List ℕ) × IsJudged (listed budget bytes) j ×
    ((s : Section) → IsSection workers (listed budget bytes) s → Possibly known (λ b. IsSection workers (listed budget b) s))
choose_told None budget workers j (b, h) = (b, h, λ s k. (b, k))
choose_told (Some b) budget workers j h = (b, h, λ s k. k)

choose_one : (files : FilesState) (workers : ℕ) (line : BatchLine) (j : Judged) →
    OfFile files line.file (λ bytes. IsJudged (listed line.budget bytes) j) → OneChosen files workers line j
choose_one files workers line j (had, h) =
    let (b, k, tell) = choose_told (files.told line.file) line.budget workers j h in
    record { bytes = b; judged = k; told = λ s x. (had, tell s x) }

told_none : (files : FilesState) (workers : ℕ) (ss : List Section) → AreSections workers [] ss → AreSectionsIn files workers [] ss
told_none files workers [] h = tt
told_none files workers (s ∷ ss) h = h

told_cons : (files : FilesState) (workers : ℕ) (line : BatchLine) (lines : List BatchLine) (p : Listed) (ps : List Listed) →
    ((s : Section) → IsSection workers p s → OfFile files line.file (λ b. IsSection workers (listed line.budget b) s)) →
    ((ss : List Section) → AreSections workers ps ss → AreSectionsIn files workers lines ss) → (ss : List Section) → AreSections workers
    (p ∷ ps) ss → AreSectionsIn files workers (line ∷ lines) ss
told_cons files workers line lines p ps one more [] h = h
told_cons files workers line lines p ps one more (s ∷ ss) (h, hs) = (one s h, more ss hs)

-- for programs that were judged by what the files may have, there are texts by which they were
pub choose : (files : FilesState) (workers : ℕ) (lines : List BatchLine) (js : List Judged) → AreJudgedIn files lines js →
    Chosen files workers lines js
choose files workers [] [] h = record { texts = []; judged = tt; told = told_none files workers; count = refl }
choose files workers [] (j ∷ js) h = absurd h
choose files workers (l ∷ ls) [] h = absurd h
choose files workers (l ∷ ls) (j ∷ js) (h, hs) =
    let c = choose_one files workers l j h in
    let r = choose files workers ls js hs in
    record {
      texts = listed l.budget c.bytes ∷ r.texts;
      judged = (c.judged, r.judged);
      told = told_cons files workers l ls (listed l.budget c.bytes) r.texts c.told r.told;
      count = ap suc r.count;
    }

reports_lines : (files : FilesState) (workers : ℕ) (lines : List BatchLine) (js : List Judged) → AreJudgedIn files lines js → (o : Output) →
    ((ps : List Listed) → AreJudged ps js → ReportsBatch workers ps o) → ReportsLines files workers lines o
reports_lines files workers lines js h o k =
    let c = choose files workers lines js h in
    let r = k c.texts c.judged in
    record { sections = r.sections; are = c.told r.sections r.are; output_is = r.output_is }

-- the answer to programs that were loaded and judged is that to their lines
pub programs_job : (old new : FilesState) (workers : ℕ) (lines : List BatchLine) (js : List Judged) → new.faults ≡ old.faults →
    AreJudgedIn old lines js → (a : Answer) → Says (λ o. (ps : List Listed) → AreJudged ps js → ReportsBatch workers ps o) (λ f. ⊥) a →
    AnswersLines workers lines old new a
programs_job old new workers lines js same h (Prints r) k = (same, reports_lines old workers lines js h (output_of r) k)
programs_job old new workers lines js same h (Refused r) (f, x, line) = absurd x
programs_job old new workers lines js same h BadWords k = k
programs_job old new workers lines js same h NotRead k = absurd k
programs_job old new workers lines js same h NoMemory k = same

-- and so it is where one wasn't loaded
pub unread_job : (old new : FilesState) (workers : ℕ) (lines : List BatchLine) (e : LoadError) (a : Answer) → (e ≡ Failed → a ≡ NotRead) →
    (e ≡ Memory → a ≡ NoMemory) → NotLoaded (LacksOne old lines) old new e → AnswersLines workers lines old new a
unread_job old new workers lines Failed a f m h = subst (λ x. AnswersLines workers lines old new x) (sym (f refl)) h
unread_job old new workers lines Memory a f m h = subst (λ x. AnswersLines workers lines old new x) (sym (m refl)) h

-- the programs that were added to none are all
pub all_judged : (files : FilesState) (lines : List BatchLine) (before after : List Judged) → before ≡ [] →
    (more : List Judged) × (after ≡ before ++ more) × AreJudgedIn files lines more → AreJudgedIn files lines after
all_judged files lines before after none (more, is, each) =
    subst (λ js. AreJudgedIn files lines js) (sym (is ∙ ap (λ js. js ++ more) none)) each

-- ---- a list that was read

each_fits : (ls : List (List ℕ)) (lines : List BatchLine) → StandFor ls lines → All LineFits lines
each_fits [] [] h = All-nil LineFits
each_fits [] (l ∷ ls) h = absurd h
each_fits (t ∷ ts) [] h = absurd h
each_fits (t ∷ ts) (l ∷ ls) (h, hs) = All-cons LineFits l ls (record { some = h.some; few = h.few }) (each_fits ts ls hs)

pub lines_fit : (bytes : List ℕ) (lines : List BatchLine) → IsList bytes lines → LinesFit lines
lines_fit bytes lines h = record { each = each_fits h.whole.before lines h.whole.stand; few = omega (arith, h.whole.few) }

module _ (bytes : List ℕ) where
  fault_is : (f g : Fault) → stop.Fault f ≡ stop.Fault g → f ≡ g
  fault_is f g e = cc

  list_fault : (f : BatchFault) → ReadAsList bytes (Err f) → (g : Fault) → stop_of_list f ≡ stop.Fault g → FaultyList bytes g
  list_fault lists.NoMemory h g e = let k : stop.Memory ≡ stop.Fault g = e in absurd cc
  list_fault lists.TooLong h g e = subst (FaultyList bytes) (fault_is (Batch lists.TooLong) g e) (unlisted lists.TooLong (λ k. cc) h)
  list_fault lists.BadHeader h g e = subst (FaultyList bytes) (fault_is (Batch lists.BadHeader) g e) (unlisted lists.BadHeader (λ k. cc) h)
  list_fault (lists.BadLine n) h g e =
      subst (FaultyList bytes) (fault_is (Batch (lists.BadLine n)) g e) (unlisted (lists.BadLine n) (λ k. cc) h)
  list_fault (lists.TooMany n) h g e =
      subst (FaultyList bytes) (fault_is (Batch (lists.TooMany n)) g e) (unlisted (lists.TooMany n) (λ k. cc) h)
  list_fault lists.NoEnd h g e = subst (FaultyList bytes) (fault_is (Batch lists.NoEnd) g e) (unlisted lists.NoEnd (λ k. cc) h)

  -- and one that wasn't
  pub list_stopped : (f : BatchFault) (s : Stop) (a : Answer) → ReadAsList bytes (Err f) → s ≡ stop_of_list f → IsStopped s a →
      Says (λ o. ⊥) (FaultyList bytes) a
  list_stopped f s (Prints r) h e k = k
  list_stopped f s (Refused r) h e (g, is, tells) = (g, list_fault f h g (sym e ∙ is), tells)
  list_stopped f s BadWords h e k = k
  list_stopped f s NotRead h e k = k
  list_stopped f s NoMemory h e k = tt

-- where only memory was wanting, nothing was left unread
pub only_memory : {A : Type 0} (lacks : Type 0) (old new : FilesState) (r : Result A LoadError) → new.faults ≡ old.faults →
    IfErr r (λ e. e ≡ Memory) → IfErr r (NotLoaded lacks old new)
only_memory lacks old new (Ok x) same h = h
only_memory lacks old new (Err e) same h = subst (NotLoaded lacks old new) (sym h) same

-- ---- all reads of a job

-- what fits after the reads of a job fits before them
module _ {S : Type 0} (one : S → Reading → S → Type 0) (fits : S → (List ℕ → Option (List ℕ)) → Type 0)
    (each : (old : S) (r : Reading) (new : S) (told : List ℕ → Option (List ℕ)) → one old r new → fits new told →
    fits old told × Fits told r)
    (told : List ℕ → Option (List ℕ)) where
  same_fits : (old new : S) → new ≡ old → fits new told → fits old told
  same_fits old new e h = subst (λ s. fits s told) e h

  loaded_fits : (name : List ℕ) (limit : ℕ) (old new : S) → LoadedBy one name limit old new → fits new told → fits old told
  loaded_fits name limit old new l h = load_fits one fits each told name limit old new l h

  pub read_fits : (asked : Option JobTree) (old new : S) → ReadFor one told asked old new → fits new told → fits old told
  read_fits None old new e h = same_fits old new e h
  read_fits (Some (text file workers task)) old new l h = loaded_fits file _ old new l h
  read_fits (Some (replay file moves window)) old new l h =
      loaded_fits file _ old l.mid l.program
      (⊎_elim (λ (e : new ≡ l.mid). same_fits l.mid new e h) (λ k. loaded_fits moves most_schedule_bytes l.mid new k h) l.schedule)
  read_fits (Some (list file workers)) old new l h =
      loaded_fits file _ old l.mid l.list
      (⊎_elim (λ (e : new ≡ l.mid). same_fits l.mid new e h) (λ k. lines_fit_before one fits each told k.0 l.mid new k.2 h) l.programs)
  read_fits (Some (demo n workers)) old new e h = same_fits old new e h
  read_fits (Some (call file numbers workers budget schedule tally)) old new l h = loaded_fits file _ old new l h
  read_fits (Some (verilog file name v)) old new l h = loaded_fits file _ old new l h
