-- Words that `clap` takes ask for a job, whose numbers are in range, unless they enter `circuit` with what is unfit.
use Rattle.std.proofs.Common.{◌≡◌, ◌∙◌, ◌∷◌, cond, refl, subst, sym, Bool, true, false, List, [], Option}
use Rattle.std.proofs.Common.{Some, None, ap, codes, inl, inr, is_some, map, option_map, ◌⊎◌}
use Rattle.std.specs.List.{AllByRecursion, find}
use Rattle.std.specs.Option.{option_map_or}
use Rattle.clap.specs.Walk.{Row, Text, answers_to, finished, nothing_held, rows_after, settled, walk, walk_from}
use Rattle.clap.specs.Simple.{App, Shape, argument_words, built, entered, label_of, names_of, rows_at}
use Rattle.clap.specs.Words.{subcommand_of}
use Rattle.clap.specs.Faults.{check_fault, defaults_fault, entered_fault, fault_of, level_fault, settle_fault, walk_fault}
use Rattle.clap.specs.Kinds.{Kinds}
use Rattle.goi_words.specs.Commands.{CommandRow, IsUnfit, all_go_with, circuit_in, circuit_job, commands, goi_command, if_module_name}
use Rattle.goi_words.specs.Commands.{name_in, no_module, no_use}
use Rattle.goi_words.specs.Findings.{Findings, ◌>>=◌}
use Rattle.goi_words.specs.Asked.{AreUnfit, findings, is_faultless, is_taken, job, job_on}
use Rattle.goi_jobs.specs.Jobs.{IsWithinLimits, JobTree, verilog}
use Rattle.goi_jobs.specs.declared.verilog.Verilog.{Verilog}
use Rattle.goi_words.specs.Laws.{TakenWordsHaveAJob}
use Rattle.goi_words.proofs.Entering.{entered_job as job_by}
use Rattle.goi_words.proofs.Found.{found_in, none_else}
use Rattle.goi_words.proofs.Agreeing.{each}
use Rattle.goi_words.proofs.Ready.{leaf}
use Rattle.goi_words.proofs.Table.{all_ready, circuit_ready}
use Rattle.goi_words.proofs.Taken.{IsDecided, TakenHasJob, taken_has_job}

-- ---- the first level

-- the command as the parse sees it
abbrev whole : App
whole = built goi_command

-- a subcommand that takes its words has a job, or what it is called with is unfit
abbrev HasJobs : Shape → Type 0
HasJobs s = (words : List Text) → level_fault s [] nothing_held words false [] ≡ []
    → IsDecided s.name (rows_after s.rules [] words)

-- so it is with each subcommand
each_has_a_job : AllByRecursion HasJobs whole.subs
each_has_a_job = over commands (each taken_has_job commands all_ready)
  where
    over : (cs : List CommandRow) → AllByRecursion TakenHasJob cs → AllByRecursion HasJobs (map leaf cs)
    over [] all = tt
    over (c ∷ cs) all = (all.0, over cs all.1)

-- the command asks for a subcommand
asks_for_one : (rows : List Row) (b : Bool) → check_fault whole.top rows b ≡ [] → b ≡ true
asks_for_one rows true checked = refl
asks_for_one rows false checked = cc

-- and with the one that is entered
entered_job : (stop : Option (Text × List Text)) → entered_fault whole stop ≡ [] → is_some (entered whole stop) ≡ true
    → (p : Text × List Row) × (entered whole stop ≡ Some p) × IsDecided p.0 p.1
entered_job None clean met = cc
entered_job (Some stop) clean met = go (find (λ s. answers_to stop.0 (label_of s)) whole.subs) refl clean met
  where
    go : (o : Option Shape) → find (λ s. answers_to stop.0 (label_of s)) whole.subs ≡ o
        → option_map_or (λ s. level_fault s [] nothing_held stop.1 false []) o [] ≡ []
        → is_some (option_map (λ s. rows_at s stop.1) o) ≡ true
        → (p : Text × List Row) × (option_map (λ s. rows_at s stop.1) o ≡ Some p) × IsDecided p.0 p.1
    go None is clean met = cc
    go (Some s) is clean met =
        (rows_at s stop.1, refl, found_in HasJobs (λ t. answers_to stop.0 (label_of t)) whole.subs s each_has_a_job is stop.1 clean)

-- an answer that leads to none is none
none_after : {A B : Type 0} (o : Option A) (f : A → Option B) → ((x : A) → f x ≡ None) → (o >>= f) ≡ None
none_after None f none = refl
none_after (Some x) f none = none x

-- the last step to the job of `circuit`
abbrev then : Findings → (file name : Text) → Verilog → Option JobTree
then f file name asked = cond (all_go_with f asked) (Some (verilog file name asked)) None

-- what is unfit leaves `circuit` without a job
no_circuit : (f : Findings) → IsUnfit f → circuit_job f ≡ None
no_circuit f (no_module name found is) =
    let none : name_in f ≡ None = ap (λ o. o >>= if_module_name) found ∙ ap (λ b. cond b (Some name) None) is in
    none_after (f.text (codes "file")) _ (λ file. ap (λ (o : Option Text). o >>= λ n. circuit_in f >>= then f file n) none)
no_circuit f (no_use asked found is) =
    none_after (f.text (codes "file")) _ (λ file. none_after (name_in f) _ (λ name.
    ap (λ (o : Option Verilog). o >>= then f file name) found ∙ ap (λ b. cond b (Some (verilog file name asked)) None) is))

-- and so are its words refused
unfit_refused : (words : List Text) → fault_of goi_command words ≡ [] → AreUnfit words → job words ≡ None
unfit_refused words clean bad =
    job_by words (Some (codes "circuit", bad.rows)) clean (sym bad.entered) ∙ circuit_ready.job bad.rows
    ∙ no_circuit (findings bad.rows) bad.unfit

-- a list of kinds without one is empty
faultless : (k : Kinds) → is_faultless k ≡ true → k ≡ []
faultless [] e = refl
faultless (x ∷ xs) e = cc

-- the first level, and then the subcommand
pub taken_words_have_a_job : TakenWordsHaveAJob
taken_words_have_a_job words taken =
    let clean = faultless (fault_of goi_command words) taken in
    let left = argument_words goi_command words in
    let end = walk whole.top.rules (names_of whole) nothing_held left in
    let walked = none_else (walk_fault whole.top (names_of whole) (walk_from nothing_held) left) _ clean in
    let below = none_else (entered_fault whole end.stopped) _ walked.1 in
    let settles = none_else (settle_fault whole.top.rules whole.top.args_override_self end.held) _ below.1 in
    let filled_in = none_else (defaults_fault (settled whole.top.rules end.held).rows whole.top.rules) _ settles.1 in
    let met = asks_for_one (finished whole.top.rules end.held) (is_some (entered whole end.stopped)) filled_in.1 in
    let found = entered_job end.stopped below.0 met in
    elim found.2 [
      | inl has ↦ inl (has.0, job_by words (Some found.0) clean (sym found.1) ∙ has.1, has.2)
      | inr bad ↦
          let unfit : AreUnfit words = record {
            rows = found.0.1;
            entered = found.1 ∙ ap (λ n. Some (n, found.0.1)) bad.0;
            unfit = bad.1;
          } in
          inr (unfit, unfit_refused words clean unfit)
    ]

-- ---- what follows

-- words are refused by `clap`, or since they are unfit
pub why_refused : (words : List Text) → job words ≡ None → (is_taken words ≡ false) ⊎ AreUnfit words
why_refused words is = go (is_taken words) refl
  where
    some : (done : JobTree) → job words ≡ Some done → ⊥
    some done has = let both : None ≡ Some done = sym is ∙ has in cc

    go : (b : Bool) → is_taken words ≡ b → (is_taken words ≡ false) ⊎ AreUnfit words
    go false taken = inl taken
    go true taken = elim (taken_words_have_a_job words taken) [
      | inl has ↦ absurd (some has.0 has.1)
      | inr bad ↦ inr bad.0
    ]

-- words that have a job are taken
taken_where_some : (words : List Text) (done : JobTree) → job words ≡ Some done → is_taken words ≡ true
unfolding job
taken_where_some words done is = go (is_taken words) is
  where
    go : (b : Bool) → cond b (subcommand_of goi_command words >>= λ p. job_on p.0 p.1) None ≡ Some done → b ≡ true
    go true is = refl
    go false is = cc

-- the numbers of a job are in range
pub within_limits : (words : List Text) (done : JobTree) → job words ≡ Some done → IsWithinLimits done
within_limits words done is = elim (taken_words_have_a_job words (taken_where_some words done is)) [
  | inl has ↦ subst IsWithinLimits (same has.0 done (sym has.1 ∙ is)) has.2
  | inr bad ↦ absurd (none bad.1)
]
  where
    same : (x y : JobTree) → Some x ≡ Some y → x ≡ y
    same x y e = cc

    none : job words ≡ None → ⊥
    none refused = let both : None ≡ Some done = sym refused ∙ is in cc
