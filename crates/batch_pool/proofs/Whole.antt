-- Why whole jobs, each of them one worker's, come to the runs of all jobs.
use Rattle.std.proofs.Common.{◌≡◌, ◌≤◌, ◌<◌, ℕ, zero, suc, List, [], ◌∷◌, ◌++◌, append_assoc, length, get_or, set, replicate, slice_get}
use Rattle.std.proofs.Common.{option_to_list, Option, Some, None, Result, Ok, Err, IfOk, OnOk, refl, sym, ap, ◌∙◌, subst, ⊎_elim, arith}
use Rattle.std.specs.List.{All}
use Rattle.std.proofs.lemmas.List.Elements.{All-append, All-head, All-push, All-tail, All-weaker}
use Rattle.token_pool.specs.declared.ending.Ended.{Ended}
use Rattle.batch_pool.specs.declared.apart.RanJob.{RanJob}
use Rattle.batch_pool.specs.declared.job.BatchJob.{BatchJob}
use Rattle.batch_pool.specs.Apart.{IsRunBy, IsRanBy, IsRanIn, Brings, with_ends, EndsBy, EndsEachBy}
use Rattle.batch_pool.specs.Ending.{first_of, behind_first}
use Rattle.batch_pool.specs.AreRuns.{IsRunOf, AreRuns}
use Rattle.batch_pool.specs.Steps.{Pops}
use Rattle.batch_pool.proofs.Ends.{if_ok_so, others, first_and_rest, popped_first, popped_rest}
use Rattle.batch_pool.proofs.Pools.{got_after_set, one_there}

-- one run more of a worker
pub ran_more : (jobs : List BatchJob) (w n : ℕ) (old new : List RanJob) (o : Option RanJob) (r : RanJob) → All (IsRanBy jobs w) old →
    Brings jobs w n o → o ≡ Some r → new ≡ old ++ r ∷ [] → All (IsRanBy jobs w) new
ran_more jobs w n old new o r all brings is e =
    let brought : Brings jobs w n (Some r) = subst (Brings jobs w n) is brings in
    subst (All {X = RanJob} (IsRanBy jobs w)) (sym e) (All-push (IsRanBy jobs w) old r all brought.1)

-- what worker w ran was run by a worker of each row that has w
in_row : (jobs : List BatchJob) (w from to : ℕ) → from ≤ w → w < to → (r : RanJob) → IsRanBy jobs w r → IsRanIn jobs from to r
in_row jobs w from to l m r h = record { worker = w; first = l; last = m; run = h }

in_wider : (jobs : List BatchJob) (from to low high : ℕ) → low ≤ from → to ≤ high → (r : RanJob) → IsRanIn jobs from to r →
    IsRanIn jobs low high r
in_wider jobs from to low high l m r h =
    let a = h.first in
    let b = h.last in
    record { worker = h.worker; first = omega (arith, l, a); last = omega (arith, m, b); run = h.run }

module _ {V E : Type 0} (items : V → List RanJob) (jobs : List BatchJob) (from to : ℕ) (r : Result V E) where
  -- a row of one worker
  pub one_ran : from < to → IfOk r (λ v. All (IsRanBy jobs from) (items v)) → IfOk r (λ v. All (IsRanIn jobs from to) (items v))
  one_ran l h =
      if_ok_so r (λ v. All (IsRanBy jobs from) (items v)) (λ v. All (IsRanIn jobs from to) (items v)) h
      (λ v a. All-weaker (IsRanBy jobs from) (IsRanIn jobs from to) (in_row jobs from from to (omega arith) l) (items v) a)

  -- a row of two halves
  pub both_ran : (middle : ℕ) → from ≤ middle → middle ≤ to → (first second : List RanJob) → All (IsRanIn jobs from middle) first →
      All (IsRanIn jobs middle to) second → IfOk r (λ v. items v ≡ first ++ second) → IfOk r (λ v. All (IsRanIn jobs from to) (items v))
  both_ran middle l m first second a b h =
      let left : All (IsRanIn jobs from to) first =
      All-weaker (IsRanIn jobs from middle) (IsRanIn jobs from to) (in_wider jobs from middle from to (omega arith) m) first a in
      let right : All (IsRanIn jobs from to) second =
      All-weaker (IsRanIn jobs middle to) (IsRanIn jobs from to) (in_wider jobs middle to from to l (omega arith)) second b in
      if_ok_so r (λ v. items v ≡ first ++ second) (λ v. All (IsRanIn jobs from to) (items v)) h
      (λ v e. subst (All {X = RanJob} (IsRanIn jobs from to)) (sym e) (All-append (IsRanIn jobs from to) first second left right))

-- the last end is put first
put_last : (rans : List RanJob) (r : RanJob) (places : List (Option Ended)) →
    with_ends (rans ++ r ∷ []) places ≡ with_ends rans (set places r.job (Some r.end))
put_last [] r places = refl
put_last (x ∷ rans) r places = ap (λ ps. set ps x.job (Some x.end)) (put_last rans r places)

pub put_popped : (rans rest : List RanJob) (o : Option RanJob) (r : RanJob) → rans ≡ rest ++ option_to_list o → o ≡ Some r →
    (places : List (Option Ended)) → with_ends rest (set places r.job (Some r.end)) ≡ with_ends rans places
put_popped rans rest o r popped is places =
    let e : rans ≡ rest ++ r ∷ [] = popped ∙ ap (λ o. rest ++ option_to_list o) is in
    sym (ap (λ rs. with_ends rs places) e ∙ put_last rest r places)

-- a filled place has the end of the job of its number
abbrev Placed : List BatchJob → ℕ → List (Option Ended) → Type 0
Placed jobs workers places =
    (n : ℕ) (e : Ended) → slice_get places n ≡ Some (Some e) → IsRanIn jobs 0 workers (record { job = n; end = e })

empty : (n m : ℕ) (e : Ended) → slice_get (replicate {A = Option Ended} n None) m ≡ Some (Some e) → ⊥
empty zero m e h = cc
empty (suc n) zero e h = cc
empty (suc n) (suc m) e h = empty n m e h

module _ (jobs : List BatchJob) (workers : ℕ) where
  renamed : (r : RanJob) (n : ℕ) (e : Ended) → n ≡ r.job → r.end ≡ e → IsRanIn jobs 0 workers r →
      IsRanIn jobs 0 workers (record { job = n; end = e })
  renamed r n e at is h = record {
    worker = h.worker;
    first = h.first;
    last = h.last;
    run = record {
      job = h.run.job;
      there = ap (slice_get jobs) at ∙ h.run.there;
      run = subst (IsRunBy h.worker h.run.job) is h.run.run;
    };
  }

  all_placed : (rans : List RanJob) (places : List (Option Ended)) → All (IsRanIn jobs 0 workers) rans → Placed jobs workers places →
      Placed jobs workers (with_ends rans places)
  all_placed [] places a p n e h = p n e h
  all_placed (r ∷ rans) places a p n e h =
      ⊎_elim
      (λ q. renamed r n e q.0 (let s = q.1 in cc) (All-head (IsRanIn jobs 0 workers) r rans a))
      (λ q. all_placed rans places (All-tail (IsRanIn jobs 0 workers) r rans a) p n e q.1)
      (got_after_set (with_ends rans places) r.job n (Some r.end) (Some e) h)

  module _ (several : 2 ≤ workers) where
    is_run_of : (job : BatchJob) (w : ℕ) (e : Ended) → w < workers → IsRunBy w job e → IsRunOf job workers e
    is_run_of job w e below h =
        record { run = h.run workers below; alone = λ one. absurd (omega (arith, one, several)) }

    placed_run : (places : List (Option Ended)) → Placed jobs workers places → (n : ℕ) (e : Ended) (job : BatchJob) →
        slice_get places n ≡ Some (Some e) → slice_get jobs n ≡ Some job → IsRunOf job workers e
    placed_run places p n e job at is =
        let h = p n e at in
        subst (λ j. IsRunOf j workers e) (one_there (slice_get jobs n) h.run.job job h.run.there is)
        (is_run_of h.run.job h.worker e h.last h.run.run)

-- a filled place has a run of the job beside it
abbrev Fit : ℕ → List (Option Ended) → List BatchJob → Type 0
Fit workers places jobs =
    (n : ℕ) (e : Ended) (job : BatchJob) → slice_get places n ≡ Some (Some e) → slice_get jobs n ≡ Some job → IsRunOf job workers e

module _ (workers : ℕ) (several : 2 ≤ workers) where
  run_here : (places : List (Option Ended)) (job : BatchJob) (jobs : List BatchJob) → Fit workers places (job ∷ jobs) → (e : Ended) →
      EndsBy (first_of places) job e → IsRunOf job workers e
  run_here [] job jobs fit e h = is_run_of jobs workers several job 0 e (omega (arith, several)) h
  run_here (None ∷ places) job jobs fit e h = is_run_of jobs workers several job 0 e (omega (arith, several)) h
  run_here (Some x ∷ places) job jobs fit e h = subst (IsRunOf job workers) (sym h) (fit 0 x job refl refl)

  fit_behind : (places : List (Option Ended)) (job : BatchJob) (jobs : List BatchJob) → Fit workers places (job ∷ jobs) →
      Fit workers (behind_first places) jobs
  fit_behind [] job jobs fit n e j at is = absurd cc
  fit_behind (o ∷ places) job jobs fit n e j at is = fit (suc n) e j at is

  each_run : (places : List (Option Ended)) (jobs : List BatchJob) → Fit workers places jobs → (ends : List Ended) →
      EndsEachBy places jobs ends → AreRuns jobs workers ends
  each_run places [] fit [] h = tt
  each_run places [] fit (e ∷ ends) h = absurd h
  each_run places (job ∷ jobs) fit [] h = absurd h
  each_run places (job ∷ jobs) fit (e ∷ ends) h = (
    run_here places job jobs fit e h.0,
    each_run (behind_first places) jobs (fit_behind places job jobs fit) ends h.1,
  )

  -- what the workers ran, in the order of the jobs, are the runs of all jobs
  pub runs_apart : {V E : Type 0} (items : V → List Ended) (r : Result V E) (jobs : List BatchJob) (rans : List RanJob) →
      All (IsRanIn jobs 0 workers) rans → IfOk r (λ v. EndsEachBy (with_ends rans (replicate (length jobs) None)) jobs (items v)) →
      IfOk r (λ v. AreRuns jobs workers (items v))
  runs_apart items r jobs rans all h =
      let none : List (Option Ended) = replicate (length jobs) None in
      let placed : Placed jobs workers (with_ends rans none) =
      all_placed jobs workers rans none all (λ n e at. absurd (empty (length jobs) n e at)) in
      if_ok_so r (λ v. EndsEachBy (with_ends rans none) jobs (items v)) (λ v. AreRuns jobs workers (items v)) h
      (λ v x. each_run (with_ends rans none) jobs (placed_run jobs workers several (with_ends rans none) placed) (items v) x)

module _ (places rest : List (Option Ended)) (o : Option (Option Ended)) (pops : Pops places o rest) (jobs : List BatchJob)
    (job : BatchJob) (some : 1 ≤ length jobs) (is : job ≡ get_or jobs 0 job) (e : Ended) (end : EndsBy o job e)
    (old mid new : List Ended) (pushed : mid ≡ old ++ e ∷ []) where
  each_by : (more : List Ended) → EndsEachBy rest (others jobs) more → EndsEachBy places jobs (e ∷ more)
  each_by more h =
      let first : EndsBy (first_of places) job e = subst (λ o. EndsBy o job e) (sym (popped_first places rest o pops)) end in
      let behind : EndsEachBy (behind_first places) (others jobs) more =
      subst (λ ps. EndsEachBy ps (others jobs) more) (sym (popped_rest places rest o pops)) h in
      subst (λ js. EndsEachBy places js (e ∷ more)) (sym (first_and_rest jobs job some is)) (first, behind)

  -- one end more
  pub gathered_more : {A E : Type 0} (r : Result A E) →
      OnOk r ((more : List Ended) × (new ≡ mid ++ more) × EndsEachBy rest (others jobs) more) →
      OnOk r ((more : List Ended) × (new ≡ old ++ more) × EndsEachBy places jobs more)
  gathered_more (Ok a) (more, is_new, h) = (
    e ∷ more,
    is_new ∙ ap (λ es. es ++ more) pushed ∙ append_assoc old (e ∷ []) more,
    each_by more h,
  )
  gathered_more (Err x) h = tt
