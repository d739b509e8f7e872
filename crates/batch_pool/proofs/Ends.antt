-- The ends of the jobs one after another, and why they are runs.
use Rattle.std.proofs.Common.{◌≡◌, ◌≤◌, ◌-◌, ℕ, suc, take, List, [], ◌∷◌, ◌++◌, append_assoc, length, get_or}
use Rattle.std.proofs.Common.{drop, Option, Some, None, Result, Ok, Err, IfOk, OnOk, sym, ap, ◌∙◌, subst, arith, All}
use Rattle.std.proofs.lemmas.List.Elements.{All-take, All-drop}
use Rattle.std.proofs.Math.Seq.{take-length}
use Rattle.token_pool.specs.declared.ending.Ended.{Ended}
use Rattle.token_pool.specs.Pools.{Pool}
use Rattle.token_pool.specs.Ending.{Suits, Finishes, Replays}
use Rattle.batch_pool.specs.declared.job.BatchJob.{BatchJob}
use Rattle.batch_pool.specs.Batches.{job_started}
use Rattle.batch_pool.specs.Ending.{EndsFrom, EndsAs, EndsEach, first_of, behind_first}
use Rattle.batch_pool.specs.AreRuns.{IsRunOf, AreRuns}
use Rattle.batch_pool.specs.Steps.{Pops}

-- what an Ok says of its value may be said otherwise
pub if_ok_so : {A E : Type 0} (r : Result A E) (P Q : A → Type 0) → IfOk r P → ((a : A) → P a → Q a) → IfOk r Q
if_ok_so (Ok a) P Q h f = f a h
if_ok_so (Err e) P Q h f = tt

module _ {E : Type 0} (job : BatchJob) (w : ℕ) (p : Pool) (r : Result Ended E) where
  ends_from : (r : Result Ended E) → (Suits p job.net job.budget w → IfOk r (Finishes p)) →
      ((Suits p job.net job.budget w → ⊥) → IfOk r (Finishes (job_started w job))) →
      IfOk r (EndsFrom p job w)
  ends_from (Ok e) same other = record { same = same; other = other }
  ends_from (Err e) same other = tt

  -- what a pool gives is the job's end from it
  pub ends_as : (o : Option Pool) → o ≡ Some p → (Suits p job.net job.budget w → IfOk r (Finishes p)) →
      ((Suits p job.net job.budget w → ⊥) → IfOk r (Finishes (job_started w job))) → IfOk r (EndsAs o job w)
  ends_as o e same other = subst (λ o. IfOk r (EndsAs o job w)) (sym e) (ends_from r same other)

-- the elements behind the first
abbrev pub others : List BatchJob → List BatchJob
others xs = take (length xs - 1) (drop 1 xs)

-- a list that isn't empty is its first and those behind it
pub first_and_rest : (xs : List BatchJob) (x : BatchJob) → 1 ≤ length xs → x ≡ get_or xs 0 x → xs ≡ x ∷ others xs
first_and_rest [] x l e = absurd (omega (arith, l))
first_and_rest (y ∷ ys) x l e =
    let n : length ys ≡ suc (length ys) - 1 = omega arith in
    ap (λ z. z ∷ ys) (sym e) ∙ ap (λ zs. x ∷ zs) (sym (take-length ys) ∙ ap (λ n. take n ys) n)

-- what is so of each element is so of the first
pub fits_first : (P : BatchJob → Type 0) (xs : List BatchJob) (x : BatchJob) → 1 ≤ length xs → x ≡ get_or xs 0 x → All P xs → P x
fits_first P xs x l e h = subst P (sym e) (h 0 x l)

-- and of each behind it
pub fit_others : (P : BatchJob → Type 0) (xs : List BatchJob) → All P xs → All P (others xs)
fit_others P xs h = All-take P (length xs - 1) (drop 1 xs) (All-drop P 1 xs h)

pub popped_first : {A : Type 0} (xs rest : List A) (o : Option A) → Pops xs o rest → first_of xs ≡ o
popped_first xs rest None h = ap first_of h.0
popped_first xs rest (Some x) h = ap first_of h

pub popped_rest : {A : Type 0} (xs rest : List A) (o : Option A) → Pops xs o rest → behind_first xs ≡ rest
popped_rest xs rest None h = ap behind_first h.0 ∙ sym h.1
popped_rest xs rest (Some x) h = ap behind_first h

module _ (pools rest : List Pool) (o : Option Pool) (pops : Pops pools o rest) (jobs : List BatchJob) (job : BatchJob)
    (some : 1 ≤ length jobs) (is : job ≡ get_or jobs 0 job)
    (w : ℕ) (e : Ended) (end : EndsAs o job w e) (replays : Replays job.net job.budget w e) (old mid new : List Ended)
    (pushed : mid ≡ old ++ e ∷ []) where
  each : (more : List Ended) → EndsEach rest (others jobs) w more → EndsEach pools jobs w (e ∷ more)
  each more h =
      let first : EndsAs (first_of pools) job w e = subst (λ o. EndsAs o job w e) (sym (popped_first pools rest o pops)) end in
      let others : EndsEach (behind_first pools) (others jobs) w more =
      subst (λ ps. EndsEach ps (others jobs) w more) (sym (popped_rest pools rest o pops)) h in
      subst (λ js. EndsEach pools js w (e ∷ more)) (sym (first_and_rest jobs job some is)) (first, replays, others)

  -- one end more
  pub ends_more : {A E : Type 0} (r : Result A E) →
      OnOk r ((more : List Ended) × (new ≡ mid ++ more) × EndsEach rest (others jobs) w more) →
      OnOk r ((more : List Ended) × (new ≡ old ++ more) × EndsEach pools jobs w more)
  ends_more (Ok a) (more, is_new, h) = (
    e ∷ more,
    is_new ∙ ap (λ es. es ++ more) pushed ∙ append_assoc old (e ∷ []) more,
    each more h,
  )
  ends_more (Err x) h = tt

module _ (jobs : List BatchJob) (job : BatchJob) (some : 1 ≤ length jobs) (is : job ≡ get_or jobs 0 job) (w : ℕ) (e : Ended)
    (run : IsRunOf job w e) (old mid new : List Ended) (pushed : mid ≡ old ++ e ∷ []) where
  -- one run more
  pub runs_more : {A E : Type 0} (r : Result A E) → OnOk r ((more : List Ended) × (new ≡ mid ++ more) × AreRuns (others jobs) w more) →
      OnOk r ((more : List Ended) × (new ≡ old ++ more) × AreRuns jobs w more)
  runs_more (Ok a) (more, is_new, h) = (
    e ∷ more,
    is_new ∙ ap (λ es. es ++ more) pushed ∙ append_assoc old (e ∷ []) more,
    subst (λ js. AreRuns js w (e ∷ more)) (sym (first_and_rest jobs job some is)) (run, h),
  )
  runs_more (Err x) h = tt
