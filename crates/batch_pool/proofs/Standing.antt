-- What a batch that stands gives to the calls that it makes, and what they give to it.
use Rattle.std.proofs.Common.{◌≡◌, ◌<◌, ℕ, zero, suc, Bool, false, List, [], ◌∷◌, length, set, map, replicate, slice_get}
use Rattle.std.proofs.Common.{Option, Some, None, refl, sym, ap, ◌∙◌, subst, inl, inr, arith}
use Rattle.std.proofs.lemmas.List.{length-replicate}
use Rattle.std.proofs.lemmas.Option.{slice_get_within, get_or_from_slice_get}
use Rattle.move_rules.specs.Walks.{Passage}
use Rattle.token_pool.specs.declared.entries.Held.{Held}
use Rattle.token_pool.specs.declared.entries.Booked.{Booked}
use Rattle.token_pool.specs.declared.entries.Booked.TheVariants.{Done, NothingHeld}
use Rattle.token_pool.specs.declared.pieces.Piece.{Piece}
use Rattle.token_pool.specs.Pools.{Pool, Holds, Good}
use Rattle.token_pool.specs.Turns.{taken}
use Rattle.token_pool.specs.Booking.{BookedAs}
use Rattle.token_pool.specs.Laws.{StartGood, TakeKeeps, GivesHeld, BookKeeps}
use Rattle.token_pool.proofs.Holding.{nobody}
use Rattle.batch_pool.specs.declared.job.BatchJob.{BatchJob}
use Rattle.batch_pool.specs.declared.pieces.BatchTaken.{BatchTaken}
use Rattle.batch_pool.specs.declared.pieces.BatchTaken.TheVariants as answer
use Rattle.batch_pool.specs.Batches.{Batch, IsPool, HoldsIn, HoldsNowhere, BatchGood, JobFits, BatchFits, job_started}
use Rattle.batch_pool.specs.Asking.{Handed, Takes, HasTicket}
use Rattle.batch_pool.specs.Booking.{BatchBooks, HoldsOtherIn}
use Rattle.batch_pool.specs.Codes.{batch}
use Rattle.batch_pool.specs.Keeping.{Place, Kept, places_after}
use Rattle.batch_pool.specs.Steps.{GivesAgain, TakesFirst, BooksAt}
use Rattle.batch_pool.proofs.Pools.{set_same, one_there}
use Rattle.batch_pool.proofs.Asked.{taken_again, owns}
use Rattle.batch_pool.proofs.Keeping.{kept_after, take_changes, takes_place, book_changes, leaves_place}

module _ (pools : List Pool) (workers : ℕ) (stopped : Bool) (places : List (Option ℕ)) (kept : Kept pools workers stopped places)
    (B : Batch) (v : batch pools workers stopped ≡ B) (w : ℕ) (l : w < B.workers) where
  -- the worker has a place
  pub within : w < workers
  within = subst (λ (b : Batch). w < b.workers) (sym v) l

  -- where it holds a ticket is as is known
  pub place_here : (seen : List (Option ℕ)) (o : Option ℕ) → seen ≡ places → slice_get seen w ≡ Some o → Place o pools w
  place_here seen o e h = kept.knows w o (subst (λ (p : List (Option ℕ)). slice_get p w ≡ Some o) e h)

  pub ticket_seen : HasTicket pools w → HasTicket B.pools w
  ticket_seen h = subst (λ (b : Batch). HasTicket b.pools w) v h

  pub other_seen : (m : Passage) → HoldsOtherIn pools w m → HoldsOtherIn B.pools w m
  other_seen m h = subst (λ (b : Batch). HoldsOtherIn b.pools w m) v h

  in_pool : (j : ℕ) (p : Pool) → IsPool pools j p → w < p.workers
  in_pool j p at = let e = kept.good.served j p at in let k = within in omega (arith, e, k)

  -- a ticket that is handed out again
  pub handed_again : stopped ≡ false → (j : ℕ) (k : Piece) (after : List Pool) → GivesAgain pools w j k → after ≡ pools →
      Handed B w j k (batch after workers stopped)
  handed_again running j k after (p, h, at, holds, told, piece) e =
      subst (λ B. Handed B w j k (batch after workers stopped)) v (record {
        running = running;
        pool = p;
        job = at;
        held = h;
        told = told;
        piece = piece;
        least = inl holds;
        after = ap (λ ps. batch ps workers stopped)
            (e ∙ sym (ap (set pools j) (taken_again p w h holds told) ∙ set_same pools j p at));
      })

  -- what is handed to a worker that held nothing
  pub takes_first : stopped ≡ false → HoldsNowhere pools w → (t : BatchTaken) (after : List Pool) → TakesFirst pools w t after →
      Takes B w t (batch after workers stopped)
  takes_first running free t after x = subst (λ B. Takes B w t (batch after workers stopped)) v (go t x)
    where
      go : (t : BatchTaken) → TakesFirst pools w t after → Takes (batch pools workers stopped) w t (batch after workers stopped)
      go (answer.Token j k) x = record {
        running = running;
        pool = x.pool;
        job = x.job;
        held = x.held;
        told = x.told;
        piece = x.piece;
        least = inr (free, x.least);
        after = ap (λ ps. batch ps workers stopped) x.after_it;
      }
      go answer.Pause x = ((running, free), x.0, x.1, ap (λ ps. batch ps workers stopped) x.2)
      go answer.Ended x = ((running, free), x.0, ap (λ ps. batch ps workers stopped) x.1)
      go answer.Stopped x = absurd x

  same_kept : (after : List Pool) (next : List (Option ℕ)) → after ≡ pools → next ≡ places → Kept after workers stopped next
  same_kept after next e f = subst (λ ps. Kept ps workers stopped next) (sym e) (subst (Kept pools workers stopped) (sym f) kept)

  -- what is kept once it took
  pub kept_taken : HoldsNowhere pools w → TakeKeeps → GivesHeld → (t : BatchTaken) (after : List Pool) (next : List (Option ℕ)) →
      TakesFirst pools w t after → next ≡ places_after t places w → Kept after workers stopped next
  kept_taken free keeps gives (answer.Token j k) after next x e =
      let p = x.pool in
      let good = kept.good.good j p x.job in
      let in_it = in_pool j p x.job in
      subst (λ ps. Kept ps workers stopped next) (sym x.after_it) (subst (Kept (set pools j (taken p w)) workers stopped) (sym e)
      (kept_after pools w j p (taken p w) (take_changes pools w j p x.job good in_it x.held x.told free keeps gives) workers stopped places
      (Some j) kept
      (takes_place pools w j p x.job good in_it x.held x.told free keeps gives)))
  kept_taken free keeps gives answer.Pause after next x e = same_kept after next x.2 e
  kept_taken free keeps gives answer.Ended after next x e = same_kept after next x.1 e
  kept_taken free keeps gives answer.Stopped after next x e = absurd x

  nothing_not : (p : Pool) (h : Held) (k : Booked) (q : Pool) (m : Passage) → Holds p.held w h → BookedAs p q w m k → (n : ℕ) ×
      (k ≡ Done n)
  nothing_not p h (Done n) q m holds x = (n, refl)
  nothing_not p h NothingHeld q m holds x = absurd (some_none h (sym (owns (slice_get p.held w) h holds) ∙ x.0))
    where
      some_none : (h : Held) → (let o : Option Held = Some h in o ≡ None) → ⊥
      some_none h e = cc

  module _ (j : ℕ) (h : Held) (holds : HoldsIn pools w j h) (m : Passage) (after : List Pool) (k : Booked)
      (x : BooksAt pools w j m after k) where
    held_old : Holds x.old.held w h
    held_old = subst (λ (p : Pool). Holds p.held w h) (one_there (slice_get pools j) holds.0 x.old holds.1 x.job) holds.2

    done : (n : ℕ) × (k ≡ Done n)
    done = nothing_not x.old h k x.new m held_old x.booked

    booked_done : BookedAs x.old x.new w m (Done done.0)
    booked_done = subst (λ k. BookedAs x.old x.new w m k) done.1 x.booked

    only : (i : ℕ) (g : Held) → HoldsIn pools w i g → i ≡ j
    only i g s = kept.good.apart w i j g h s holds

    -- what is kept once its moves are booked
    pub kept_booked : BookKeeps → (next : List (Option ℕ)) → next ≡ set places w None → Kept after workers stopped next
    kept_booked keeps next e =
        let good = kept.good.good j x.old x.job in
        let in_it = in_pool j x.old x.job in
        subst (λ ps. Kept ps workers stopped next) (sym x.after_it) (subst (Kept (set pools j x.new) workers stopped) (sym e)
        (kept_after pools w j x.old x.new (book_changes pools w j x.old x.job good in_it x.new m done.0 booked_done only keeps) workers
        stopped places None kept
        (leaves_place pools w j x.old x.job good in_it x.new m done.0 booked_done only keeps)))

    pub books_there : BatchBooks B (batch after workers stopped) w m k
    books_there = subst (λ B. BatchBooks B (batch after workers stopped) w m k) v
        (subst (λ k. BatchBooks (batch pools workers stopped) (batch after workers stopped) w m k) (sym done.1)
        (j, x.old, x.new, x.job, booked_done, ap (λ ps. batch ps workers stopped) x.after_it))

  -- where it holds nothing, nothing is booked
  pub books_nothing : (m : Passage) → HoldsNowhere pools w → BatchBooks B B w m NothingHeld
  books_nothing m free = (subst (λ (b : Batch). HoldsNowhere b.pools w) v free, refl)

none_of : (n w : ℕ) (o : Option ℕ) → slice_get (replicate n None) w ≡ Some o → o ≡ None
none_of zero w o h = absurd cc
none_of (suc n) zero o h = cc
none_of (suc n) (suc w) o h = none_of n w o h

-- each pool of a list that is made from jobs is one of them
made_of : (f : BatchJob → Pool) (jobs : List BatchJob) (j : ℕ) (p : Pool) → slice_get (map f jobs) j ≡ Some p →
    (job : BatchJob) × (slice_get jobs j ≡ Some job) × (p ≡ f job)
made_of f [] j p h = absurd cc
made_of f (job ∷ jobs) zero p h = (job, refl, cc)
made_of f (job ∷ jobs) (suc j) p h = made_of f jobs j p h

length_made : (f : BatchJob → Pool) (jobs : List BatchJob) → length (map f jobs) ≡ length jobs
length_made f [] = refl
length_made f (job ∷ jobs) = ap suc (length_made f jobs)

module _ (law : StartGood) (jobs : List BatchJob) (workers : ℕ) (fits : BatchFits jobs workers) where
  job_fits : (j : ℕ) (job : BatchJob) → slice_get jobs j ≡ Some job → JobFits job
  job_fits j job at = subst JobFits (get_or_from_slice_get jobs j job job at) (fits.each j job (slice_get_within jobs j job at))

  job_good : (job : BatchJob) → JobFits job → Good (job_started workers job)
  job_good job f = law job.net job.budget workers f.runs (record {
    some_moves = f.some_moves;
    few_moves = let b = f.few_moves in omega (arith, b);
    some_workers = fits.some_workers;
    few_workers = fits.few_workers;
  })

  held_by_none : (w j : ℕ) (h : Held) → HoldsIn (map (job_started workers) jobs) w j h → ⊥
  held_by_none w j h (p, at, holds) =
      let (job, there, e) = made_of (job_started workers) jobs j p at in
      nobody workers w h (subst (λ (p : Pool). Holds p.held w h) e holds)

  start_good : BatchGood (batch (map (job_started workers) jobs) workers false)
  start_good = record {
    few_jobs = let n = length_made (job_started workers) jobs in let m = fits.few_jobs in omega (arith, n, m);
    some_workers = fits.some_workers;
    few_workers = fits.few_workers;
    good = λ j p at. let (job, there, e) = made_of (job_started workers) jobs j p at in
        subst Good (sym e) (job_good job (job_fits j job there));
    served = λ j p at. let (job, there, e) = made_of (job_started workers) jobs j p at in ap (λ (p : Pool). p.workers) e;
    running = λ j p at. let (job, there, e) = made_of (job_started workers) jobs j p at in ap (λ (p : Pool). p.stopped) e;
    apart = λ w i j g h s t. absurd (held_by_none w i g s);
  }

  -- what is kept at the start
  pub start_kept : (pools : List Pool) (places : List (Option ℕ)) → pools ≡ map (job_started workers) jobs →
      places ≡ replicate workers None → Kept pools workers false places
  start_kept pools places e f = subst (λ ps. Kept ps workers false places) (sym e)
      (subst (Kept (map (job_started workers) jobs) workers false) (sym f) (record {
        good = start_good;
        each = length-replicate workers None;
        knows = λ w o at. subst (λ o. Place o (map (job_started workers) jobs) w) (sym (none_of workers w o at))
            (λ j h s. held_by_none w j h s);
      }))
