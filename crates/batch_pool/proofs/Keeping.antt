-- What stays true of a batch where one of its pools goes on.
use Rattle.std.proofs.Common.{◌≡◌, ◌⊎◌, ◌<◌, ◌≤◌, ℕ, Bool, List, length-set, set, slice_get, Option, Some, None}
use Rattle.std.proofs.Common.{refl, sym, ap, ◌∙◌, subst, inl, inr, ⊎_elim, arith}
use Rattle.std.proofs.lemmas.Bool.{cases_eq}
use Rattle.move_rules.specs.Walks.{Passage}
use Rattle.token_pool.specs.declared.entries.Held.{Held}
use Rattle.token_pool.specs.declared.entries.Reply.TheVariants.{Token}
use Rattle.token_pool.specs.declared.entries.Booked.TheVariants.{Done}
use Rattle.token_pool.specs.Pools.{Pool, Holds, Good}
use Rattle.token_pool.specs.Turns.{turn, taken, held_after}
use Rattle.token_pool.specs.Booking.{Moves, BookedAs}
use Rattle.token_pool.specs.Laws.{TakeKeeps, GivesHeld, BookKeeps}
use Rattle.batch_pool.specs.Batches.{IsPool, HoldsIn, HoldsNowhere, BatchGood}
use Rattle.batch_pool.specs.Codes.{batch}
use Rattle.batch_pool.specs.Keeping.{Place, Knows, Kept}
use Rattle.batch_pool.proofs.Pools.{got_after_set, put_there, others_stay, one_there}

-- Job j's pool goes on from p to q: a good pool again, of so many workers, with the same flag, in which other workers hold what they held.
-- The worker for whom it goes on holds nothing in another job.
pub record Change (pools : List Pool) (w j : ℕ) (p q : Pool) : Type 0 where
  pub at : IsPool pools j p
  pub good : Good q
  pub served : q.workers ≡ p.workers
  pub flag : q.stopped ≡ p.stopped
  pub stay : (v : ℕ) (h : Held) → (v ≡ w → ⊥) → Holds p.held v h → Holds q.held v h
  pub held : (v : ℕ) (h : Held) → (v ≡ w → ⊥) → Holds q.held v h → Holds p.held v h
  pub only : (i : ℕ) (h : Held) → HoldsIn pools w i h → i ≡ j

module _ (pools : List Pool) (w j : ℕ) (p q : Pool) (x : Change pools w j p q) where
  after : List Pool
  after = set pools j q

  -- a pool afterwards is the new one, or one that was there
  pool_after : (i : ℕ) (r : Pool) → IsPool (set pools j q) i r → ((i ≡ j) × (q ≡ r)) ⊎ ((i ≡ j → ⊥) × IsPool pools i r)
  pool_after i r at = got_after_set pools j i q r at

  new_there : IsPool (set pools j q) j q
  new_there = put_there pools j q p x.at

  -- the worker still holds nothing in another job
  pub only_after : (i : ℕ) (h : Held) → HoldsIn (set pools j q) w i h → i ≡ j
  only_after i h (r, at, held) = ⊎_elim (λ e. e.0) (λ e. x.only i h (r, e.1, held)) (pool_after i r at)

  -- what others hold, they held
  back : (v i : ℕ) (h : Held) → (v ≡ w → ⊥) → HoldsIn (set pools j q) v i h → HoldsIn pools v i h
  back v i h d (r, at, held) = ⊎_elim
      (λ e. (p, subst (λ i. IsPool pools i p) (sym e.0) x.at, x.held v h d (subst (λ (r : Pool). Holds r.held v h) (sym e.1) held)))
      (λ e. (r, e.1, held)) (pool_after i r at)

  -- and what they held, they hold
  forth : (v i : ℕ) (h : Held) → (v ≡ w → ⊥) → HoldsIn pools v i h → HoldsIn (set pools j q) v i h
  forth v i h d (r, at, held) = ⊎_elim
      (λ e. (
        q,
        subst (λ i. IsPool (set pools j q) i q) (sym e) new_there,
        x.stay v h d (subst (λ (r : Pool). Holds r.held v h) (one_there (slice_get pools j) r p (subst (λ i. IsPool pools i r) e at) x.at)
            held),
      ))
      (λ e. (r, others_stay pools j i q r e at, held)) (cases_eq i j)

  module _ (workers : ℕ) (stopped : Bool) (g : BatchGood (batch pools workers stopped)) where
    apart_after : (v i k : ℕ) (a b : Held) → HoldsIn (set pools j q) v i a → HoldsIn (set pools j q) v k b → i ≡ k
    apart_after v i k a b s t = ⊎_elim
        (λ e. only_after i a (subst (λ v. HoldsIn (set pools j q) v i a) e s) ∙
        sym (only_after k b (subst (λ v. HoldsIn (set pools j q) v k b) e t)))
        (λ e. g.apart v i k a b (back v i a e s) (back v k b e t)) (cases_eq v w)

    -- the batch stays good
    pub good_after : BatchGood (batch (set pools j q) workers stopped)
    good_after = record {
      few_jobs = let n = length-set pools j q in let m = g.few_jobs in omega (arith, n, m);
      some_workers = g.some_workers;
      few_workers = g.few_workers;
      good = λ i r at. ⊎_elim (λ e. subst Good e.1 x.good) (λ e. g.good i r e.1) (pool_after i r at);
      served = λ i r at. ⊎_elim (λ e. ap (λ (r : Pool). r.workers) (sym e.1) ∙ x.served ∙
          g.served j p x.at) (λ e. g.served i r e.1) (pool_after i r at);
      running = λ i r at. ⊎_elim (λ e. ap (λ (r : Pool). r.stopped) (sym e.1) ∙ x.flag ∙
          g.running j p x.at) (λ e. g.running i r e.1) (pool_after i r at);
      apart = apart_after;
    }

  place_stays : (o : Option ℕ) (v : ℕ) → (v ≡ w → ⊥) → Place o pools v → Place o (set pools j q) v
  place_stays None v d k = λ i h s. k i h (back v i h d s)
  place_stays (Some i) v d k = (k.0, forth v i k.0 d k.1)

  -- what is known of the others stays so
  pub knows_after : (places : List (Option ℕ)) (o : Option ℕ) → Knows places pools → Place o (set pools j q) w →
      Knows (set places w o) (set pools j q)
  knows_after places o k here v o' at = ⊎_elim
      (λ e. subst (λ v. Place o' (set pools j q) v) (sym e.0) (subst (λ o. Place o (set pools j q) w) e.1 here))
      (λ e. place_stays o' v e.0 (k v o' e.1)) (got_after_set places w v o o' at)

  pub kept_after : (workers : ℕ) (stopped : Bool) (places : List (Option ℕ)) (o : Option ℕ) → Kept pools workers stopped places →
      Place o (set pools j q) w → Kept (set pools j q) workers stopped (set places w o)
  kept_after workers stopped places o k here = record {
    good = good_after workers stopped k.good;
    each = length-set places w o ∙ k.each;
    knows = knows_after places o k.knows here;
  }

-- what is held at other places where one place is written
pub stays_set : (held : List (Option Held)) (w : ℕ) (o : Option Held) (v : ℕ) (h : Held) → (v ≡ w → ⊥) → Holds held v h →
    Holds (set held w o) v h
stays_set held w o v h d at = others_stay held w v o (Some h) d at

pub held_set : (held : List (Option Held)) (w : ℕ) (o : Option Held) (v : ℕ) (h : Held) → (v ≡ w → ⊥) →
    Holds (set held w o) v h → Holds held v h
held_set held w o v h d at = ⊎_elim (λ e. absurd (d e.0)) (λ e. e.1) (got_after_set held w v o (Some h) at)

module _ (pools : List Pool) (w j : ℕ) (p : Pool) (at : IsPool pools j p) (good : Good p) (l : w < p.workers) where
  -- a worker that held nothing is handed a ticket
  module _ (h : Held) (told : turn p w ≡ Token h) (free : HoldsNowhere pools w) (keeps : TakeKeeps) (gives : GivesHeld) where
    held_is : (taken p w).held ≡ set p.held w (Some h)
    held_is = ap (λ t. held_after t p.held w) told

    pub take_changes : Change pools w j p (taken p w)
    take_changes = record {
      at = at;
      good = keeps p w good l;
      served = refl;
      flag = refl;
      stay = λ v g d a. subst (λ (k : List (Option Held)). Holds k v g) (sym held_is) (stays_set p.held w (Some h) v g d a);
      held = λ v g d a. held_set p.held w (Some h) v g d (subst (λ (k : List (Option Held)). Holds k v g) held_is a);
      only = λ i g a. absurd (free i g a);
    }

    pub takes_place : Place (Some j) (set pools j (taken p w)) w
    takes_place = (h, (taken p w, put_there pools j (taken p w) p at, (gives p w h good l told).0))

  -- a worker's moves are booked
  module _ (q : Pool) (m : Passage) (k : ℕ) (booked : BookedAs p q w m (Done k)) (only : (i : ℕ) (h : Held) → HoldsIn pools w i h →
      i ≡ j) (keeps : BookKeeps) where
    some_moves : (h : Held) (n : ℕ) → 1 ≤ h.allowance → Moves p.net p.state h m n → (1 ≤ n) × (n ≤ h.allowance)
    some_moves h n a (inl (accepts, e)) = let b = accepts.1 in let c = accepts.2 in (omega (arith, e, b), omega (arith, e, c))
    some_moves h n a (inr (other, e)) = (omega (arith, e), omega (arith, e, a))

    held_is_not : q.held ≡ set p.held w None
    held_is_not = let (h, n, at, c, moves, books) = booked in ap (λ (q : Pool). q.held) books.rest

    pub book_changes : Change pools w j p q
    book_changes =
        let (h, n, holds, c, moves, books) = booked in
        let few = some_moves h n (good.allowed w h holds) moves in
        record {
          at = at;
          good = keeps p q w h n good holds l few.0 few.1 books;
          served = ap (λ (q : Pool). q.workers) books.rest;
          flag = ap (λ (q : Pool). q.stopped) books.rest;
          stay = λ v g d a. subst (λ (k : List (Option Held)). Holds k v g) (sym held_is_not) (stays_set p.held w None v g d a);
          held = λ v g d a. held_set p.held w None v g d (subst (λ (k : List (Option Held)). Holds k v g) held_is_not a);
          only = only;
        }

    none_here : (g : Held) → Holds q.held w g → ⊥
    none_here g a = ⊎_elim (λ e. no_none g e.1) (λ e. e.0 refl)
        (got_after_set p.held w w None (Some g) (subst (λ (k : List (Option Held)). Holds k w g) held_is_not a))
      where
        no_none : (g : Held) → (let o : Option Held = None in o ≡ Some g) → ⊥
        no_none g e = cc

    pub leaves_place : Place None (set pools j q) w
    leaves_place i g s =
        let e = only_after pools w j p q book_changes i g s in
        none_here g (subst (λ (r : Pool). Holds r.held w g)
        (one_there (slice_get (set pools j q) j) s.0 q (subst (λ i. IsPool (set pools j q) i s.0) e s.1) (put_there pools j q p at)) s.2)
