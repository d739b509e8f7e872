-- What a worker is told by a pool that isn't stopped, and what that says of the pool; and a search through the jobs, one after another.
use Rattle.std.proofs.Common.{◌≡◌, ◌⊎◌, ◌<◌, ◌≤◌, ◌+◌, ◌-◌, ℕ, Bool, true, false, nat_eq}
use Rattle.std.proofs.Common.{if◌then◌else◌, List, length, set, slice_get, Option, Some, None, refl, sym, ap, ◌∙◌, subst, inl}
use Rattle.std.proofs.Common.{inr, ⊎_elim, Result, Ok, Err, OnErr, arith}
use Rattle.std.proofs.lemmas.Bool.{cases_eq, both_ways}
use Rattle.std.proofs.lemmas.Option.{slice_get_within}
use Rattle.token_pool.specs.declared.entries.Held.{Held}
use Rattle.token_pool.specs.declared.entries.Reply.{Reply}
use Rattle.token_pool.specs.declared.entries.Reply.TheVariants.{Stopped, Token, Ended, Idle, Reserved}
use Rattle.token_pool.specs.Pools.{Pool, Holds, allowances}
use Rattle.token_pool.specs.declared.pieces.Piece.{Piece}
use Rattle.token_pool.specs.Pieces.{IsPieceOf}
use Rattle.token_pool.specs.Turns.{turn, held_after, taken, is_ended, own, flat, on_own, on_free, offered, allowance, next_lines}
use Rattle.token_pool.specs.Turns.{least_free}
use Rattle.batch_pool.specs.Batches.{IsPool, HoldsIn, HoldsNowhere}
use Rattle.batch_pool.specs.Asking.{AllOver, GivesToken, NoneGivesBelow, NoneGives, HasTicket}
use Rattle.batch_pool.specs.declared.asking.Offer.{Offer}
use Rattle.batch_pool.specs.declared.asking.Offer.TheVariants as offer
use Rattle.batch_pool.specs.declared.pieces.BatchTaken.{BatchTaken}
use Rattle.batch_pool.specs.declared.pieces.BatchTaken.TheVariants as answer
use Rattle.batch_pool.specs.Steps.{OffersAt, IsServing, GivesAgain, GivesFirst, TakesFirst}
use Rattle.batch_pool.specs.Keeping.{ArePassed, Spared, Counted}
use Rattle.batch_pool.proofs.Pools.{one_there, set_same, got_after_set}

-- what is held at a place is what its worker owns
pub owns : (o : Option (Option Held)) (h : Held) → o ≡ Some (Some h) → flat o ≡ Some h
owns o h e = ap flat e

pub owns_none : (o : Option (Option Held)) → ((h : Held) → o ≡ Some (Some h) → ⊥) → flat o ≡ None
owns_none None d = refl
owns_none (Some None) d = refl
owns_none (Some (Some h)) d = absurd (d h refl)

module _ (p : Pool) (w : ℕ) (running : p.stopped ≡ false) where
  lines : Reply
  lines = next_lines p.state (length p.log) p.held p.budget p.workers

  -- what a worker holds is told to it again
  pub told_again : (h : Held) → Holds p.held w h → turn p w ≡ Token h
  told_again h at = ap (λ b. if b then Stopped else on_own (own p.held w) (next_lines p.state (length p.log) p.held p.budget p.workers))
      running
      ∙ ap (λ o. on_own o (next_lines p.state (length p.log) p.held p.budget p.workers)) (owns (slice_get p.held w) h at)

  module _ (free : (h : Held) → Holds p.held w h → ⊥) where
    pub told_next : turn p w ≡ next_lines p.state (length p.log) p.held p.budget p.workers
    told_next = ap (λ b. if b then Stopped else on_own (own p.held w) (next_lines p.state (length p.log) p.held p.budget p.workers))
        running
        ∙ ap (λ o. on_own o (next_lines p.state (length p.log) p.held p.budget p.workers)) (owns_none (slice_get p.held w) free)

    rest : Reply
    rest = on_free (least_free p) (offered (length p.log + allowances p.held) p.budget p.workers)

    no_end : (b : Bool) (n left i : ℕ) → (let t : Reply = if b then Reserved else Token (record { ticket = i; allowance = n }) in
        t ≡ Ended) → ⊥
    no_end true n left i e = cc
    no_end false n left i e = cc

    never_ends : (o : Option ℕ) (made budget workers : ℕ) → on_free o (offered made budget workers) ≡ Ended → ⊥
    never_ends None made budget workers e = cc
    never_ends (Some i) made budget workers e = no_end (nat_eq made budget) (allowance (budget - made) workers) 0 i e

    ends_so : (b : Bool) (o : Option ℕ) (made budget workers : ℕ) →
        (if b then Ended else on_free o (offered made budget workers)) ≡ Ended → b ≡ true
    ends_so true o made budget workers e = refl
    ends_so false o made budget workers e = absurd (never_ends o made budget workers e)

    -- a pool that has nothing any more is over
    pub over_is : turn p w ≡ Ended → is_ended p ≡ true
    over_is e = ends_so (is_ended p) (least_free p) (length p.log + allowances p.held) p.budget p.workers (sym told_next ∙ e)

    -- a pool that is over has nothing any more
    pub over_told : is_ended p ≡ true → turn p w ≡ Ended
    over_told e = told_next ∙
        ap (λ b. if b then Ended else on_free (least_free p) (offered (length p.log + allowances p.held) p.budget p.workers)) e

    waits_so : (b : Bool) (t u : Reply) → (if b then Ended else t) ≡ u → (u ≡ Idle) ⊎ (u ≡ Reserved) → b ≡ false
    waits_so true t u e (inl h) = absurd cc
    waits_so true t u e (inr h) = absurd cc
    waits_so false t u e h = refl

    -- and one that has nothing now isn't
    pub open_is : (turn p w ≡ Idle) ⊎ (turn p w ≡ Reserved) → is_ended p ≡ false
    open_is h = waits_so (is_ended p) (on_free (least_free p) (offered (length p.log + allowances p.held) p.budget p.workers)) (turn p w)
        (sym told_next) h

over_gives_none : (t : Reply) (h : Held) → t ≡ Ended → t ≡ Token h → ⊥
over_gives_none t h e k = cc

waits_gives_none : (t : Reply) (h : Held) → (t ≡ Idle) ⊎ (t ≡ Reserved) → t ≡ Token h → ⊥
waits_gives_none t h (inl e) k = cc
waits_gives_none t h (inr e) k = cc

-- what is known of the jobs below job n: all of them are over, or some job isn't
abbrev pub Below : Bool → List Pool → ℕ → Type 0
Below true pools n = (j : ℕ) (p : Pool) → j < n → IsPool pools j p → is_ended p ≡ true
Below false pools n = (j : ℕ) × (p : Pool) × (j < n) × IsPool pools j p × (is_ended p ≡ false)

-- where a search has come to: no job before gives a ticket
pub record Searched (pools : List Pool) (w n : ℕ) (over : Bool) : Type 0 where
  pub none : NoneGivesBelow pools w n
  pub below : Below over pools n

-- jobs that are over give no ticket, so that a search may begin behind them
search_begins : (pools : List Pool) (w n : ℕ) → IsServing pools w → HoldsNowhere pools w → ArePassed pools n → Searched pools w n true
search_begins pools w n serving free over = record {
  none = λ j p l at g. over_gives_none (turn p w) g.0 (over_told p w (serving j p at).1 (λ h k. free j h (p, at, k)) (over j p l at)) g.1;
  below = over;
}

module _ (pools : List Pool) (w : ℕ) (serving : IsServing pools w) (free : HoldsNowhere pools w) (n : ℕ) (over : Bool)
    (s : Searched pools w n over) (p : Pool) (at : IsPool pools n p) where
  free_here : (h : Held) → Holds p.held w h → ⊥
  free_here h held = free n h (p, at, held)

  running_here : p.stopped ≡ false
  running_here = (serving n p at).1

  none_more : (GivesToken p w → ⊥) → NoneGivesBelow pools w (n + 1)
  none_more d j q l a g = ⊎_elim
      (λ e. d (subst (λ (q : Pool). GivesToken q w) (one_there (slice_get pools n) q p (subst (λ j. IsPool pools j q) e a) at) g))
      (λ e. s.none j q (omega (arith, e, l)) a g) (cases_eq j n)

  still_over : (b : Bool) → Below b pools n → is_ended p ≡ true → Below b pools (n + 1)
  still_over true below e = λ j q l a. ⊎_elim
      (λ i. subst (λ (q : Pool). is_ended q ≡ true) (one_there (slice_get pools n) p q at (subst (λ j. IsPool pools j q) i a)) e)
      (λ i. below j q (omega (arith, i, l)) a) (cases_eq j n)
  still_over false (j, q, l, a, e') e = (j, q, omega (arith, l), a, e')

  -- the search goes on behind a job that is over
  pub goes_over : turn p w ≡ Ended → Searched pools w (n + 1) over
  goes_over e = record {
    none = none_more (λ g. over_gives_none (turn p w) g.0 e g.1);
    below = still_over over s.below (over_is p w running_here free_here e);
  }

  -- and behind one that waits
  pub goes_waiting : (turn p w ≡ Idle) ⊎ (turn p w ≡ Reserved) → Searched pools w (n + 1) false
  goes_waiting e = record {
    none = none_more (λ g. waits_gives_none (turn p w) g.0 e g.1);
    below = (n, p, omega arith, at, open_is p w running_here free_here e);
  }

-- a search that has come to the end says so of all jobs
pub none_at_all : (pools : List Pool) (w n : ℕ) → length pools ≤ n → NoneGivesBelow pools w n → NoneGives pools w
none_at_all pools w n l none j p at g = none j p (let k = slice_get_within pools j p at in omega (arith, k, l)) at g

pub all_over : (pools : List Pool) (n : ℕ) → length pools ≤ n → Below true pools n → AllOver pools
all_over pools n l below j p at = below j p (let k = slice_get_within pools j p at in omega (arith, k, l)) at

pub not_all_over : (pools : List Pool) (n : ℕ) → Below false pools n → AllOver pools → ⊥
not_all_over pools n (j, p, l, at, e) all = both_ways (is_ended p) e (all j p at)

-- a fact that holds anyway
pub on_err : {A E : Type 0} (r : Result A E) (P : Type 0) → P → OnErr r P
on_err (Ok a) P x = tt
on_err (Err e) P x = x

-- a ticket that is held already is held as before
pub taken_again : (p : Pool) (w : ℕ) (h : Held) → Holds p.held w h → turn p w ≡ Token h → taken p w ≡ p
taken_again p w h at told =
    let e : held_after (turn p w) p.held w ≡ p.held = ap (λ t. held_after t p.held w) told ∙ set_same p.held w (Some h) at in
    ap (λ (k : List (Option Held)). record p { held = k }) e

same_ticket : (g h : Held) (t : Reply) → t ≡ Token g → t ≡ Token h → g ≡ h
same_ticket g h t e k = cc

module _ (pools : List Pool) (w j : ℕ) (serving : IsServing pools w) (h : Held) (holds : HoldsIn pools w j h) where
  told_here : turn holds.0 w ≡ Token h
  told_here = told_again holds.0 w (serving j holds.0 holds.1).1 h holds.2

  -- the job in which the worker holds a ticket gives it again
  gives_it : (k : Piece) (after : List Pool) → OffersAt pools w j (offer.Token k) after → GivesAgain pools w j k
  gives_it k after x =
      let (g, told, piece, new) = x.offers in
      let e : x.old ≡ holds.0 = one_there (slice_get pools j) x.old holds.0 x.job holds.1 in
      let same : g ≡ h = same_ticket g h (turn holds.0 w) (ap (λ (p : Pool). turn p w) (sym e) ∙ told) told_here in (
        holds.0,
        h,
        holds.1,
        holds.2,
        told_here,
        subst (λ (p : Pool). IsPieceOf p.state h k) e (subst (λ g. IsPieceOf x.old.state g k) same piece),
      )

  pub gives_again : (o : Offer) (k : Piece) (after : List Pool) → o ≡ offer.Token k → OffersAt pools w j o after →
      GivesAgain pools w j k
  gives_again o k after e x = gives_it k after (subst (λ o. OffersAt pools w j o after) e x)

  stays_it : (k : Piece) (after : List Pool) → OffersAt pools w j (offer.Token k) after → after ≡ pools
  stays_it k after x =
      let (g, told, piece, new) = x.offers in
      let e : x.old ≡ holds.0 = one_there (slice_get pools j) x.old holds.0 x.job holds.1 in
      let n : x.new ≡ holds.0 = new ∙ ap (λ (p : Pool). taken p w) e ∙ taken_again holds.0 w h holds.2 told_here in
      x.after_it ∙ ap (set pools j) n ∙ set_same pools j holds.0 holds.1

  pub stays_again : (o : Offer) (k : Piece) (after : List Pool) → o ≡ offer.Token k → OffersAt pools w j o after → after ≡ pools
  stays_again o k after e x = stays_it k after (subst (λ o. OffersAt pools w j o after) e x)

-- a job that gives no ticket stays as it was
pub stays_over : (pools : List Pool) (w j : ℕ) (after : List Pool) → OffersAt pools w j offer.Over after → after ≡ pools
stays_over pools w j after x = x.after_it ∙ ap (set pools j) x.offers.1 ∙ set_same pools j x.old x.job

pub stays_waiting : (pools : List Pool) (w j : ℕ) (after : List Pool) → OffersAt pools w j offer.Waits after → after ≡ pools
stays_waiting pools w j after x = x.after_it ∙ ap (set pools j) x.offers.1 ∙ set_same pools j x.old x.job

-- where the search has come to, with the jobs as they are now, and with so many that it knows to be over
pub record Comes (pools now : List Pool) (w n : ℕ) (over : Bool) (passed spare : ℕ) : Type 0 where
  pub same : now ≡ pools
  pub search : Searched pools w n over
  pub behind : passed ≤ n
  pub counted : Counted now passed spare

module _ (pools now : List Pool) (w j : ℕ) (over : Bool) (passed spare : ℕ) (x : Comes pools now w j over passed spare) where
  there : (o : Offer) (after : List Pool) → OffersAt now w j o after → OffersAt pools w j o after
  there o after a = subst (λ (now : List Pool). OffersAt now w j o after) x.same a

  still_passed : (after : List Pool) → after ≡ pools → ArePassed after passed
  still_passed after e = subst (λ (ps : List Pool). ArePassed ps passed) (x.same ∙ sym e) x.counted.over

  -- one job more is passed where all are over so far
  passes : (after : List Pool) (b : Bool) → after ≡ pools → Below b pools (j + 1) →
      ((if b then j + 1 else passed) ≤ j + 1) × ArePassed after (if b then j + 1 else passed)
  passes after true e below = (omega arith, subst (λ (ps : List Pool). ArePassed ps (j + 1)) (sym e) below)
  passes after false e below = let l = x.behind in (omega (arith, l), still_passed after e)

  -- where a job behind them goes on, they stay over
  pub passed_stay : (o : Offer) (after : List Pool) → OffersAt now w j o after → ArePassed after passed
  passed_stay o after a = subst (λ (ps : List Pool). ArePassed ps passed) (sym a.after_it)
      (λ i p l at. ⊎_elim (λ e. absurd (let b = x.behind in let i = e.0 in omega (arith, b, i, l))) (λ e. x.counted.over i p l e.1)
      (got_after_set now j i a.new p at))

  first_it : (k : Piece) (after : List Pool) → OffersAt pools w j (offer.Token k) after → GivesFirst pools w j k after
  first_it k after a =
      let (h, told, piece, new) = a.offers in
      record {
        pool = a.old;
        job = a.job;
        held = h;
        told = told;
        piece = piece;
        least = x.search.none;
        after_it = a.after_it ∙ ap (set pools j) new;
      }

  -- the first job that gives a ticket
  pub gives_first : (o : Offer) (k : Piece) (after : List Pool) → o ≡ offer.Token k → OffersAt now w j o after →
      GivesFirst pools w j k after
  gives_first o k after e a = first_it k after (subst (λ o. OffersAt pools w j o after) e (there o after a))

  module _ (serving : IsServing pools w) (free : HoldsNowhere pools w) where
    waiting_it : (after : List Pool) (n : ℕ) → Spared after n → OffersAt pools w j offer.Waits after →
        Comes pools after w (j + 1) false passed n
    waiting_it after n s a =
        let same = stays_waiting pools w j after a in
        let l = x.behind in
        record {
          same = same;
          search = goes_waiting pools w serving free j over x.search a.old a.job a.offers.0;
          behind = omega (arith, l);
          counted = record { over = still_passed after same; spared = s };
        }

    over_it : (after : List Pool) (n k : ℕ) → Spared after n → k ≡ (if over then j + 1 else passed) →
        OffersAt pools w j offer.Over after → Comes pools after w (j + 1) over k n
    over_it after n k s e a =
        let same = stays_over pools w j after a in
        let search = goes_over pools w serving free j over x.search a.old a.job a.offers.0 in
        let y = passes after over same search.below in
        record {
          same = same;
          search = search;
          behind = subst (λ k. k ≤ j + 1) (sym e) y.0;
          counted = record { over = subst (ArePassed after) (sym e) y.1; spared = s };
        }

    -- the search goes on behind a job that waits
    pub comes_waiting : (o : Offer) (after : List Pool) (b : Bool) (k n : ℕ) → o ≡ offer.Waits → b ≡ false → k ≡ passed →
        Spared after n → OffersAt now w j o after → Comes pools after w (j + 1) b k n
    comes_waiting o after b k n e f g s a = subst (λ k. Comes pools after w (j + 1) b k n) (sym g)
        (subst (λ b. Comes pools after w (j + 1) b passed n) (sym f)
        (waiting_it after n s (subst (λ o. OffersAt pools w j o after) e (there o after a))))

    -- and behind one that is over
    pub comes_over : (o : Offer) (after : List Pool) (b : Bool) (k n : ℕ) → o ≡ offer.Over → b ≡ over →
        k ≡ (if over then j + 1 else passed) → Spared after n → OffersAt now w j o after → Comes pools after w (j + 1) b k n
    comes_over o after b k n e f g s a = subst (λ b. Comes pools after w (j + 1) b k n) (sym f)
        (over_it after n k s g (subst (λ o. OffersAt pools w j o after) e (there o after a)))

pub comes_first : (pools : List Pool) (w passed spare : ℕ) → IsServing pools w → HoldsNowhere pools w → Counted pools passed spare →
    Comes pools pools w passed true passed spare
comes_first pools w passed spare serving free x = record {
  same = refl;
  search = search_begins pools w passed serving free x.over;
  behind = omega arith;
  counted = x;
}

-- what is told where no job gave a ticket
pub ends_over : (pools now : List Pool) (w n : ℕ) (over : Bool) (k m : ℕ) (t : BatchTaken) → Comes pools now w n over k m →
    length pools ≤ n → over ≡ true → t ≡ answer.Ended → TakesFirst pools w t now
ends_over pools now w n over k m t x l e f =
    let s = subst (λ b. Below b pools n) e x.search.below in
    subst (λ t. TakesFirst pools w t now) (sym f) (all_over pools n l s, x.same)

pub ends_waiting : (pools now : List Pool) (w n : ℕ) (over : Bool) (k m : ℕ) (t : BatchTaken) → Comes pools now w n over k m →
    length pools ≤ n → over ≡ false → t ≡ answer.Pause → TakesFirst pools w t now
ends_waiting pools now w n over k m t x l e f =
    let s = subst (λ b. Below b pools n) e x.search.below in
    subst (λ t. TakesFirst pools w t now) (sym f) (not_all_over pools n s, none_at_all pools w n l x.search.none, x.same)

-- a ticket that there is among the jobs as they are now
pub ticket_there : (pools now : List Pool) (w : ℕ) → now ≡ pools → HasTicket now w → HasTicket pools w
ticket_there pools now w e h = subst (λ (pools : List Pool). HasTicket pools w) e h

pub serving_there : (pools now : List Pool) (w : ℕ) → now ≡ pools → IsServing pools w → IsServing now w
serving_there pools now w e h = subst (λ (pools : List Pool). IsServing pools w) (sym e) h
