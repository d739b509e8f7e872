-- What a worker's turn leaves.
use Rattle.std.proofs.Common.{◌≡◌, ◌⊎◌, ◌-◌, ◌/◌, ◌<◌, ◌≤◌, ℕ, min, max, Bool, true, false, not, ◌&&◌}
use Rattle.std.proofs.Common.{◌||◌, is_some, length, set, slice_get, nat_eq, nat_lt, if◌then◌else◌, Option, Some, None, refl, sym, ap}
use Rattle.std.proofs.Common.{◌∙◌, subst, inl, inr, ⊎_elim, arith, div-le_self, length-set}
use Rattle.std.specs.Option.{IsSome}
use Rattle.std.specs.FinMap.{get, len}
use Rattle.std.proofs.lemmas.Bool.{cases_lt, eq-eqb, eqb-true, lt-ltb, ltb-true}
use Rattle.std.proofs.lemmas.Option.{slice_get-get_or}
use Rattle.move_rules.specs.Places.{TokenTree}
use Rattle.interleave_laws.specs.Maps.{seen}
use Rattle.interleave_laws.specs.Tickets.{IsLeastLive}
use Rattle.interleave_laws.proofs.Running.{idle_answered}
use Rattle.interleave_laws.proofs.MapLaws.{seen_leads, map_low}
use Rattle.interleave_laws.proofs.OneWorker.{least_found, least_none}
use Rattle.schedule_log.specs.Logs.{tickets_in_log}
use Rattle.token_pool.specs.declared.entries.Held.{Held}
use Rattle.token_pool.specs.declared.entries.Reply.{Reply}
use Rattle.token_pool.specs.declared.entries.Reply.TheVariants.{Stopped, Token, Ended, Idle, Reserved}
use Rattle.token_pool.specs.Pools.{Pool, Holds, Good}
use Rattle.token_pool.specs.Turns.{IsLeastFree, is_held, none_held, free, least_free, spent, allowance, is_ended, flat, own, on_own}
use Rattle.token_pool.specs.Turns.{on_free, turn, held_after, taken}
use Rattle.token_pool.specs.Branches.{IsFree, MovedLast, words_in, last_by, free_or, newest_or, own_first, preferred, for_branch, widened}
use Rattle.token_pool.specs.Branches.{branch_turn, branch_taken}
use Rattle.token_pool.proofs.Holding.{none_aside, at_place, held_after_set, set_same, sum_after_set, not_held, some_held, none_is}
use Rattle.token_pool.proofs.Holding.{none_alone}
use Rattle.token_pool.proofs.Free.{free_at}

-- what holds where a free ticket is given out
record Gives (o : Option (Option Held)) (f : Option ℕ) (r : Bool) (a : ℕ) (h : Held) : Type 0 where
  pub own : (o ≡ Some None) ⊎ (o ≡ None)
  pub found : f ≡ Some h.ticket
  pub room : r ≡ false
  pub allowed : h.allowance ≡ a

same_token : (g h : Held) → Token g ≡ Token h → g ≡ h
same_token g h e = cc

-- a worker that is handed a ticket holds it already, or is given a free one
lines : (s : Bool) (o : Option (Option Held)) (e : Bool) (f : Option ℕ) (r : Bool) (a : ℕ) (h : Held)
    → (if s then Stopped else on_own (flat o) (if e then Ended else on_free f
    (λ i. if r then Reserved else Token (record { ticket = i; allowance = a })))) ≡ Token h
    → (o ≡ Some (Some h)) ⊎ Gives o f r a h
lines true o e f r a h q = absurd cc
lines false (Some (Some g)) e f r a h q = inl (ap (λ k. Some (Some k)) (same_token g h q))
lines false (Some None) true f r a h q = absurd cc
lines false (Some None) false None r a h q = absurd cc
lines false (Some None) false (Some i) true a h q = absurd cc
lines false (Some None) false (Some i) false a h q =
    let k = same_token _ h q in
    inr (record {
      own = inl refl;
      found = ap (λ (g : Held). Some g.ticket) k;
      room = refl;
      allowed =
          ap (λ (g : Held). g.allowance) (sym k);
    })
lines false None true f r a h q = absurd cc
lines false None false None r a h q = absurd cc
lines false None false (Some i) true a h q = absurd cc
lines false None false (Some i) false a h q =
    let k = same_token _ h q in
    inr (record {
      own = inr refl;
      found = ap (λ (g : Held). Some g.ticket) k;
      room = refl;
      allowed =
          ap (λ (g : Held). g.allowance) (sym k);
    })

-- and where a worker is told to wait
idle_line : (s : Bool) (o : Option (Option Held)) (e : Bool) (f : Option ℕ) (r : Bool) (a : ℕ)
    → (if s then Stopped else on_own (flat o) (if e then Ended else on_free f
    (λ i. if r then Reserved else Token (record { ticket = i; allowance = a })))) ≡ Idle
    → (e ≡ false) × (f ≡ None)
idle_line true o e f r a q = absurd cc
idle_line false (Some (Some g)) e f r a q = absurd cc
idle_line false (Some None) true f r a q = absurd cc
idle_line false (Some None) false None r a q = (refl, refl)
idle_line false (Some None) false (Some i) true a q = absurd cc
idle_line false (Some None) false (Some i) false a q = absurd cc
idle_line false None true f r a q = absurd cc
idle_line false None false None r a q = (refl, refl)
idle_line false None false (Some i) true a q = absurd cc
idle_line false None false (Some i) false a q = absurd cc

-- a worker is told that all moves are set aside only where the run isn't over and no move is left
reserved_line : (s : Bool) (o : Option (Option Held)) (e : Bool) (f : Option ℕ) (r : Bool) (a : ℕ)
    → (if s then Stopped else on_own (flat o) (if e then Ended else on_free f
    (λ i. if r then Reserved else Token (record { ticket = i; allowance = a })))) ≡ Reserved
    → (e ≡ false) × (r ≡ true)
reserved_line true o e f r a q = absurd cc
reserved_line false (Some (Some g)) e f r a q = absurd cc
reserved_line false (Some None) true f r a q = absurd cc
reserved_line false (Some None) false None r a q = absurd cc
reserved_line false (Some None) false (Some i) true a q = (refl, refl)
reserved_line false (Some None) false (Some i) false a q = absurd cc
reserved_line false None true f r a q = absurd cc
reserved_line false None false None r a q = absurd cc
reserved_line false None false (Some i) true a q = (refl, refl)
reserved_line false None false (Some i) false a q = absurd cc

-- the part that is given is at least 1 and no more than is left
part_of : (q r : ℕ) → q ≤ r → 1 ≤ r → (1 ≤ min 64 (max 1 q)) × (min 64 (max 1 q) ≤ r)
part_of q r l m = (omega arith, omega arith)

branch_part_of : (alone : Bool) (q r words : ℕ) → q ≤ r → 1 ≤ r →
    (1 ≤ (if alone then r else max (min (max 1 q) 8192) (min r words))) ×
    ((if alone then r else max (min (max 1 q) 8192) (min r words)) ≤ r)
branch_part_of true q r words l m = (m, omega arith)
branch_part_of false q r words l m = (omega arith, omega arith)

-- a token that is free is live, and its ticket isn't held
free_live : (b : Bool) (o : Option TokenTree) (x : TokenTree) → (if b then None else o) ≡ Some x → (b ≡ false) × (o ≡ Some x)
free_live true o x h = absurd cc
free_live false o x h = (refl, h)

both_are : (a b : Bool) → (a && not b) ≡ true → (a ≡ true) × (b ≡ false)
both_are true false e = (refl, refl)
both_are true true e = absurd cc
both_are false b e = absurd cc

not_fewer : (n : ℕ) → nat_lt n 2 ≡ false → 2 ≤ n
not_fewer n e = ⊎_elim (λ k. let t = lt-ltb n 2 k in absurd cc) (λ k. omega (arith, k)) (cases_lt n 2)

no_fewer : (n : ℕ) → 2 ≤ n → nat_lt n 2 ≡ false
no_fewer n l = go (nat_lt n 2) refl
  where
    go : (b : Bool) → nat_lt n 2 ≡ b → nat_lt n 2 ≡ false
    go true e = let k = ltb-true n 2 e in absurd (omega (arith, l, k))
    go false e = e

module _ (p : Pool) (good : Good p) where
  -- what is left where the budget isn't made or set aside
  some_left : nat_eq (spent p) p.budget ≡ false → 1 ≤ p.budget - spent p
  some_left room = ⊎_elim (λ k. omega arith)
      (λ k. let i = good.within in let e = eq-eqb (spent p) p.budget (omega (arith, i, k)) in
      let bad : true ≡ false = sym e ∙ room in absurd cc) (cases_lt (spent p) p.budget)

  -- the ticket may be given out: it is live and free, and the least one where there is one worker
  record Givable (i : ℕ) : Type 0 where
    live : IsSome (get p.state.tokens i)
    nobody : is_held p.held i ≡ false
    low : p.workers ≡ 1 → (j : ℕ) → j < i → get (free p) j ≡ None

  least_givable : (i : ℕ) → least_free p ≡ Some i → Givable i
  least_givable i found =
      let (_, (x, f), below) = least_found (λ i. get (free p) i) p.state.next 0 i found in
      let (nobody, here) = free_live (is_held p.held i) (get p.state.tokens i) x (sym (free_at p.state.tokens p.held i) ∙ f) in
      record { live = subst IsSome (sym here) refl; nobody = nobody; low = λ _ j l. below j (omega arith) l }

  -- so may the one that a worker is given that goes on with its own
  own_givable : (w i : ℕ) → Givable i → Givable (own_first p.state p.held p.log p.workers w i)
  own_givable w i g = go (nat_lt p.workers 2) refl (last_by w p.log)
    where
      pick : (nat_lt p.workers 2 ≡ false) → (i : ℕ) → Givable i → (j : ℕ) → (b : Bool) →
          (is_some (get p.state.tokens j) && not (is_held p.held j)) ≡ b → Givable (if b then j else i)
      pick e i g j false q = g
      pick e i g j true q =
          let (live, nobody) = both_are (is_some (get p.state.tokens j)) (is_held p.held j) q in
          record {
            live = live;
            nobody = nobody;
            low = λ one. let k = ap (λ n. nat_lt n 2) one in absurd cc;
          }

      pick_free : (nat_lt p.workers 2 ≡ false) → (i : ℕ) → Givable i → (j : ℕ) → Givable (free_or p.state p.held i j)
      pick_free e i g j = pick e i g j (is_some (get p.state.tokens j) && not (is_held p.held j)) refl

      go : (b : Bool) → nat_lt p.workers 2 ≡ b → (o : Option ℕ) → Givable (if b then i else newest_or p.state p.held i o)
      go true e o = g
      go false e None = g
      go false e (Some j) = pick_free e (free_or p.state p.held i j) (pick_free e i g j) (p.state.next - 1)

  -- such a ticket is given to a worker that holds nothing, with some of what is left
  gives_good : (w : ℕ) (h : Held) → w < p.workers → slice_get p.held w ≡ Some None → Givable h.ticket →
      1 ≤ h.allowance → h.allowance ≤ p.budget - spent p → Good (record p { held = set p.held w (Some h) })
  gives_good w h l own given some few =
      let apart' = not_held p.held h.ticket given.nobody in
      let sum = sum_after_set p.held w None (Some h) own in
      record {
        runs = good.runs;
        limits = good.limits;
        places = length-set p.held w (Some h) ∙ good.places;
        leads = good.leads;
        live = λ v g at. ⊎_elim
            (λ q. let e : h ≡ g = cc in subst (λ (k : Held). IsSome (get p.state.tokens k.ticket)) e given.live)
            (λ q. good.live v g q.1) (held_after_set p.held w v (Some h) g at);
        apart = λ v u g k at bt e. ⊎_elim
            (λ q. ⊎_elim (λ r. q.0 ∙ sym r.0)
            (λ r. let s : h ≡ g = cc in absurd (apart' u k r.1 (sym e ∙ sym (ap (λ (k : Held). k.ticket) s))))
            (held_after_set p.held w u (Some h) k bt))
            (λ q. ⊎_elim (λ r. let s : h ≡ k = cc in absurd (apart' v g q.1 (e ∙ sym (ap (λ (k : Held). k.ticket) s))))
            (λ r. good.apart v u g k q.1 r.1 e)
            (held_after_set p.held w u (Some h) k bt))
            (held_after_set p.held w v (Some h) g at);
        allowed = λ v g at. ⊎_elim
            (λ q. let e : h ≡ g = cc in let s = ap (λ (k : Held). k.allowance) e in omega (arith, s, some))
            (λ q. good.allowed v g q.1) (held_after_set p.held w v (Some h) g at);
        within = let i = good.within in omega (arith, sum, i, few);
        makers = good.makers;
        alone = λ one. record {
          ours = (good.alone one).ours;
          least = λ v g at. ⊎_elim
              (λ q. let e : h ≡ g = cc in subst (λ (k : Held). IsLeastLive p.state k.ticket) e (
                given.live,
                λ j m. let n = none_alone p.held w (good.places ∙ one) (subst (λ n. w < n) one l) own j in
                    ap (λ b. if b then None else get p.state.tokens j) (sym n) ∙ sym (free_at p.state.tokens p.held j) ∙
                    given.low one j m,
              ))
              (λ q. (good.alone one).least v g q.1) (held_after_set p.held w v (Some h) g at);
        };
      }

  own_place : (w : ℕ) → w < p.workers → (slice_get p.held w ≡ Some None) ⊎ (slice_get p.held w ≡ None) →
      slice_get p.held w ≡ Some None
  own_place w l (inl e) = e
  own_place w l (inr e) = let k = good.places in let s = slice_get-get_or p.held w None (omega (arith, k)) in absurd cc

  keeps : (w : ℕ) → w < p.workers → (t : Reply) → turn p w ≡ t → Good (record p { held = held_after t p.held w })
  keeps w l Stopped e = good
  keeps w l Ended e = good
  keeps w l Idle e = good
  keeps w l Reserved e = good
  keeps w l (Token h) e = ⊎_elim
      (λ own. subst (λ held. Good (record p { held = held })) (sym (set_same p.held w (Some h) own)) good)
      (λ g. let part = part_of ((p.budget - spent p) / p.workers) (p.budget - spent p) (div-le_self (p.budget - spent p) p.workers)
      (some_left g.room) in
      let a = g.allowed in
      let some = part.0 in
      let few = part.1 in
      gives_good w h l (own_place w l g.own) (least_givable h.ticket g.found) (omega (arith, a, some)) (omega (arith, a, few)))
      (lines p.stopped (slice_get p.held w) (is_ended p) (least_free p) (nat_eq (spent p) p.budget)
      (allowance (p.budget - spent p) p.workers) h e)

  -- what a worker is given is held by it afterwards, and live
  gives_held : (w : ℕ) (h : Held) → w < p.workers → turn p w ≡ Token h → Holds (taken p w).held w h ×
      IsSome (get p.state.tokens h.ticket)
  gives_held w h l e =
      let k = good.places in
      let at : Holds (taken p w).held w h = ap (λ t. slice_get (held_after t p.held w) w) e ∙
      at_place p.held w (Some h) (omega (arith, k)) in
      (at, (keeps w l (turn p w) refl).live w h at)

  -- a worker that plays branches is given more of what is left
  branch_keeps : (w : ℕ) → w < p.workers → (o : Option Held) → own p.held w ≡ o → (t : Reply) → turn p w ≡ t →
      Good (record p { held = held_after (if is_some o then t else widened p (preferred p w t)) p.held w })
  branch_keeps w l (Some g) q t e = keeps w l t e
  branch_keeps w l None q Stopped e = good
  branch_keeps w l None q Ended e = good
  branch_keeps w l None q Idle e = good
  branch_keeps w l None q Reserved e = good
  branch_keeps w l None q (Token h) e = ⊎_elim
      (λ own. let bad = ap flat own in absurd cc)
      (λ g. let i = own_first p.state p.held p.log p.workers w h.ticket in
      let part = branch_part_of (nat_eq (len p.state.tokens) 1) ((p.budget - spent p) / p.workers) (p.budget - spent p)
      (words_in (get p.state.tokens i)) (div-le_self (p.budget - spent p) p.workers) (some_left g.room) in
      gives_good w (for_branch p (record { ticket = i; allowance = h.allowance })) l (own_place w l g.own)
      (own_givable w h.ticket (least_givable h.ticket g.found)) part.0 part.1)
      (lines p.stopped (slice_get p.held w) (is_ended p) (least_free p) (nat_eq (spent p) p.budget)
      (allowance (p.budget - spent p) p.workers) h e)

  branch_held : (w : ℕ) (h : Held) → w < p.workers → branch_turn p w ≡ Token h → Holds (branch_taken p w).held w h ×
      IsSome (get p.state.tokens h.ticket)
  branch_held w h l e =
      let k = good.places in
      let at : Holds (branch_taken p w).held w h = ap (λ t. slice_get (held_after t p.held w) w) e ∙
      at_place p.held w (Some h) (omega (arith, k)) in
      (at, (branch_keeps w l (own p.held w) refl (turn p w) refl).live w h at)

  idle_holds : (w : ℕ) → turn p w ≡ Idle → (v : ℕ) × (h : Held) × Holds p.held v h
  idle_holds w e =
      let (going, none) = idle_line p.stopped (slice_get p.held w) (is_ended p) (least_free p) (nat_eq (spent p) p.budget)
      (allowance (p.budget - spent p) p.workers) e in
      some_held p.held (go (none_held p.held) refl going none)
    where
      none_live : none_held p.held ≡ true → least_free p ≡ None → (j : ℕ) (o : Option TokenTree) →
          get p.state.tokens j ≡ o → o ≡ None
      none_live n f j None g = refl
      none_live n f j (Some x) g =
          let low = map_low p.net good.runs.sound (tickets_in_log p.log) p.state good.leads j x g in
          let gone = least_none (λ i. get (free p) i) p.state.next 0 f j (omega arith) (omega arith) in
          let here = free_at p.state.tokens p.held j ∙ ap (λ b. if b then None else get p.state.tokens j) (none_is p.held n j) in
          absurd cc

      go : (b : Bool) → none_held p.held ≡ b → is_ended p ≡ false → least_free p ≡ None → none_held p.held ≡ false
      go false e g f = e
      go true e g f =
          let (v, a) = idle_answered p.net good.runs.sound (tickets_in_log p.log) (seen p.state)
          (seen_leads p.net (tickets_in_log p.log) p.state good.leads) (λ j. none_live e f j (get p.state.tokens j) refl) in
          let t : is_ended p ≡ true = ap (λ o. is_some o || (nat_eq (length p.log) p.budget && none_held p.held)) a in
          absurd cc

pub take_keeps : (p : Pool) (w : ℕ) → Good p → w < p.workers → Good (taken p w)
take_keeps p w good l = keeps p good w l (turn p w) refl

pub take_gives : (p : Pool) (w : ℕ) (h : Held) → Good p → w < p.workers → turn p w ≡ Token h → Holds (taken p w).held w h ×
    IsSome (get p.state.tokens h.ticket)
take_gives p w h good l e = gives_held p good w h l e

pub take_branch_keeps : (p : Pool) (w : ℕ) → Good p → w < p.workers → Good (branch_taken p w)
take_branch_keeps p w good l = branch_keeps p good w l (own p.held w) refl (turn p w) refl

pub take_branch_gives : (p : Pool) (w : ℕ) (h : Held) → Good p → w < p.workers → branch_turn p w ≡ Token h →
    Holds (branch_taken p w).held w h × IsSome (get p.state.tokens h.ticket)
take_branch_gives p w h good l e = branch_held p good w h l e

pub take_idles : (p : Pool) (w : ℕ) → Good p → turn p w ≡ Idle → (v : ℕ) × (h : Held) × Holds p.held v h
take_idles p w good e = idle_holds p good w e

-- where all moves are set aside, some worker holds a ticket
pub take_reserves : (p : Pool) (w : ℕ) → Good p → turn p w ≡ Reserved → (v : ℕ) × (h : Held) × Holds p.held v h
take_reserves p w good q =
    let (going, room) = reserved_line p.stopped (slice_get p.held w) (is_ended p) (least_free p) (nat_eq (spent p) p.budget)
    (allowance (p.budget - spent p) p.workers) q in
    some_held p.held (go (none_held p.held) refl going room)
  where
    go : (b : Bool) → none_held p.held ≡ b → is_ended p ≡ false → nat_eq (spent p) p.budget ≡ true →
        none_held p.held ≡ false
    go false e g r = e
    go true e g r =
        let full = eqb-true (spent p) p.budget r in
        let none = none_aside p.held e in
        let made = eq-eqb (length p.log) p.budget (omega (arith, full, none)) in
        ended (is_some p.state.answered) (nat_eq (length p.log) p.budget) made e g
      where
        ended : (a m : Bool) → m ≡ true → none_held p.held ≡ true → (a || (m && none_held p.held)) ≡ false →
            none_held p.held ≡ false
        ended true m e f g = absurd cc
        ended false true e f g = g
        ended false false e f g = absurd cc

-- a ticket that is handed out is the worker's own, or the least free one where it has none
pub take_least : (p : Pool) (w : ℕ) (h : Held) → turn p w ≡ Token h → (own p.held w ≡ Some h) ⊎
    ((own p.held w ≡ None) × IsLeastFree p h.ticket)
take_least p w h q = ⊎_elim (λ o. inl (ap flat o)) (λ g. inr (⊎_elim (λ e. ap flat e) (λ e. ap flat e) g.own, least g.found))
    (lines p.stopped (slice_get p.held w) (is_ended p) (least_free p) (nat_eq (spent p) p.budget) (allowance (p.budget - spent p) p.workers)
    h q)
  where
    least : least_free p ≡ Some h.ticket → IsLeastFree p h.ticket
    least found =
        let (_, (x, f), below) = least_found (λ i. get (free p) i) p.state.next 0 h.ticket found in
        let (nobody, here) = free_live (is_held p.held h.ticket) (get p.state.tokens h.ticket) x
        (sym (free_at p.state.tokens p.held h.ticket) ∙ f) in
        record { live = subst IsSome (sym here) refl; unheld = nobody; below = λ j l. below j (omega arith) l }

module _ (p : Pool) where
  -- of two tickets, the first where it is free
  one_of : (i j : ℕ) → (free_or p.state p.held i j ≡ i) ⊎ ((free_or p.state p.held i j ≡ j) × IsFree p j)
  one_of i j = go (is_some (get p.state.tokens j) && not (is_held p.held j)) refl
    where
      go : (b : Bool) → (is_some (get p.state.tokens j) && not (is_held p.held j)) ≡ b →
          ((if b then j else i) ≡ i) ⊎ (((if b then j else i) ≡ j) × IsFree p j)
      go false q = inl refl
      go true q =
          let (live, nobody) = both_are (is_some (get p.state.tokens j)) (is_held p.held j) q in
          inr (refl, record { live = live; unheld = nobody })

  first_free : (i j : ℕ) → IsFree p j → free_or p.state p.held i j ≡ j
  first_free i j f =
      ap (λ b. if b && not (is_held p.held j) then j else i) f.live ∙ ap (λ b. if not b then j else i) f.unheld

  first_not : (i j : ℕ) → (IsFree p j → ⊥) → free_or p.state p.held i j ≡ i
  first_not i j d = ⊎_elim (λ e. e) (λ q. absurd (d q.1)) (one_of i j)

  -- which of the free tickets is chosen
  chosen : (w i : ℕ) → (own_first p.state p.held p.log p.workers w i ≡ i) ⊎
      (IsFree p (own_first p.state p.held p.log p.workers w i) × ((j : ℕ) × MovedLast p w j ×
      ((own_first p.state p.held p.log p.workers w i ≡ p.state.next - 1) ⊎ (own_first p.state p.held p.log p.workers w i ≡ j))))
  chosen w i = go (nat_lt p.workers 2) refl (last_by w p.log) refl
    where
      go : (b : Bool) → nat_lt p.workers 2 ≡ b → (o : Option ℕ) → last_by w p.log ≡ o →
          ((if b then i else newest_or p.state p.held i o) ≡ i) ⊎
          (IsFree p (if b then i else newest_or p.state p.held i o) × ((j : ℕ) × MovedLast p w j ×
          (((if b then i else newest_or p.state p.held i o) ≡ p.state.next - 1) ⊎ ((if b then i else newest_or p.state p.held i o) ≡ j))))
      go true e o m = inl refl
      go false e None m = inl refl
      go false e (Some j) m =
          let last : MovedLast p w j = record { many = not_fewer p.workers e; moved = m } in
          ⊎_elim
          (λ a. ⊎_elim (λ b. inl (a ∙ b)) (λ b. inr (subst (IsFree p) (sym (a ∙ b.0)) b.1, (j, last, inr (a ∙ b.0)))) (one_of i j))
          (λ a. inr (subst (IsFree p) (sym a.0) a.1, (j, last, inl a.0)))
          (one_of (free_or p.state p.held i j) (p.state.next - 1))

  chosen_as : (w i j : ℕ) → MovedLast p w j →
      own_first p.state p.held p.log p.workers w i ≡ free_or p.state p.held (free_or p.state p.held i j) (p.state.next - 1)
  chosen_as w i j l =
      ap (λ b. if b then i else newest_or p.state p.held i (last_by w p.log)) (no_fewer p.workers l.many) ∙
      ap (newest_or p.state p.held i) l.moved

module _ (p : Pool) (w : ℕ) (h : Held) where
  gives_own_at : (o : Option Held) → own p.held w ≡ o → (t : Reply) → turn p w ≡ t →
      (if is_some o then t else widened p (preferred p w t)) ≡ Token h →
      (own p.held w ≡ Some h) ⊎ ((own p.held w ≡ None) × (IsLeastFree p h.ticket ⊎ (IsFree p h.ticket × ((i : ℕ) × MovedLast p w i ×
      ((h.ticket ≡ p.state.next - 1) ⊎ (h.ticket ≡ i))))))
  gives_own_at (Some g) q t e r = ⊎_elim inl (λ k. inr (k.0, inl k.1)) (take_least p w h (e ∙ r))
  gives_own_at None q Stopped e r = absurd cc
  gives_own_at None q Ended e r = absurd cc
  gives_own_at None q Idle e r = absurd cc
  gives_own_at None q Reserved e r = absurd cc
  gives_own_at None q (Token k) e r =
      let i = own_first p.state p.held p.log p.workers w k.ticket in
      let s : for_branch p (record { ticket = i; allowance = k.allowance }) ≡ h = cc in
      let t : i ≡ h.ticket = ap (λ (h : Held). h.ticket) s in
      ⊎_elim (λ o. absurd cc)
      (λ l. inr (
        q,
        ⊎_elim (λ c. inl (subst (IsLeastFree p) (sym c ∙ t) l.1))
            (λ c. inr (subst (λ n. IsFree p n × ((i : ℕ) × MovedLast p w i × ((n ≡ p.state.next - 1) ⊎ (n ≡ i)))) t c))
            (chosen p w k.ticket),
      ))
      (take_least p w k e)

  -- the ticket is the one that is chosen
  given_at : (j : ℕ) → MovedLast p w j → own p.held w ≡ None → (o : Option Held) → own p.held w ≡ o → (t : Reply) → turn p w ≡ t →
      (if is_some o then t else widened p (preferred p w t)) ≡ Token h →
      (i : ℕ) × (h.ticket ≡ free_or p.state p.held (free_or p.state p.held i j) (p.state.next - 1))
  given_at j l n (Some g) q t e r = absurd cc
  given_at j l n None q Stopped e r = absurd cc
  given_at j l n None q Ended e r = absurd cc
  given_at j l n None q Idle e r = absurd cc
  given_at j l n None q Reserved e r = absurd cc
  given_at j l n None q (Token k) e r =
      let i = own_first p.state p.held p.log p.workers w k.ticket in
      let s : for_branch p (record { ticket = i; allowance = k.allowance }) ≡ h = cc in
      (k.ticket, sym (ap (λ (h : Held). h.ticket) s) ∙ chosen_as p w k.ticket j l)

-- what a worker that plays branches is given is what it held, or its own ticket or the least one, of those that are free
pub gives_own : (p : Pool) (w : ℕ) (h : Held) → branch_turn p w ≡ Token h →
    (own p.held w ≡ Some h) ⊎ ((own p.held w ≡ None) × (IsLeastFree p h.ticket ⊎ (IsFree p h.ticket × ((i : ℕ) × MovedLast p w i ×
    ((h.ticket ≡ p.state.next - 1) ⊎ (h.ticket ≡ i))))))
gives_own p w h e = gives_own_at p w h (own p.held w) refl (turn p w) refl e

pub gives_newest : (p : Pool) (w : ℕ) (h : Held) (j : ℕ) → branch_turn p w ≡ Token h → own p.held w ≡ None → MovedLast p w j →
    IsFree p (p.state.next - 1) → h.ticket ≡ p.state.next - 1
gives_newest p w h j e n l f =
    let (i, q) = given_at p w h j l n (own p.held w) refl (turn p w) refl e in
    q ∙ first_free p (free_or p.state p.held i j) (p.state.next - 1) f

pub gives_moved : (p : Pool) (w : ℕ) (h : Held) (j : ℕ) → branch_turn p w ≡ Token h → own p.held w ≡ None → MovedLast p w j →
    (IsFree p (p.state.next - 1) → ⊥) → IsFree p j → h.ticket ≡ j
gives_moved p w h j e n l d f =
    let (i, q) = given_at p w h j l n (own p.held w) refl (turn p w) refl e in
    q ∙ first_not p (free_or p.state p.held i j) (p.state.next - 1) d ∙ first_free p i j f
