-- What a good pool gives to the calls that it makes, and what they give to it.
use Rattle.std.proofs.Common.{◌≡◌, ◌<◌, ◌≤◌, ◌+◌, ◌^◌, ℕ, false, List, [], ◌++◌, length, replicate, set}
use Rattle.std.proofs.Common.{slice_get, Option, Some, None, sym, ap, ◌∙◌, subst, arith}
use Rattle.std.specs.Option.{IsSome}
use Rattle.std.specs.FinMap.{get, len}
use Rattle.pcf_values.specs.Most.{most_budget}
use Rattle.move_rules.specs.Walks.{Passage}
use Rattle.net_build.specs.Nets.{NetTree}
use Rattle.interleave_laws.specs.Start.{start_of}
use Rattle.interleave_laws.specs.Runs.{Runs}
use Rattle.interleave_laws.specs.Maps.{MapState, start_map, run_map}
use Rattle.interleave_laws.specs.MapRuns.{IsReachedWithin}
use Rattle.interleave_laws.proofs.MapLaws.{map_low}
use Rattle.interleave_laws.proofs.Going.{the_some}
use Rattle.schedule_log.specs.declared.entry.Entry.{Entry}
use Rattle.schedule_log.specs.Logs.{tickets_in_log}
use Rattle.schedule_log.proofs.Taken.{tickets_all}
use Rattle.token_pool.specs.declared.entries.Held.{Held}
use Rattle.token_pool.specs.declared.entries.Reply.{Reply}
use Rattle.token_pool.specs.declared.entries.Reply.TheVariants.{Stopped, Token, Ended, Idle, Reserved}
use Rattle.token_pool.specs.Pools.{Pool, InLimits, Good, Holds, allowances, count_held, none_held_by, started}
use Rattle.token_pool.specs.Codes.{pool}
use Rattle.token_pool.specs.Turns.{turn, held_after, flat, own, count_free}
use Rattle.token_pool.specs.Turns as turns
use Rattle.token_pool.specs.Pieces.{TellsLive, Hands}
use Rattle.token_pool.specs.declared.pieces.Taken.{Taken}
use Rattle.token_pool.specs.declared.pieces.Taken.TheVariants as taken
use Rattle.token_pool.specs.Branches.{HandsSeed, branch_turn, branch_taken}
use Rattle.token_pool.specs.declared.entries.Booked.TheVariants.{Done}
use Rattle.token_pool.specs.Booking.{moves_of, Moves, Books, BookedAs}
use Rattle.token_pool.proofs.Holding.{in_sum, sum_after_set}
use Rattle.token_pool.proofs.Moving.{book_keeps}
use Rattle.token_pool.proofs.Free.{counted}
use Rattle.token_pool.proofs.Starting.{start_good}
use Rattle.token_pool.proofs.Taking.{take_keeps, take_gives, take_branch_keeps, take_branch_gives}

module _ (p : Pool) (good : Good p) where
  pub low : (i : ℕ) → IsSome (get p.state.tokens i) → i < p.state.next
  low i h = let (x, e) = the_some (get p.state.tokens i) h in map_low p.net good.runs.sound (tickets_in_log p.log) p.state good.leads i x e

  -- where a move is left, the state may still step
  pub reached : length p.log < p.budget → IsReachedWithin p.net most_budget p.state
  reached l = let k = tickets_all p.log in let b = good.limits.few_moves in (tickets_in_log p.log, good.leads, omega (arith, k, l, b))

  -- each live token is free or held
  pub all_counted : len p.state.tokens ≡ count_free p + count_held p.held
  all_counted = counted p.state.tokens p.held good.live good.apart

-- what is set aside for all workers is a number of the code's
pub within_small : (p : Pool) → Good p → allowances p.held < 2 ^ 32
within_small p good = let i = good.within in let b = good.limits.few_moves in omega (arith, i, b)

-- a worker's number is one that a log has, and so is the finisher's
pub number_small : (p P : Pool) → Good p → p ≡ P → (w : ℕ) → w ≤ P.workers → w < 256
number_small p P good e w l = let b = good.limits.few_workers in let h = ap (λ (P : Pool). P.workers) e in omega (arith, b, h, l)

-- what a worker is told is live
pub told_live : (p P : Pool) (w : ℕ) (t : Reply) → Good p → p ≡ P → w < P.workers → t ≡ turn P w → TellsLive p.state t
told_live p P w t good e l h = go t (h ∙ ap (λ P. turn P w) (sym e))
  where
    go : (t : Reply) → t ≡ turn p w → TellsLive p.state t
    go Stopped h = tt
    go (Token k) h = (take_gives p w k good (subst (λ (P : Pool). w < P.workers) (sym e) l) (sym h)).1
    go Ended h = tt
    go Idle h = tt
    go Reserved h = tt

-- and a pool in which the worker holds it is good
pub told_good : (p P : Pool) (w : ℕ) (t : Reply) (held : List (Option Held)) → Good p → p ≡ P → w < P.workers →
    t ≡ turn P w → held ≡ held_after t p.held w → Good (record p { held = held })
told_good p P w t held good e l h s =
    let k : turns.taken p w ≡ record p { held = held } =
    ap (λ (h : List (Option Held)). record p { held = h }) (ap (λ t. held_after t p.held w) (ap (λ P. turn P w) e ∙ sym h) ∙
    sym s) in
    subst Good k (take_keeps p w good (subst (λ (P : Pool). w < P.workers) (sym e) l))

-- the same of a worker that plays branches
pub branch_told_live : (p P : Pool) (w : ℕ) (t : Reply) → Good p → p ≡ P → w < P.workers → t ≡ branch_turn P w → TellsLive p.state t
branch_told_live p P w t good e l h = go t (h ∙ ap (λ P. branch_turn P w) (sym e))
  where
    go : (t : Reply) → t ≡ branch_turn p w → TellsLive p.state t
    go Stopped h = tt
    go (Token k) h = (take_branch_gives p w k good (subst (λ (P : Pool). w < P.workers) (sym e) l) (sym h)).1
    go Ended h = tt
    go Idle h = tt
    go Reserved h = tt

pub branch_told_good : (p P : Pool) (w : ℕ) (t : Reply) (held : List (Option Held)) → Good p → p ≡ P → w < P.workers →
    t ≡ branch_turn P w → held ≡ held_after t p.held w → Good (record p { held = held })
branch_told_good p P w t held good e l h s =
    let k : branch_taken p w ≡ record p { held = held } =
    ap (λ (h : List (Option Held)). record p { held = h }) (ap (λ t. held_after t p.held w) (ap (λ P. branch_turn P w) e ∙ sym h) ∙
    sym s) in
    subst Good k (take_branch_keeps p w good (subst (λ (P : Pool). w < P.workers) (sym e) l))

-- what is handed out is a seed
pub hands_seed : (p P : Pool) (w : ℕ) (t : Reply) (r : Taken) → Good p → p ≡ P → w < P.workers → t ≡ branch_turn P w →
    Hands p.state t r → HandsSeed P.net r
hands_seed p P w t r good e l h hands = subst (λ (P : Pool). HandsSeed P.net r) e (go t r (h ∙ ap (λ P. branch_turn P w) (sym e)) hands)
  where
    place : w < p.workers
    place = subst (λ (P : Pool). w < P.workers) (sym e) l

    few : (h : Held) → Token h ≡ branch_turn p w → h.allowance ≤ most_budget
    few h q =
        let here = (take_branch_gives p w h good place (sym q)).0 in
        let s = in_sum (branch_taken p w).held w h here in
        let i = (take_branch_keeps p w good place).within in
        let b = good.limits.few_moves in
        omega (arith, s, i, b)

    go : (t : Reply) (r : Taken) → t ≡ branch_turn p w → Hands p.state t r → HandsSeed p.net r
    go (Token h) (taken.Token k) q is =
        let a = is.allowance in
        let f = few h q in ((tickets_in_log p.log, p.state, h.ticket, good.leads, is.token), omega (arith, a, f))
    go t taken.Idle q is = tt
    go t taken.Reserved q is = tt
    go t taken.Ended q is = tt
    go t taken.Stopped q is = tt
    go Stopped (taken.Token k) q is = absurd is
    go Ended (taken.Token k) q is = absurd is
    go Idle (taken.Token k) q is = absurd is
    go Reserved (taken.Token k) q is = absurd is

pub start_ready : (net : NetTree) (budget workers : ℕ) (S : MapState) (log : List Entry) (held : List (Option Held)) → Runs net →
    InLimits budget workers
    → S ≡ start_map (start_of net) → log ≡ [] → held ≡ none_held_by workers →
    Good (pool net budget workers S log held false)
start_ready net budget workers S log held runs limits f g h =
    let k : pool net budget workers S log held false ≡ started net budget workers =
    ap (λ S. pool net budget workers S log held false) f
    ∙ ap (λ l. pool net budget workers (start_map (start_of net)) l held false) g
    ∙ ap (λ h. pool net budget workers (start_map (start_of net)) [] h false) h in
    subst Good (sym k) (start_good net budget workers runs limits)

own_holds : (o : Option (Option Held)) (h : Held) → flat o ≡ Some h → o ≡ Some (Some h)
own_holds None h e = cc
own_holds (Some o) h e = ap Some e

module _ (p : Pool) (good : Good p) (w : ℕ) (h : Held) (owned : own p.held w ≡ Some h) where
  pub holds : Holds p.held w h
  holds = own_holds (slice_get p.held w) h owned

  -- what is booked fits into the log
  pub fits : (n : ℕ) → n ≤ h.allowance → length p.log + n ≤ p.budget
  fits n l = let s = in_sum p.held w h holds in let i = good.within in omega (arith, s, i, l)

  pub still_reached : IsReachedWithin p.net most_budget p.state
  still_reached = reached p good (let f = fits 1 (good.allowed w h holds) in omega (arith, f))

  -- no more are set aside than a run may have moves
  pub few_aside : h.allowance ≤ most_budget
  few_aside = let s = in_sum p.held w h holds in let i = good.within in let b = good.limits.few_moves in omega (arith, s, i, b)

  pub some_aside : 1 ≤ h.allowance
  some_aside = good.allowed w h holds

  -- less is set aside for all where it lets go
  pub let_go_small : allowances (set p.held w None) < 2 ^ 32
  let_go_small = let s = sum_after_set p.held w (Some h) None holds in let i = within_small p good in omega (arith, s, i)

  module _ (n : ℕ) (S : MapState) (log : List Entry) (held : List (Option Held))
      (made : run_map p.net p.state (replicate n h.ticket) ≡ Some S) (e : log ≡ p.log ++
      moves_of n h.ticket w) (f : held ≡ set p.held w None) where
    pub books : Books p (record p { state = S; log = log; held = held }) w h n
    books = record {
      steps = made;
      rest = ap (λ l. record p { state = S; log = l; held = held }) e ∙
          ap (λ k. record p { state = S; log = p.log ++ moves_of n h.ticket w; held = k }) f;
    }

    pub still_good : (P : Pool) → p ≡ P → w < P.workers → 1 ≤ n → n ≤ h.allowance →
        Good (record p { state = S; log = log; held = held })
    still_good P q l some few =
        book_keeps p (record p { state = S; log = log; held = held }) w h n good holds (subst (λ (P : Pool). w < P.workers) (sym q) l) some
        few books

    pub booked_as : (P : Pool) (m : Passage) (k : ℕ) → p ≡ P → k ≡ length p.log → Moves p.net p.state h m n →
        BookedAs P (record p { state = S; log = log; held = held }) w m (Done k)
    booked_as P m k q c moves = subst (λ P. BookedAs P (record p { state = S; log = log; held = held }) w m (Done k)) q (
      h,
      n,
      holds,
      c,
      moves,
      books,
    )
