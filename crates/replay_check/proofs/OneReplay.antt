-- What a list of tickets comes to is one thing: what its tickets tell, one after the other.
use Rattle.std.proofs.Common.{◌≡◌, ℕ, suc, ◌+◌, List, [], ◌∷◌, ◌++◌, append_assoc, length, Option, Some, None, Ok}
use Rattle.std.proofs.Common.{Err, refl, sym, ap, ◌∙◌, subst, arith}
use Rattle.std.specs.Prelude.{Result}
use Rattle.std.specs.FinMap.{get}
use Rattle.pcf_values.specs.declared.val.Val.{Val}
use Rattle.net_build.specs.Nets.{NetTree}
use Rattle.move_rules.specs.Places.{TokenTree}
use Rattle.interleave_laws.specs.Start.{start_of}
use Rattle.interleave_laws.specs.States.{State}
use Rattle.interleave_laws.specs.Runs.{Runs, LeadsTo}
use Rattle.interleave_laws.specs.Maps.{MapState, start_map, step_map, step_map_on, run_map, then_run_map, LeadsToMap, seen}
use Rattle.interleave_laws.proofs.MapLaws.{leads_seen, seen_leads, map_step}
use Rattle.replay_check.specs.declared.fault.ReplayFault.{ReplayFault}
use Rattle.replay_check.specs.declared.fault.ReplayFault.TheVariants.{NoMemory, NotLive, AfterAnswer}
use Rattle.replay_check.specs.declared.replayed.Replayed.{Replayed}
use Rattle.replay_check.specs.Replays.{IsRunOf, fault_at, StopsWith, ReplaysAs}
use Rattle.replay_check.specs.Laws.{IsReplayOfRun, RunsTo}

-- go on behind the move of a ticket at a place, or stop there
abbrev on_step : Option MapState → MapState → ℕ → ℕ → (MapState → Result Replayed ReplayFault) → Result Replayed ReplayFault
on_step None S n t f = Err (fault_at S.answered n t)
on_step (Some T) S n t f = f T

-- what the tickets from place n on come to, in a state
abbrev told_from : NetTree → MapState → ℕ → List ℕ → Result Replayed ReplayFault
told_from net S n [] = Ok (record { answer = S.answered; moves = n })
told_from net S n (t ∷ ts) = on_step (step_map net S t) S n t (λ T. told_from net T (suc n) ts)

-- A list that runs tells its run.
run_told : (net : NetTree) (S T : MapState) (n : ℕ) (ts : List ℕ) → run_map net S ts ≡ Some T →
    told_from net S n ts ≡ Ok (record { answer = T.answered; moves = n + length ts })
run_told net S T n [] h =
    let e : S ≡ T = cc in
    let m : n ≡ n + 0 = omega arith in
    λ i. Ok (record { answer = (e i).answered; moves = m i })
run_told net S T n (t ∷ ts) h = go (step_map net S t) (λ V. run_told net V T (suc n) ts) h
  where
    go : (o : Option MapState) → ((V : MapState) → run_map net V ts ≡ Some T →
        told_from net V (suc n) ts ≡ Ok (record { answer = T.answered; moves = suc n + length ts })) →
        then_run_map o (λ V. run_map net V ts) ≡ Some T → on_step o S n t (λ V. told_from net V (suc n) ts) ≡ Ok
        (record { answer = T.answered; moves = n + suc (length ts) })
    go None f h = cc
    go (Some V) f h = let m : suc n + length ts ≡ n + suc (length ts) = omega arith in f V h
        ∙ (λ i. Ok (record { answer = T.answered; moves = m i }))

-- A ticket that has no token has no step.
pub dead_stops : (net : NetTree) (S : MapState) (t : ℕ) → get S.tokens t ≡ None → step_map net S t ≡ None
dead_stops net S t e = ap (λ x. step_map_on net x S t) e

-- A list that stops tells its fault.
stop_told : (net : NetTree) (S T : MapState) (n t : ℕ) (before rest : List ℕ) → run_map net S before ≡ Some T →
    get T.tokens t ≡ None →
    told_from net S n (before ++ t ∷ rest) ≡ Err (fault_at T.answered (n + length before) t)
stop_told net S T n t [] rest h d =
    let e : S ≡ T = cc in
    let m : n ≡ n + 0 = omega arith in
    ap (λ o. on_step o S n t (λ V. told_from net V (suc n) rest)) (dead_stops net S t (ap (λ (S : MapState). get S.tokens t) e ∙ d))
    ∙ (λ i. Err (fault_at (e i).answered (m i) t))
stop_told net S T n t (u ∷ before) rest h d = go (step_map net S u) (λ V k. stop_told net V T (suc n) t before rest k d) h
  where
    go : (o : Option MapState) → ((V : MapState) → run_map net V before ≡ Some T →
        told_from net V (suc n) (before ++ t ∷ rest) ≡ Err (fault_at T.answered (suc n + length before) t)) →
        then_run_map o (λ V. run_map net V before) ≡ Some T →
        on_step o S n u (λ V. told_from net V (suc n) (before ++ t ∷ rest)) ≡ Err
        (fault_at T.answered (n + suc (length before)) t)
    go None f h = cc
    go (Some V) f h = let m : suc n + length before ≡ n + suc (length before) = omega arith in f V h
        ∙ (λ i. Err (fault_at T.answered (m i) t))

-- what the whole list comes to
abbrev told : NetTree → List ℕ → Result Replayed ReplayFault
told net ts = told_from net (start_map (start_of net)) 0 ts

run_is : (net : NetTree) (ts : List ℕ) (r : Replayed) → IsRunOf net ts r → told net ts ≡ Ok r
run_is net ts r x =
    let m : 0 + length ts ≡ r.moves = omega (arith, x.moves) in
    run_told net (start_map (start_of net)) x.state 0 ts x.led ∙ (λ i. Ok (record { answer = sym x.answer i; moves = m i }))

stop_is : (net : NetTree) (ts : List ℕ) (f : ReplayFault) → StopsWith net ts f → told net ts ≡ Err f
stop_is net ts f x =
    let m : 0 + length x.before ≡ length x.before = omega arith in
    ap (told net) x.are ∙ stop_told net (start_map (start_of net)) x.state 0 x.ticket x.before x.rest x.led x.dead
    ∙ (λ i. Err (fault_at x.state.answered (m i) x.ticket)) ∙ (λ i. Err (sym x.fault i))

-- What a list comes to is what it tells.
told_is : (net : NetTree) (ts : List ℕ) (r : Result Replayed ReplayFault) → (r ≡ Err NoMemory → ⊥) → ReplaysAs net ts r →
    told net ts ≡ r
told_is net ts (Ok r) q x = run_is net ts r x
told_is net ts (Err NoMemory) q x = absurd (q refl)
told_is net ts (Err (NotLive p t)) q x = stop_is net ts (NotLive p t) x
told_is net ts (Err (AfterAnswer p)) q x = stop_is net ts (AfterAnswer p) x

-- A list comes to one thing at most.
pub one_replay : (net : NetTree) (ts : List ℕ) (r s : Result Replayed ReplayFault) → (r ≡ Err NoMemory → ⊥) →
    (s ≡ Err NoMemory → ⊥) →
    ReplaysAs net ts r → ReplaysAs net ts s → r ≡ s
one_replay net ts r s p q x y = sym (told_is net ts r p x) ∙ told_is net ts s q y

-- A list that stops with a fault comes to it.
pub stops_as : (net : NetTree) (ts : List ℕ) (f : ReplayFault) → StopsWith net ts f → ReplaysAs net ts (Err f)
stops_as net ts NoMemory x = tt
stops_as net ts (NotLive p t) x = x
stops_as net ts (AfterAnswer p) x = x

-- The fault of a ticket is no want of memory.
fault_is : (a : Option Val) (p t : ℕ) → (let r : Result Replayed ReplayFault = Err (fault_at a p t) in r ≡ Err NoMemory) → ⊥
fault_is None p t h = cc
fault_is (Some v) p t h = cc

ok_is : (r : Replayed) → (let s : Result Replayed ReplayFault = Ok r in s ≡ Err NoMemory) → ⊥
ok_is r h = cc

-- Runs, one after the other.
pub run_parts : (net : NetTree) (S : MapState) (before rest : List ℕ) →
    run_map net S (before ++ rest) ≡ then_run_map (run_map net S before) (λ T. run_map net T rest)
run_parts net S [] rest = refl
run_parts net S (t ∷ before) rest = go (step_map net S t) (λ V. run_parts net V before rest)
  where
    go : (o : Option MapState) → ((V : MapState) → run_map net V (before ++ rest) ≡ then_run_map (run_map net V before)
        (λ T. run_map net T rest)) →
        then_run_map o (λ V. run_map net V (before ++ rest)) ≡ then_run_map (then_run_map o (λ V. run_map net V before))
        (λ T. run_map net T rest)
    go None f = refl
    go (Some V) f = f V

-- A list that leads to a state, and one more ticket that steps from there.
pub one_more : (net : NetTree) (before : List ℕ) (t : ℕ) (S T : MapState) → LeadsToMap net before S →
    step_map net S t ≡ Some T →
    LeadsToMap net (before ++ t ∷ []) T
one_more net before t S T h e =
    run_parts net (start_map (start_of net)) before (t ∷ [])
    ∙ ap (λ o. then_run_map o (λ V. run_map net V (t ∷ []))) h
    ∙ ap (λ o. then_run_map o (λ V. run_map net V [])) e

-- what a list comes to, other than want of memory
abbrev Comes : NetTree → List ℕ → Type 0
Comes net ts = (r : Result Replayed ReplayFault) × (r ≡ Err NoMemory → ⊥) × ReplaysAs net ts r

append_none : (ts : List ℕ) → ts ++ [] ≡ ts
append_none [] = refl
append_none (t ∷ ts) = ap (λ ts. t ∷ ts) (append_none ts)

-- Behind tickets that lead to a state, each list comes to something.
comes_from : (net : NetTree) (runs : Runs net) (before : List ℕ) (S : MapState) → LeadsToMap net before S → (ts : List ℕ) →
    Comes net (before ++ ts)
comes_from net runs before S h [] =
    let r : Replayed = record { answer = S.answered; moves = length before } in
    subst (Comes net) (sym (append_none before)) (Ok r, ok_is r, record { state = S; led = h; answer = refl; moves = refl })
comes_from net runs before S h (t ∷ ts) =
    go (get S.tokens t) refl (λ T e. comes_from net runs (before ++ t ∷ []) T (one_more net before t S T h e) ts)
  where
    go : (o : Option TokenTree) → get S.tokens t ≡ o → ((T : MapState) → step_map net S t ≡ Some T →
        Comes net ((before ++ t ∷ []) ++ ts)) → Comes net (before ++ t ∷ ts)
    go None d f =
        let a = fault_at S.answered (length before) t in (
          Err a,
          fault_is S.answered (length before) t,
          stops_as net (before ++ t ∷ ts) a
              (record { before = before; ticket = t; rest = ts; are = refl; state = S; led = h; dead = d; fault = refl }),
        )
    go (Some x) d f = let (T, e) = map_step net runs before S h t x d in subst (Comes net) (append_assoc before (t ∷ []) ts) (f T e)

-- Each list comes to something.
pub each_list : (net : NetTree) → Runs net → (ts : List ℕ) → Comes net ts
each_list net runs ts = comes_from net runs [] (start_map (start_of net)) refl ts

-- The replay of a list that runs is its run.
pub run_is_replayed : (net : NetTree) (ts : List ℕ) (S : State) → LeadsTo net ts S → IsReplayOfRun net ts S
run_is_replayed net ts S h =
    let (T, g, e) = leads_seen net ts S h in
    let a : T.answered ≡ S.answered = ap (λ (S : State). S.answered) e in
    let m : 0 + length ts ≡ length ts = omega arith in
    record {
      is = λ r p q. record { state = T; led = g; answer = p ∙ sym a; moves = q };
      only = λ r p x. sym (told_is net ts r p x) ∙ run_told net (start_map (start_of net)) T 0 ts g
          ∙ (λ i. Ok (record { answer = a i; moves = m i }));
    }

-- A list that is replayed runs.
pub replay_is_run : (net : NetTree) (ts : List ℕ) (r : Replayed) → IsRunOf net ts r → RunsTo net ts r
replay_is_run net ts r x = (seen x.state, seen_leads net ts x.state x.led, x.answer, x.moves)
