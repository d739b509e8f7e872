-- Rounds and schedules against the span.
-- Before round k each live token has rank k, and no rank is greater than the rounds of the start's question; so the answer comes in the
-- round after those. Any other schedule raises no rank faster, and raises the least whenever no live ticket is left out.
use Rattle.std.proofs.Common.{◌≡◌, ◌↔◌, ℕ, zero, suc, ◌+◌, ◌-◌, ◌*◌, ◌≤◌, List, [], ◌∷◌, ◌++◌, length, Option, Some, None}
use Rattle.std.proofs.Common.{refl, sym, ap, ◌∙◌, subst, ⊎_elim, arith}
use Rattle.std.proofs.lemmas.List.{length-append}
use Rattle.std.proofs.lemmas.Nat.{mul-le}
use Rattle.std.proofs.lemmas.Option.{same_Some}
use Rattle.pcf_values.specs.declared.val.Val.{Val}
use Rattle.net_build.specs.Nets.{NetTree}
use Rattle.move_rules.specs.Places.{turned, TokenTree, ask, ans}
use Rattle.interleave_laws.specs.Start.{start_of}
use Rattle.interleave_laws.specs.States.{State, start, run}
use Rattle.interleave_laws.specs.Runs.{Runs, LeadsTo}
use Rattle.interleave_laws.specs.OneWorker.{one}
use Rattle.interleave_laws.proofs.OneWorker.{one_leads, one_finished}
use Rattle.adequacy_laws.specs.Questions.{in_turn, side_by_side, Length, Span}
use Rattle.adequacy_laws.proofs.Counting.{once, one_count, IsBelow, counts_rise}
use Rattle.adequacy_laws.proofs.Agreeing.{agrees}
use Rattle.round_laws.specs.Rounds.{live_of, round_log}
use Rattle.round_laws.specs.AfterRounds.{rounds}
use Rattle.round_laws.specs.Units.{InState, AreUnits, joined, AnyUnit, NoneIdle, IsSchedule, LeavesNoneIdle}
use Rattle.round_laws.proofs.Rounding.{live_whole, rounds_lead, rounds_led, rounds_before, some_live, some_member}
use Rattle.round_laws.proofs.Rounding.{unanswered_before}
use Rattle.round_laws.proofs.Rounding.{run_both}
use Rattle.round_laws.proofs.Begins.{Takes, within_span}
use Rattle.round_laws.proofs.Ranks.{Ranks}
use Rattle.round_laws.proofs.Timed.{Timed, Between, unit_timed, timed_more, start_timed}
use Rattle.interleave_laws.proofs.Running.{run_on}
use Rattle.interleave_laws.proofs.Reached.{from_run}

-- a net's span, by its start's question
span_takes : (net : NetTree) (v : Val) (n : ℕ) → Span net v n → (m : ℕ) × Takes net (start_of net) v m × (n ≡ suc m)
span_takes net v n (k, m, h, e) = (m, (k, h), e)

takes_span : (net : NetTree) (v : Val) (m : ℕ) → Takes net (start_of net) v m → Span net v (suc m)
takes_span net v m (k, h) = (k, m, h, refl)

module _ (net : NetTree) (runs : Runs net) where
  -- a rank is within the rounds of the start's question
  rank_within : (x : TokenTree) (n : ℕ) → Ranks net x n → (u : Val) (s : ℕ) → Takes net (start_of net) u s → n ≤ s
  rank_within (ask p) n b u s t = let (v, m, _, l) = within_span net runs.sound p n b u s t in omega arith
  rank_within (ans w q) n (b, d, g, y, e) u s t =
      let (v, m, z, l) = within_span net runs.sound (turned q) b g u s t in
      let same = (once side_by_side net (turned q) w v d m y z).1 in
      omega arith

  -- before each round all live tokens have its number as their rank
  pub rounds_timed : (k : ℕ) (S : State) → rounds net k ≡ Some S → Timed net S k k (Between k k)
  rounds_timed zero S h = subst (λ S. Timed net S 0 0 (Between 0 0)) (same_Some _ S h) (start_timed net)
  rounds_timed (suc k) T h =
      let (S, r, g, b) = rounds_before net runs k T h in
      let led = rounds_led net k S r in
      let (u, w) = live_whole net runs.sound (round_log net k) S led in
      timed_more net T (suc k) (suc k) (suc k) (suc k) _ (Between (suc k) (suc k)) runs.sound (omega arith) (omega arith)
      (λ j n (a, b, c). (c tt, b))
      (unit_timed net runs (Unit {0}) k k (live_of S) (round_log net k) S T led u (λ c. w) (rounds_timed k S r) g)

  -- so many rounds have answered exactly where the span is at most so many
  pub answered_span : (k : ℕ) (S : State) → rounds net k ≡ Some S → (v : Val) → S.answered ≡ Some v → (n : ℕ) × Span net v n × (n ≤ k)
  answered_span k S h v e =
      let t = rounds_timed k S h in
      let (n, y, l) = t.answered v e in
      (suc n, takes_span net v n y, omega arith)

  pub span_answered : (k : ℕ) (S : State) → rounds net k ≡ Some S → (v : Val) (n : ℕ) → Span net v n → n ≤ k → S.answered ≡ Some v
  span_answered k S h v n s l = go S.answered refl
    where
      go : (o : Option Val) → S.answered ≡ o → S.answered ≡ Some v
      go None e =
          let (m, y, z) = span_takes net v n s in
          let (i, (x, live)) = some_live net runs (round_log net k) S (rounds_led net k S h) e in
          let t = rounds_timed k S h in
          let (r, ranks, (low, high)) = t.tokens i x live in
          let most = rank_within x r ranks v m y in
          absurd (omega arith)
      go (Some w) e =
          let (m, y, z) = span_takes net v n s in
          let t = rounds_timed k S h in
          let (m', y', _) = t.answered w e in
          e ∙ ap Some (once side_by_side net (start_of net) w v m' m y' y).0

  pub rounds_tell : (k : ℕ) (S : State) → rounds net k ≡ Some S → (v : Val) → (S.answered ≡ Some v) ↔ ((n : ℕ) × Span net v n × (n ≤ k))
  rounds_tell k S h v = (answered_span k S h v, λ (n, s, l). span_answered k S h v n s l)

-- rounds at once are no more than moves in turn
at_once : IsBelow side_by_side in_turn
at_once a b c d l m = omega arith

-- a span and a length are there together, and the span is at most the length
pub span_there : (net : NetTree) (v : Val) → ((n : ℕ) × Span net v n) ↔ ((m : ℕ) × Length net v m)
span_there net v = (
  λ (n, s). let (m, l, _) = counts_rise side_by_side in_turn net v n s in (m, l),
  λ (m, l). let (n, s, _) = counts_rise in_turn side_by_side net v m l in (n, s),
)

pub span_at_most : (net : NetTree) (v w : Val) (n m : ℕ) → Span net v n → Length net w m → n ≤ m
span_at_most net v w n m s l =
    let (k, l', le) = counts_rise side_by_side in_turn net v n s in
    let same = (one_count in_turn net v w k m l' l).1 in
    let less = le at_once in
    omega (arith, same, less)

-- p times one more
pub mul_suc : (p m : ℕ) → p * suc m ≡ p + p * m
mul_suc p m = grind arith

-- one more times p
mul_more : (k p : ℕ) → suc k * p ≡ p + k * p
mul_more k p = grind arith

-- where no more than p tokens are live before any round, k rounds have at most k times p moves
log_at_most : (net : NetTree) → Runs net → (p : ℕ) → ((k : ℕ) (S : State) → rounds net k ≡ Some S → length (live_of S) ≤ p) →
    (k : ℕ) → length (round_log net k) ≤ k * p
log_at_most net runs p w zero = omega arith
log_at_most net runs p w (suc k) =
    let (T, r, _) = rounds_lead net runs (suc k) in
    let (S, q, g, b) = rounds_before net runs k T r in
    let ih = log_at_most net runs p w k in
    let most = w k S q in
    let long = ap length b ∙ length-append (round_log net k) (live_of S) in
    let m = mul_more k p in
    omega (arith, ih, most, long, m)

-- so the length is at most the span times p
pub span_at_least : (net : NetTree) → Runs net → (v w : Val) (n m p : ℕ) → Span net v n → Length net w m →
    ((k : ℕ) (S : State) → rounds net k ≡ Some S → length (live_of S) ≤ p) → m ≤ n * p
span_at_least net runs v w n m p s l most =
    let (S, r, led) = rounds_lead net runs n in
    let e = span_answered net runs n S r v n s (omega arith) in
    let long = ((agrees net runs.sound (round_log net n) S led).answers v).0 e in
    let same = (one_count in_turn net v w (length (round_log net n)) m long l).1 in
    let le = log_at_most net runs p most n in
    omega (arith, same, le)

-- the one worker and rounds
module _ (net : NetTree) (runs : Runs net) where
  -- where some log answers, the one worker does within as many moves
  one_too : (log : List ℕ) (S : State) → LeadsTo net log S → (v : Val) → S.answered ≡ Some v →
      (b : ℕ) × (T : State) × LeadsTo net (one net b) T × (T.answered ≡ Some v)
  one_too log S h v e = go T.answered refl
    where
      b : ℕ
      b = length log

      led : (T : State) × LeadsTo net (one net b) T
      led = one_leads net runs b

      T : State
      T = led.0

      long : Length net v b
      long = ((agrees net runs.sound log S h).answers v).0 e

      go : (o : Option Val) → T.answered ≡ o → (b : ℕ) × (T : State) × LeadsTo net (one net b) T × (T.answered ≡ Some v)
      go None g =
          let full = (one_finished net runs b T led.1).1 g in
          let g' = ((agrees net runs.sound (one net b) T led.1).answers v).1 (subst (Length net v) (sym full) long) in
          let bad : None ≡ Some v = sym g ∙ g' in absurd cc
      go (Some w) g =
          let l = ((agrees net runs.sound (one net b) T led.1).answers w).0 g in
          let same = (one_count in_turn net v w b (length (one net b)) long l).0 in
          (b, T, led.1, g ∙ ap Some (sym same))

  pub rounds_answer : (v : Val) → ((k : ℕ) × (S : State) × (rounds net k ≡ Some S) × (S.answered ≡ Some v)) ↔
      ((b : ℕ) × (S : State) × LeadsTo net (one net b) S × (S.answered ≡ Some v))
  rounds_answer v = (
    λ (k, S, r, e). one_too (round_log net k) S (rounds_led net k S r) v e,
    λ (b, S, h, e).
        let l = ((agrees net runs.sound (one net b) S h).answers v).0 e in
        let (n, s) = (span_there net v).1 (length (one net b), l) in
        let (T, r, _) = rounds_lead net runs n in
        (n, T, r, span_answered net runs n T r v n s (omega arith)),
  )

  pub rounds_as_long : (k b : ℕ) (S T : State) → rounds net k ≡ Some S → LeadsTo net (one net b) T → (v w : Val) →
      S.answered ≡ Some v → T.answered ≡ Some w → (v ≡ w) × (length (round_log net k) ≡ length (one net b))
  rounds_as_long k b S T r h v w e g =
      let l = ((agrees net runs.sound (round_log net k) S (rounds_led net k S r)).answers v).0 e in
      let l' = ((agrees net runs.sound (one net b) T h).answers w).0 g in
      one_count in_turn net v w (length (round_log net k)) (length (one net b)) l l'

  -- schedules
  pub in_state : (o : Option State) (P : State → Type 0) (T : State) → o ≡ Some T → InState o P → P T
  in_state None P T e h = absurd cc
  in_state (Some S) P T e h = subst P (same_Some S T e) h

  units_timed : (ls : List (List ℕ)) (log : List ℕ) (S T : State) (k : ℕ) → LeadsTo net log S → AreUnits AnyUnit net S ls →
      Timed net S k k (Between 0 k) → run net S (joined ls) ≡ Some T → Timed net T (k + length ls) (k + length ls)
      (Between 0 (k + length ls))
  units_timed [] log S T k h u t r =
      let z : k ≡ k + 0 = omega arith in
      subst (λ k. Timed net T k k (Between 0 k)) z (subst (λ S. Timed net S k k (Between 0 k)) (same_Some S T r) t)
  units_timed (l ∷ ls) log S T k h (u, _, rest) t r =
      let (S1, s, r1) = from_run (run net S l) (λ S. run net S (joined ls)) T (sym (run_both net l (joined ls) S) ∙ r) in
      let t1 = timed_more net S1 (suc k) (suc k) (suc k) (suc k) _ (Between 0 (suc k)) runs.sound (omega arith) (omega arith)
      (λ j n (a, b, c). (a, b)) (unit_timed net runs ⊥ 0 k l log S S1 h u (λ c. absurd c) t s) in
      let z : suc k + length ls ≡ k + suc (length ls) = omega arith in
      subst (λ k. Timed net T k k (Between 0 k)) z
      (units_timed ls (log ++ l) S1 T (suc k) (run_on net log l _ S S1 h s) (in_state (run net S l) _ S1 s rest) t1 r1)

  pub no_faster : (ls : List (List ℕ)) → IsSchedule net ls → (S : State) → LeadsTo net (joined ls) S → (v : Val) →
      S.answered ≡ Some v → (n : ℕ) × Span net v n × (n ≤ length ls)
  no_faster ls u S h v e =
      let t = units_timed ls [] (start (start_of net)) S 0 refl u (start_timed net) h in
      let (n, y, l) = t.answered v e in
      (suc n, takes_span net v n y, omega arith)

  -- the state that units lead to, by its least rank: one of p = q + 1 processors stands still in a unit that leaves none out, and such a
  -- unit has a move and raises the least rank. So p times the units, less q times what the least rank has risen, is at most the moves
  abbrev Risen : ℕ → ℕ → List (List ℕ) → ℕ → State → ℕ → Type 0
  Risen p q ls lo T k = (top : ℕ) × Timed net T (k + length ls) (k + length ls) (Between top (k + length ls)) ×
      (p * length ls + q * lo ≤ length (joined ls) + q * top)

  busy_timed : (p q : ℕ) → suc q ≡ p → (ls : List (List ℕ)) (log : List ℕ) (S T : State) (k lo : ℕ) → LeadsTo net log S →
      AreUnits (NoneIdle p) net S ls → Timed net S k k (Between lo k) → run net S (joined ls) ≡ Some T → T.answered ≡ None →
      Risen p q ls lo T k
  busy_timed p q e [] log S T k lo h u t r none =
      let z : k ≡ k + 0 = omega arith in (
        lo,
        subst (λ k. Timed net T k k (Between lo k)) z (subst (λ S. Timed net S k k (Between lo k)) (same_Some S T r) t),
        nothing p q lo,
      )
    where
      nothing : (p q lo : ℕ) → p * 0 + q * lo ≤ 0 + q * lo
      nothing p q lo = grind arith
  busy_timed p q e (l ∷ ls) log S T k lo h (u, busy, rest) t r none =
      let (S1, s, r1) = from_run (run net S l) (λ S. run net S (joined ls)) T (sym (run_both net l (joined ls) S) ∙ r) in
      let led1 = run_on net log l _ S S1 h s in
      let rest1 = in_state (run net S l) _ S1 s rest in
      ⊎_elim
      (λ w.
      let t1 = timed_more net S1 (suc k) (suc k) (suc k) (suc k) _ (Between (suc lo) (suc k)) runs.sound (omega arith) (omega arith)
      (λ j n (a, b, c). (c tt, b)) (unit_timed net runs (Unit {0}) lo k l log S S1 h u (λ c. w) t s) in
      let (i, live) = some_live net runs log S h (unanswered_before net runs log (joined (l ∷ ls)) S T h r none) in
      whole (some_member l i (w i live)) (busy_timed p q e ls (log ++ l) S1 T (suc k) (suc lo) led1 rest1 t1 r1 none))
      (λ w.
      let t1 = timed_more net S1 (suc k) (suc k) (suc k) (suc k) _ (Between lo (suc k)) runs.sound (omega arith) (omega arith)
      (λ j n (a, b, c). (a, b)) (unit_timed net runs ⊥ lo k l log S S1 h u (λ c. absurd c) t s) in
      full w (busy_timed p q e ls (log ++ l) S1 T (suc k) lo led1 rest1 t1 r1 none)) busy
    where
      z : suc k + length ls ≡ k + suc (length ls)
      z = omega arith

      whole : 1 ≤ length l → Risen p q ls (suc lo) T (suc k) → Risen p q (l ∷ ls) lo T k
      whole one (top, t, le) =
          let a = mul_suc p (length ls) in
          let b = mul_suc q lo in
          let c = length-append l (joined ls) in
          (top, subst (λ k. Timed net T k k (Between top k)) z t, omega (arith, a, b, c, le, one, e))

      full : p ≤ length l → Risen p q ls lo T (suc k) → Risen p q (l ∷ ls) lo T k
      full w (top, t, le) =
          let a = mul_suc p (length ls) in
          let c = length-append l (joined ls) in
          (top, subst (λ k. Timed net T k k (Between top k)) z t, omega (arith, a, c, le, w))

  -- at the end the least rank is that of a live token, and so within the span
  nearly_by : (v : Val) (n : ℕ) → Span net v n → (p q : ℕ) → suc q ≡ p → (ls : List (List ℕ)) → LeavesNoneIdle p net ls →
      (S : State) → LeadsTo net (joined ls) S → S.answered ≡ None → p * suc (length ls) ≤ suc (length (joined ls)) + q * n
  nearly_by v n s p q e ls u S h none =
      let (m, y, d) = span_takes net v n s in
      let (top, t, le) = busy_timed p q e ls [] (start (start_of net)) S 0 0 refl u (start_timed net) h none in
      let (i, (x, live)) = some_live net runs (joined ls) S h none in
      let (r, ranks, (low, high)) = t.tokens i x live in
      let most = rank_within net runs x r ranks v m y in
      let a = mul_suc p (length ls) in
      let b = mul_suc q m in
      let c = mul-le q top q m (omega arith) (omega (arith, low, most)) in
      let f = ap (λ n. q * n) d in
      let o = mul_zero q in
      omega (arith, a, b, c, f, le, o, e)
    where
      mul_zero : (p : ℕ) → p * 0 ≡ 0
      mul_zero p = grind arith

  pub nearly_as_fast : (v : Val) (n : ℕ) → Span net v n → (p : ℕ) → 1 ≤ p → (ls : List (List ℕ)) → LeavesNoneIdle p net ls →
      (S : State) → LeadsTo net (joined ls) S → S.answered ≡ None → p * suc (length ls) ≤ suc (length (joined ls)) + (p - 1) * n
  nearly_as_fast v n s p some ls u S h none = nearly_by v n s p (p - 1) (omega (arith, some)) ls u S h none
