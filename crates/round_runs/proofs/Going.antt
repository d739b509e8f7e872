-- Rounds, one after the other.
use Rattle.std.proofs.Common.{◌≡◌, ℕ, zero, suc, ◌<◌, ◌≤◌, ◌+◌, ◌-◌, List, [], ◌∷◌, ◌++◌, length, Option, Some, None, refl, sym}
use Rattle.std.proofs.Common.{ap, ◌∙◌, subst, ⊎_elim, arith}
use Rattle.std.proofs.lemmas.Bool.{cases_eq}
use Rattle.std.proofs.lemmas.List.{length-append, map-append}
use Rattle.std.specs.Prelude.{max, map}
use Rattle.std.specs.FinMap.{get, len}
use Rattle.std.proofs.lemmas.Option.{same_Some}
use Rattle.pcf_values.specs.declared.val.Val.{Val}
use Rattle.net_build.specs.Nets.{NetTree}
use Rattle.move_rules.specs.Places.{TokenTree}
use Rattle.interleave_laws.specs.Start.{start_of}
use Rattle.interleave_laws.specs.States.{State, start, then_run, run}
use Rattle.interleave_laws.specs.Runs.{Runs}
use Rattle.interleave_laws.specs.Maps.{MapState, start_map, run_map, seen}
use Rattle.interleave_laws.specs.MapRuns.{option_seen}
use Rattle.interleave_laws.proofs.Seen.{start_seen, run_seen}
use Rattle.interleave_laws.proofs.MapLaws.{run_both, seen_leads, map_low}
use Rattle.adequacy_laws.specs.Questions.{Span}
use Rattle.adequacy_laws.specs.Finished.{Beyond}
use Rattle.adequacy_laws.proofs.Agreeing.{agrees}
use Rattle.round_laws.specs.Rounds.{live_of, round, round_log, units_on, units_from}
use Rattle.round_laws.specs.AfterRounds.{rounds_from, rounds}
use Rattle.round_laws.proofs.Rounding.{live_whole, rounds_lead, rounds_go_on, some_live, some_member}
use Rattle.round_laws.proofs.Spanning.{answered_span, span_answered}
use Rattle.round_runs.specs.Profiles.{profile_of, greatest}
use Rattle.round_runs.specs.Making.{IsMade}
use Rattle.round_runs.proofs.Counting.{count_live}

-- nothing is made yet
pub made_none : (net : NetTree) → IsMade net [] [] 0 (start_map (start_of net))
made_none net = record {
  log = refl;
  widths = refl;
  at = ap Some (sym (start_seen (start_of net)));
  led = refl;
  fresh = λ j T l r. absurd (omega arith);
  few = omega arith;
  widest = refl;
}

-- the units of k rounds and one more, from a state on, are those of the k rounds and the live tickets behind them
abbrev UnitsMore : NetTree → ℕ → State → State → Type 0
UnitsMore net k S T = rounds_from net k S ≡ Some T → units_from net (suc k) S ≡ units_from net k S ++ live_of T ∷ []

-- so it is, by the rounds from the front
units_more : (net : NetTree) (k : ℕ) (S T : State) → UnitsMore net k S T
units_more net zero S T h = last (round net S) ∙ ap (λ S. live_of S ∷ []) (same_Some S T h)
  where
    last : (o : Option State) → live_of S ∷ units_on o (λ U. []) ≡ live_of S ∷ []
    last None = refl
    last (Some U) = refl
units_more net (suc k) S T h = go (round net S) (λ U. units_more net k U T) h
  where
    go : (o : Option State) → ((U : State) → UnitsMore net k U T) → then_run o (λ U. rounds_from net k U) ≡ Some T →
        live_of S ∷ units_on o (λ U. units_from net (suc k) U) ≡ (live_of S ∷ units_on o (λ U. units_from net k U)) ++ live_of T ∷ []
    go None ih h = cc
    go (Some U) ih h = ap (λ l. live_of S ∷ l) (ih U h)

-- the greatest of a list with one more behind
greatest_more : (l : List ℕ) (n : ℕ) → greatest (l ++ n ∷ []) ≡ max (greatest l) n
greatest_more [] n = omega arith
greatest_more (m ∷ l) n = let ih = greatest_more l n in omega (arith, ih)

module _ (net : NetTree) (tickets profile : List ℕ) (w : ℕ) (S : MapState) (made : IsMade net tickets profile w S) (runs : Runs net) where
  -- live tickets are below the next
  pub made_low : (i : ℕ) (x : TokenTree) → get S.tokens i ≡ Some x → i < S.next
  made_low = map_low net runs.sound tickets S made.led

  -- as many tokens are live as the map has
  pub made_count : len S.tokens ≡ length (live_of (seen S))
  made_count = count_live S made_low

  -- where there is no answer yet some token is live
  pub made_some : S.answered ≡ None → 1 ≤ length (live_of (seen S))
  made_some none =
      let led = seen_leads net tickets S made.led in
      let (i, l) = some_live net runs tickets (seen S) led none in
      some_member (live_of (seen S)) i ((live_whole net runs.sound tickets (seen S) led).1 i l)

  -- a round more
  pub made_more : (n : ℕ) (T : MapState) → n ≡ length (live_of (seen S)) → S.answered ≡ None →
      run_map net S (live_of (seen S)) ≡ Some T → IsMade net (tickets ++ live_of (seen S)) (profile ++ n ∷ []) (max w n) T
  made_more n T e none r =
      let (a, b) = rounds_go_on net (length profile) (seen S) made.at in
      let goes : run net (seen S) (live_of (seen S)) ≡ Some (seen T) = sym (run_seen net S (live_of (seen S))) ∙ ap option_seen r in
      let long = length-append profile (n ∷ []) in
      let next : suc (length profile) ≡ length (profile ++ n ∷ []) = omega (arith, long) in
      let some = made_some none in
      let few = made.few in
      let many = length-append tickets (live_of (seen S)) in
      let units = units_more net (length profile) (start (start_of net)) (seen S) made.at in
      record {
        log = ap (λ l. l ++ live_of (seen S)) made.log ∙ sym b ∙ ap (round_log net) next;
        widths = ap (λ l. l ++ n ∷ []) made.widths ∙ ap (λ n. profile_of net (length profile) ++ n ∷ []) e ∙
            sym (ap (map length) units ∙ map-append length _ _) ∙ ap (profile_of net) next;
        at = sym (ap (rounds net) next) ∙ a ∙ goes;
        led = run_both net tickets (live_of (seen S)) (start_map (start_of net)) S T made.led r;
        fresh = λ j U l q.
            ⊎_elim
            (λ z. ap (λ (S : State). S.answered) (same_Some U (seen S) (sym q ∙ ap (rounds net) z ∙ made.at)) ∙ none)
            (λ d. made.fresh j U (omega (arith, l, d, next)) q) (cases_eq j (length profile));
        few = omega (arith, some, few, many, long);
        widest = ap (λ w. max w n) made.widest ∙ sym (greatest_more profile n);
      }

  -- the rounds are the span where there is an answer
  pub made_span : (v : Val) → S.answered ≡ Some v → Span net v (length profile)
  made_span v e =
      let k = length profile in
      let (n, s, l) = answered_span net runs k (seen S) made.at v e in
      ⊎_elim (λ q. subst (Span net v) q s)
      (λ d.
      let (T, r, _) = rounds_lead net runs n in
      let a = span_answered net runs n T r v n s (omega arith) in
      let b = made.fresh n T (omega (arith, l, d)) r in
      let bad : None ≡ Some v = sym b ∙ a in absurd cc) (cases_eq n k)

  -- where the next round has more moves than the budget has left, the log with it passes the budget
  pub made_spent : (budget k : ℕ) → k ≡ length profile → budget < length tickets + length (live_of (seen S)) →
      budget < length (round_log net (suc k))
  made_spent budget k e over =
      let (_, b) = rounds_go_on net (length profile) (seen S) made.at in
      let long = ap (λ k. length (round_log net (suc k))) e ∙ ap length (b ∙ ap (λ l. l ++ live_of (seen S)) (sym made.log)) in
      let both = length-append tickets (live_of (seen S)) in
      omega (arith, over, long, both)

  -- and so does the net's length
  pub made_beyond : (budget : ℕ) → budget < length tickets + length (live_of (seen S)) → Beyond net budget
  made_beyond budget over v n l =
      let (T, r, led) = rounds_lead net runs (suc (length profile)) in
      let most = (agrees net runs.sound (round_log net (suc (length profile))) T led).no_longer v n l in
      let long = made_spent budget (length profile) refl over in
      omega (arith, most, long)

-- a round more leaves less of the budget
pub less_left : (b old new len : ℕ) → new ≡ old + len → 1 ≤ len → len ≤ b - old → b - new < b - old
less_left b old new len e some fits = omega (arith, e, some, fits)
