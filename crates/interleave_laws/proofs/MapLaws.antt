-- The laws of interleavings for states over finite maps, by what those answer.
use Rattle.std.proofs.Common.{◌≡◌, ◌≢◌, ℕ, suc, ◌+◌, ◌<◌, ◌≤◌, List, [], ◌∷◌, ◌++◌, length, Option}
use Rattle.std.proofs.Common.{Some, None, refl, sym, ap, ◌∙◌, subst, arith}
use Rattle.std.specs.FinMap as map
use Rattle.std.specs.FinMap.{get-empty}
use Rattle.std.specs.Ordering.{nat_cmp}
use Rattle.std.proofs.lemmas.List.{length-append}
use Rattle.pcf_values.specs.declared.val.Val.{Val}
use Rattle.pcf_values.specs.declared.operator.Operator.{Operator}
use Rattle.pcf_values.specs.declared.side.Side.{Side}
use Rattle.token_stacks.specs.Signatures.{Boxes}
use Rattle.fork_join.specs.Entries.{Entry, pending, has_left, has_right, key_cmp}
use Rattle.net_build.specs.Nets.{NetTree}
use Rattle.net_build.specs.Sound.{Sound}
use Rattle.move_rules.specs.Places.{Place, TokenTree, place_of}
use Rattle.move_rules.specs.Moves.{Move, solo, fork, join, answer, stay, move}
use Rattle.interleave_laws.specs.States.{other, State, start, step, step_on, act, fork_on, last_on, join_on, then_run, run}
use Rattle.interleave_laws.specs.Start.{start_of}
use Rattle.interleave_laws.specs.Runs.{Runs, LeadsTo}
use Rattle.interleave_laws.specs.Bare.{SameBare}
use Rattle.interleave_laws.specs.Maps.{MapState, step_map, start_map, run_map, LeadsToMap, SameBareMap, seen, then_run_map}
use Rattle.interleave_laws.specs.MapRuns.{IsReachedWithin, option_seen}
use Rattle.interleave_laws.proofs.Running.{low, one_place, has_step, answered_idle, idle_answered}
use Rattle.interleave_laws.proofs.Diamond.{diamond}
use Rattle.interleave_laws.proofs.Others.{others_live}
use Rattle.interleave_laws.proofs.Seen.{start_seen, step_seen, run_seen, same_tokens, same_entries}

-- a step makes one ticket at most
pub grown : (S U T : State) → U.next ≤ suc S.next → Some U ≡ Some T → T.next ≤ suc S.next
grown S U T l h = let q : U ≡ T = cc in subst (λ (T : State). T.next ≤ suc S.next) q l

-- the second answer
pub last_next : (o : Option Val) (S T : State) (i n w : ℕ) (t : Boxes) → last_on o S i n w t ≡ Some T → T.next ≤ suc S.next
last_next None S T i n w t h = cc
last_next (Some u) S T i n w t h = grown S _ T (omega arith) h

-- a join
pub join_next : (e : Option Entry) (S T : State) (i n : ℕ) (op : Operator) (d : Side) (v : Val) (w : ℕ) (t : Boxes) →
    join_on e S i n op d v w t ≡ Some T → T.next ≤ suc S.next
join_next None S T i n op d v w t h = cc
join_next (Some pending) S T i n op d v w t h = grown S _ T (omega arith) h
join_next (Some (has_left u)) S T i n op d v w t h = last_next (other op (has_left u) d v) S T i n w t h
join_next (Some (has_right u)) S T i n op d v w t h = last_next (other op (has_right u) d v) S T i n w t h

-- a fork
pub fork_next : (e : Option Entry) (S T : State) (i n : ℕ) (l r : Place) (t : Boxes) → fork_on e S i n l r t ≡ Some T →
    T.next ≤ suc S.next
fork_next None S T i n l r t h = grown S _ T (omega arith) h
fork_next (Some e) S T i n l r t h = cc

-- any move
pub act_next : (m : Move) (S T : State) (i : ℕ) → act m S i ≡ Some T → T.next ≤ suc S.next
act_next (solo n x) S T i h = grown S _ T (omega arith) h
act_next (fork n l r t) S T i h = fork_next (S.entries n t) S T i n l r t h
act_next (join n op d v w t) S T i h = join_next (S.entries n t) S T i n op d v w t h
act_next (answer v) S T i h = grown S _ T (omega arith) h
act_next stay S T i h = cc

-- a step
step_next : (net : NetTree) (S T : State) (i : ℕ) → step net S i ≡ Some T → T.next ≤ suc S.next
step_next net S T i h = go (S.tokens i) h
  where
    go : (o : Option TokenTree) → step_on net o S i ≡ Some T → T.next ≤ suc S.next
    go None h = cc
    go (Some x) h = act_next (move net x) S T i h

-- a run makes as many tickets as it has moves at most
pub run_next : (net : NetTree) (log : List ℕ) (S T : State) → run net S log ≡ Some T → T.next ≤ S.next + length log
run_next net [] S T h = let q : S ≡ T = cc in subst (λ (T : State). T.next ≤ S.next + 0) q (omega arith)
run_next net (i ∷ log) S T h = go (λ U. run_next net log U T) (step net S i) refl h
  where
    go : ((U : State) → run net U log ≡ Some T → T.next ≤ U.next + length log) → (o : Option State) → step net S i ≡ o →
        then_run o (λ U. run net U log) ≡ Some T → T.next ≤ S.next + suc (length log)
    go ih None e h = cc
    go ih (Some U) e h = let a = ih U h in let b = step_next net S U i e in omega arith

-- a run over maps is one of what they answer
pub seen_leads : (net : NetTree) (log : List ℕ) (S : MapState) → LeadsToMap net log S → LeadsTo net log (seen S)
seen_leads net log S h = ap (λ S. run net S log) (sym (start_seen (start_of net))) ∙
    sym (run_seen net (start_map (start_of net)) log) ∙ ap option_seen h

-- what is seen of an option
pub from_seen : (o : Option MapState) (T : State) → option_seen o ≡ Some T → (S : MapState) × (o ≡ Some S) × (seen S ≡ T)
from_seen None T h = cc
from_seen (Some S) T h = (S, refl, cc)

-- and the other way round
pub leads_seen : (net : NetTree) (log : List ℕ) (T : State) → LeadsTo net log T → (S : MapState) × LeadsToMap net log S ×
    (seen S ≡ T)
leads_seen net log T h = from_seen (run_map net (start_map (start_of net)) log) T (run_seen net (start_map (start_of net)) log ∙
    ap (λ S. run net S log) (start_seen (start_of net)) ∙ h)

-- the next ticket of a state that a log leads to
pub tickets_most : (net : NetTree) (log : List ℕ) (S : MapState) → LeadsToMap net log S → S.next ≤ suc (length log)
tickets_most net log S h = let a = run_next net log (start (start_of net)) (seen S) (seen_leads net log S h) in omega arith

module _ (net : NetTree) (sound : Sound net) (log : List ℕ) (S : MapState) (h : LeadsToMap net log S) where
  -- live tickets are below the next
  pub map_low : (i : ℕ) (x : TokenTree) → map.get S.tokens i ≡ Some x → i < S.next
  map_low i x e = low net sound log (seen S) (seen_leads net log S h) i x e

  -- no two live tokens stand at one place
  pub map_place : (i j : ℕ) (x y : TokenTree) → map.get S.tokens i ≡ Some x → map.get S.tokens j ≡ Some y →
      place_of x ≡ place_of y → i ≡ j
  map_place i j x y e g z = one_place net sound log (seen S) (seen_leads net log S h) i j x y e g z

  -- an answer ends the run
  pub map_answered : (v : Val) → S.answered ≡ Some v → (S.tokens ≡ map.empty) × (S.entries ≡ map.empty)
  map_answered v e =
      let (f, g) = answered_idle net sound log (seen S) (seen_leads net log S h) v e in (
        same_tokens S.tokens map.empty (λ j. f j ∙ sym (get-empty nat_cmp j)),
        same_entries S.entries map.empty (λ n t. g n t ∙ sym (get-empty key_cmp (n, t))),
      )

  -- where nothing is live there is an answer
  pub map_idle : S.tokens ≡ map.empty → (v : Val) × (S.answered ≡ Some v)
  map_idle e = idle_answered net sound log (seen S) (seen_leads net log S h) (λ j. ap (λ f. map.get f j) e ∙ get-empty nat_cmp j)

  -- a step leaves the tokens of other live tickets
  pub map_others : (T : MapState) (i j : ℕ) (y : TokenTree) → step_map net S i ≡ Some T → j ≢ i →
      map.get S.tokens j ≡ Some y → map.get T.tokens j ≡ Some y
  map_others T i j y s d e = others_live net sound log (seen S) (seen_leads net log S h) (seen T) i j y (sym (step_seen net S i) ∙
      ap option_seen s) d e

module _ (net : NetTree) (runs : Runs net) (log : List ℕ) (S : MapState) (h : LeadsToMap net log S) where
  -- each live ticket has its step
  pub map_step : (i : ℕ) (x : TokenTree) → map.get S.tokens i ≡ Some x → (T : MapState) × (step_map net S i ≡ Some T)
  map_step i x e =
      let (T, s) = has_step net runs log (seen S) (seen_leads net log S h) i x e in
      let (U, q, _) = from_seen (step_map net S i) T (step_seen net S i ∙ s) in
      (U, q)

  -- two live tickets may move in either order
  pub map_diamond : (i j : ℕ) (x y : TokenTree) → map.get S.tokens i ≡ Some x → map.get S.tokens j ≡ Some y → i ≢ j →
      (S1 S12 S2 S21 : MapState) × (step_map net S i ≡ Some S1) × (step_map net S1 j ≡ Some S12) × (step_map net S j ≡ Some S2) ×
      (step_map net S2 i ≡ Some S21) × SameBareMap S12 S21
  map_diamond i j x y e g d =
      let (T1, T12, T2, T21, a, b, a', b', bare) = diamond net runs log (seen S) (seen_leads net log S h) i j x y e g d in
      let (S1, p, z) = from_seen (step_map net S i) T1 (step_seen net S i ∙ a) in
      let (S2, p', z') = from_seen (step_map net S j) T2 (step_seen net S j ∙ a') in
      let (S12, q, y1) = from_seen (step_map net S1 j) T12 (step_seen net S1 j ∙ ap (λ S. step net S j) z ∙ b) in
      let (S21, q', y2) = from_seen (step_map net S2 i) T21 (step_seen net S2 i ∙ ap (λ S. step net S i) z' ∙ b') in
      let same = subst (λ U. SameBare (seen S12) U) (sym y2) (subst (λ U. SameBare U T21) (sym y1) bare) in (
        S1,
        S12,
        S2,
        S21,
        p,
        q,
        p',
        q',
        record {
          stays = λ k t f. same.stays t (k, f);
          back = λ k t f. same.back t (k, f);
          entries = same_entries S12.entries S21.entries same.entries;
          answered = same.answered;
        },
      )

-- the start is reached by no move
pub start_reached : (net : NetTree) → IsReachedWithin net 1 (start_map (start_of net))
start_reached net = ([], refl, omega arith)

-- two runs, one after the other
pub run_both : (net : NetTree) (log more : List ℕ) (S T U : MapState) → run_map net S log ≡ Some T →
    run_map net T more ≡ Some U → run_map net S (log ++ more) ≡ Some U
run_both net [] more S T U h g = let e : S ≡ T = cc in ap (λ S. run_map net S more) e ∙ g
run_both net (j ∷ log) more S T U h g = go (step_map net S j) (λ V. run_both net log more V T U) h
  where
    go : (o : Option MapState) → ((V : MapState) → run_map net V log ≡ Some T → run_map net T more ≡ Some U →
        run_map net V (log ++ more) ≡ Some U) → then_run_map o (λ S. run_map net S log) ≡ Some T →
        then_run_map o (λ S. run_map net S (log ++ more)) ≡ Some U
    go None f h = cc
    go (Some V) f h = f V h g

-- a step goes on from a state that was reached
pub step_reached : (net : NetTree) (n i : ℕ) (S T : MapState) → IsReachedWithin net n S → step_map net S i ≡ Some T →
    IsReachedWithin net (suc n) T
step_reached net n i S T (log, h, l) s =
    let longer = length-append log (i ∷ []) in
    let one_step : run_map net S (i ∷ []) ≡ Some T = ap (λ o. then_run_map o (λ S. Some S)) s in
    (log ++ i ∷ [], run_both net log (i ∷ []) (start_map (start_of net)) S T h one_step, omega (arith, longer, l))

-- what is reached in few moves is so in more
pub more_reached : (net : NetTree) (n m : ℕ) (S : MapState) → n ≤ m → IsReachedWithin net n S → IsReachedWithin net m S
more_reached net n m S b (log, h, l) = (log, h, omega (arith, b, l))
