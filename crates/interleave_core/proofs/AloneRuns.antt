-- The one worker's run, walk by walk and move by move.
use Rattle.std.proofs.Common.{◌≡◌, ℕ, suc, ◌+◌, ◌<◌, ◌≤◌, cond, List, [], ◌∷◌, ◌++◌, length, Some, refl, sym, ap}
use Rattle.std.proofs.Common.{◌∙◌, subst, append_assoc, arith, ⊎_elim}
use Rattle.std.specs.Prelude.{map, replicate}
use Rattle.std.specs.Option.{IsSome}
use Rattle.std.specs.Ordering.{nat_cmp}
use Rattle.std.specs.FinMap.{FinMap, get, insert, get-insert}
use Rattle.std.proofs.lemmas.Cmp.{nat_cmp_total}
use Rattle.std.proofs.lemmas.List.{length-append, length-replicate, replicate-append-replicate}
use Rattle.std.proofs.lemmas.Bool.{eq-eqb, ne_eqb, cases_lt}
use Rattle.pcf_values.specs.Most.{most_budget}
use Rattle.net_build.specs.Nets.{NetTree}
use Rattle.move_rules.specs.Places.{TokenTree}
use Rattle.move_rules.specs.Views.{token_of}
use Rattle.interleave_laws.specs.Start.{start_of}
use Rattle.interleave_laws.specs.Runs.{Runs}
use Rattle.interleave_laws.specs.OneWorker.{one}
use Rattle.interleave_laws.specs.OneWorkerLaws.{Least}
use Rattle.interleave_laws.specs.Maps.{MapState, start_map, step_map, run_map, then_run_map, seen}
use Rattle.interleave_laws.specs.MapRuns.{IsReachedWithin}
use Rattle.interleave_laws.specs.Tickets.{NoneLive, IsLeastLive}
use Rattle.interleave_core.specs.Moving.{Changes, GoesOn}
use Rattle.interleave_core.specs.Roles.{StandsStill}
use Rattle.interleave_core.specs.Alone.{RunsAlone}
use Rattle.interleave_core.specs.Parts.{state, state_of}
use Rattle.interleave_core.specs.declared.parts.Parts.{Parts}
use Rattle.interleave_core.proofs.Trailing.{tickets_are}
use Rattle.interleave_laws.proofs.Tickets.{test_nat}
use Rattle.interleave_laws.proofs.MapLaws.{seen_leads, run_both}
use Rattle.interleave_laws.proofs.Running.{idle_answered}
use Rattle.interleave_laws.proofs.OneWorker.{one_next, one_ends}
use Rattle.interleave_laws.proofs.Stays.{one_walks}
use Rattle.interleave_laws.proofs.TrailSteps.{walk_map}
use Rattle.interleave_laws.proofs.Going.{the_some}

-- the run of the empty log
pub begins : (net : NetTree) (S : MapState) (log : List ℕ) → S ≡ start_map (start_of net) → log ≡ [] → RunsAlone net log S
begins net S log h z = subst (λ l. RunsAlone net l S) (sym z) (record { leads = ap Some (sym h); ours = refl })

-- what a ticket that is given a token has, and what others have
pub given : (f : FinMap nat_cmp TokenTree) (i : ℕ) (y : TokenTree) → get (insert f i y) i ≡ Some y
given f i y = get-insert nat_cmp_total f i y i ∙ ap (λ b. cond b (Some y) (get f i)) (test_nat i i ∙ eq-eqb i i refl)

-- and others have what they had
pub not_given : (f : FinMap nat_cmp TokenTree) (i : ℕ) (y : TokenTree) (j : ℕ) → (j ≡ i → ⊥) → get (insert f i y) j ≡ get f j
not_given f i y j d = get-insert nat_cmp_total f i y j ∙ ap (λ b. cond b (Some y) (get f j)) (test_nat j i ∙ ne_eqb j i d)

-- the least live ticket
pub least_seen : (S : MapState) (i : ℕ) → IsLeastLive S i → Least (seen S) i
least_seen S i (h, below) = record { live = the_some (get S.tokens i) h; below = below }

module _ (net : NetTree) (runs : Runs net) (log : List ℕ) (S : MapState) (a : RunsAlone net log S) where
  -- one move of the least live ticket
  pub goes_on : (i : ℕ) (T : MapState) (log' : List ℕ) → IsLeastLive S i → step_map net S i ≡ Some T → log' ≡ log ++ i ∷
      [] → RunsAlone net log' T
  goes_on i T log' least s e =
      let longer : length (log ++ i ∷ []) ≡ suc (length log) = let k = length-append log (i ∷ []) in omega (arith, k) in
      let one_step : run_map net S (i ∷ []) ≡ Some T = ap (λ o. then_run_map o (λ S. Some S)) s in
      subst (λ l. RunsAlone net l T) (sym e) (record {
        leads = run_both net log (i ∷ []) (start_map (start_of net)) S T a.leads one_step;
        ours = ap (one net) longer ∙ one_next net runs log (seen S) (seen_leads net log S a.leads) i a.ours (least_seen S i least);
      })

  -- at the budget, or where nothing is live, the run is done
  pub full : (budget : ℕ) → length log ≤ budget → (length log < budget → ⊥) → log ≡ one net budget
  full budget l n = let z : length log ≡ budget = ⊎_elim (λ m. absurd (n m)) (λ m. omega arith) (cases_lt (length log) budget) in
      sym a.ours ∙ ap (one net) z

  -- and so it is where nothing is live
  pub idle : (budget : ℕ) → length log ≤ budget → NoneLive S → log ≡ one net budget
  idle budget l none =
      let led = seen_leads net log S a.leads in
      let (v, e) = idle_answered net runs.sound log (seen S) led none in
      sym (one_ends net runs log (seen S) led v a.ours e budget l)

-- what a walk of the least live ticket leaves, whether it made all moves that it may (`full`) or not
pub record AfterWalk (net : NetTree) (log : List ℕ) (S : MapState) (i : ℕ) (full : Type 0) : Type 0 where
  pub alone : RunsAlone net log S
  -- it stays the least
  pub least : IsLeastLive S i
  -- and its token stands still, where more moves may be made
  pub still : (full → ⊥) → StandsStill net S.tokens i
  -- so that it may act
  pub reached : (full → ⊥) → IsReachedWithin net most_budget S

-- The least live ticket makes its solo moves: n of them, and as many as may be made (`most`) or up to a move that is no solo move.
module _ (net : NetTree) (runs : Runs net) (p : Parts) (f : FinMap nat_cmp TokenTree) (log : List ℕ) (i n most budget : ℕ)
    (least : IsLeastLive (state_of p) i) (small : budget ≤ most_budget) (left : length log + most ≡ budget)
    (c : Changes (GoesOn net most n) p.live i f) where
  -- the state afterwards
  abbrev walked : MapState
  walked = state f p.joins p.next p.answer

  -- and the list, in which the ticket is written down as often as it moved
  abbrev on : List ℕ
  on = log ++ replicate n i

  pub walk_few : n ≤ most
  walk_few = let (x, y, e, (w, few, ends), h) = c in few

  pub walk_long : length on ≡ length log + n
  walk_long = length-append log (replicate n i) ∙ ap (λ k. length log + k) (length-replicate n i)

  walk_alone : RunsAlone net log (state_of p) → RunsAlone net on walked
  walk_alone a =
      let (x, y, e, ((trail, w, many), few, ends), h) = c in
      let is : on ≡ log ++ map (λ n. i) trail = ap (λ l. log ++ l) (ap (λ n. replicate n i) (sym many) ∙ tickets_are i trail) in
      let run = walk_map net trail (state_of p) i (token_of x) (token_of y) e w in
      let to : run_map net (state_of p) (map (λ n. i) trail) ≡ Some walked = run ∙
      ap (λ f. Some (state f p.joins p.next p.answer)) (sym h) in
      let led = seen_leads net log (state_of p) a.leads in
      subst (λ l. RunsAlone net l walked) (sym is) (record {
        leads = run_both net log (map (λ n. i) trail) (start_map (start_of net)) (state_of p) walked a.leads to;
        ours = one_walks net runs log (seen (state_of p)) led trail i (token_of x) (token_of y) a.ours (least_seen (state_of p) i least) e
            w;
      })

  walk_least : IsLeastLive walked i
  walk_least =
      let (x, y, e, w, h) = c in (
        subst (λ f. IsSome (get f i)) (sym h) (subst IsSome (sym (given p.live i (token_of y))) refl),
        λ j l. ap (λ f. get f j) h ∙ not_given p.live i (token_of y) j (λ q. omega arith) ∙ least.1 j l,
      )

  walk_still : (n ≡ most → ⊥) → StandsStill net f i
  walk_still d =
      let (x, y, e, (w, few, ends), h) = c in
      (token_of y, ap (λ f. get f i) h ∙ given p.live i (token_of y), ⊎_elim (λ q. absurd (d q)) (λ s. s) ends)

  pub after_walk : RunsAlone net log (state_of p) → AfterWalk net on walked i (n ≡ most)
  after_walk a =
      let b = walk_alone a in
      record { alone = b; least = walk_least; still = walk_still; reached = λ d. (on, b.leads, below d) }
    where
      below : (n ≡ most → ⊥) → length on < most_budget
      below d = ⊎_elim (λ (l : n < most). omega (arith, l, small, walk_long, left))
          (λ m. absurd (d (omega (arith, m, walk_few)))) (cases_lt n most)

-- A ticket's walk and its next move are written down at once.
pub one_behind : (log : List ℕ) (n i : ℕ) → log ++ replicate (n + 1) i ≡ (log ++ replicate n i) ++ i ∷ []
one_behind log n i = ap (λ l. log ++ l) (sym (replicate-append-replicate n 1 i)) ∙ sym (append_assoc log (replicate n i) (i ∷ []))
