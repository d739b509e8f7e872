-- The finisher's moves, one after another.
use Rattle.std.proofs.Common.{◌≡◌, ◌+◌, ◌-◌, ◌<◌, ◌≤◌, ℕ, zero, suc, Result, IfOk, List, [], ◌∷◌, ◌++◌}
use Rattle.std.proofs.Common.{length, Option, Some, None, refl, sym, ap, ◌∙◌, subst, append_assoc, append-nil, length-append, arith}
use Rattle.std.proofs.lemmas.List.Elements.{All-append}
use Rattle.std.proofs.lemmas.Option.{same_Some}
use Rattle.pcf_values.specs.Most.{most_budget}
use Rattle.net_build.specs.Nets.{NetTree}
use Rattle.interleave_laws.specs.Start.{start_of}
use Rattle.interleave_laws.specs.States.{State, step, start, run}
use Rattle.interleave_laws.specs.Runs.{Runs}
use Rattle.interleave_laws.specs.OneWorker.{least_live, on_step, on_least, one_from, one}
use Rattle.interleave_laws.specs.Maps.{MapState, start_map, step_map, then_run_map, LeadsToMap, seen}
use Rattle.interleave_laws.specs.MapRuns.{IsReachedWithin, option_seen}
use Rattle.interleave_laws.specs.Tickets.{NoneLive, IsLeastLive}
use Rattle.interleave_laws.proofs.Seen.{step_seen}
use Rattle.interleave_laws.proofs.MapLaws.{seen_leads, run_both}
use Rattle.interleave_laws.proofs.OneWorker.{least_found, least_search, one_finishes, one_continues}
use Rattle.interleave_core.proofs.AloneRuns.{least_seen}
use Rattle.schedule_log.specs.declared.entry.Entry.{Entry}
use Rattle.schedule_log.specs.Logs.{IsMadeBy, by, tickets_in_log}
use Rattle.schedule_log.proofs.RunByRun.{tickets_both}
use Rattle.schedule_log.proofs.Taken.{tickets_all}
use Rattle.token_pool.specs.declared.ending.Ended.{Ended}
use Rattle.token_pool.specs.Pools.{Pool, Good}
use Rattle.token_pool.specs.Ending.{remaining, finished, Finishes, Suits, Replays}
use Rattle.token_pool.proofs.Moving.{tickets_by, made_by}

-- where a finisher stands
pub record Plays (net : NetTree) (S0 : MapState) (budget w : ℕ) (log0 log : List Entry) (S : MapState) : Type 0 where
  pub leads : LeadsToMap net (tickets_in_log log) S
  pub moves : finished net S budget w log ≡ finished net S0 budget w log0
  pub within : length log ≤ budget

module _ (net : NetTree) (runs : Runs net) (S0 : MapState) (budget w : ℕ) (log0 log : List Entry) (S : MapState)
    (at : Plays net S0 budget w log0 log S) where
  -- where a move is left, the state may still step
  pub may_step : budget ≤ most_budget → length log < budget → IsReachedWithin net most_budget S
  may_step small l = let k = tickets_all log in (tickets_in_log log, at.leads, omega (arith, k, l, small))

  pub plays_on : (i : ℕ) (T : MapState) (log' : List Entry) → IsLeastLive S i → step_map net S i ≡ Some T →
      length log < budget → log' ≡ log ++ record { ticket = i; worker = w } ∷ [] → Plays net S0 budget w log0 log' T
  plays_on i T log' here s l e =
      let m : Entry = record { ticket = i; worker = w } in
      let least = least_seen S i here in
      let found = least_search net runs (tickets_in_log log) (seen S) (seen_leads net (tickets_in_log log) S at.leads) i least in
      let stepped : step net (seen S) i ≡ Some (seen T) = sym (step_seen net S i) ∙ ap option_seen s in
      let longer : length (log ++ m ∷ []) ≡ suc (length log) = let k = length-append log (m ∷ []) in omega (arith, k) in
      let left : budget - length log ≡ suc (budget - length (log ++ m ∷ [])) = omega (arith, longer) in
      let rest : remaining net S budget log ≡ i ∷ remaining net T budget (log ++ m ∷ []) =
      ap (one_from net (seen S)) left
      ∙ ap (λ o. on_least o (λ i. on_step i (step net (seen S) i) (λ U. one_from net U (budget - length (log ++ m ∷ []))))) found
      ∙ ap (λ o. on_step i o (λ U. one_from net U (budget - length (log ++ m ∷ [])))) stepped in
      subst (λ k. Plays net S0 budget w log0 k T) (sym e) (record {
        leads = subst (λ k. LeadsToMap net k T) (sym (tickets_both log (m ∷ [])))
            (run_both net (tickets_in_log log) (i ∷ []) (start_map (start_of net)) S T at.leads
            (ap (λ o. then_run_map o (λ S. Some S)) s));
        moves = append_assoc log (m ∷ []) (by w (remaining net T budget (log ++ m ∷ []))) ∙ ap (λ k. log ++ by w k) (sym rest) ∙
            at.moves;
        within = omega (arith, longer);
      })

  -- at the budget, or where nothing is live, no move is left
  pub all_made : (length log < budget → ⊥) → log ≡ finished net S0 budget w log0
  all_made n =
      let z : budget - length log ≡ 0 = omega arith in
      sym (ap (λ k. log ++ by w (one_from net (seen S) k)) z ∙ append-nil log) ∙ at.moves

  idle_one : least_live (seen S) ≡ None → (b : ℕ) → one_from net (seen S) b ≡ []
  idle_one e zero = refl
  idle_one e (suc b) = ap (λ o. on_least o (λ i. on_step i (step net (seen S) i) (λ T. one_from net T b))) e

  pub none_left : NoneLive S → log ≡ finished net S0 budget w log0
  none_left none = sym (ap (λ k. log ++ by w k) (idle_one (go (least_live (seen S)) refl) (budget - length log)) ∙ append-nil log) ∙
      at.moves
    where
      go : (o : Option ℕ) → least_live (seen S) ≡ o → least_live (seen S) ≡ None
      go None e = e
      go (Some i) e = let (_, (x, f), _) = least_found (seen S).tokens S.next 0 i e in let n = none i in absurd cc

-- what is finished so replays
pub finishes_replays : (p : Pool) (e : Ended) → Good p → Finishes p e → Replays p.net p.budget p.workers e
finishes_replays p e good f =
    let led = seen_leads p.net (tickets_in_log p.log) p.state good.leads in
    let more = remaining p.net p.state p.budget p.log in
    let all : tickets_in_log e.log.entries ≡ tickets_in_log p.log ++ more =
    ap tickets_in_log f.log ∙ tickets_both p.log (by p.workers more) ∙
    ap (λ l. tickets_in_log p.log ++ l) (tickets_by p.workers more) in
    let (T, g, ends) = one_finishes p.net good.runs (tickets_in_log p.log) (seen p.state) led (p.budget - length p.log) in
    let (S, h, a) = f.answers in
    let here = seen_leads p.net (tickets_in_log e.log.entries) S h in
    let same : Some (seen S) ≡ Some T = sym here ∙ ap (run p.net (start (start_of p.net))) all ∙ g in
    let answer : e.answer ≡ T.answered = a ∙ ap (λ (U : State). U.answered) (same_Some (seen S) T same) in
    let n = length-append (tickets_in_log p.log) more in
    let m = ap length all in
    let k = tickets_all p.log in
    let i = good.within in
    let few = ends.0 in
    record {
      answers = f.answers;
      ends = (omega (arith, n, m, k, i, few), λ none. let exact = ends.1 (sym answer ∙ none) in omega (arith, n, m, k, i, exact));
      makers = subst (IsMadeBy p.workers) (sym f.log)
          (All-append (λ e. e.worker ≤ p.workers) p.log (by p.workers more) good.makers
          (made_by p.workers p.workers (omega arith) more));
      alone = λ single.
          let whole : length (tickets_in_log p.log) + (p.budget - length p.log) ≡ p.budget = omega (arith, k, i) in
          all ∙ sym (one_continues p.net (tickets_in_log p.log) (seen p.state) led (good.alone single).ours (p.budget - length p.log)) ∙
          ap (one p.net) whole;
    }

pub finishes : (p P : Pool) → p ≡ P → (e : Ended) (S : MapState) → LeadsToMap p.net (tickets_in_log e.log.entries) S →
    e.answer ≡ S.answered → e.log.entries ≡ finished p.net p.state p.budget p.workers p.log → Finishes P e
finishes p P q e S h a l = subst (λ P. Finishes P e) q (record { log = l; answers = (S, h, a) })

pub replays : (p P : Pool) → p ≡ P → Good p → (e : Ended) → Finishes P e → Replays P.net P.budget P.workers e
replays p P q good e f = finishes_replays P e (subst Good q good) f

pub replays_suits : {E : Type 0} (r : Result Ended E) (p : Pool) (net : NetTree) (budget workers : ℕ) → Suits p net budget workers →
    IfOk r (Replays p.net p.budget p.workers) → IfOk r (Replays net budget workers)
replays_suits r p net budget workers (a, b, c) h =
    subst (λ w. IfOk r (Replays net budget w)) c
    (subst (λ b. IfOk r (Replays net b p.workers)) b (subst (λ n. IfOk r (Replays n p.budget p.workers)) a h))
