-- The run of one worker, walk by walk and move by move, as it is written down for the first worker.
use Rattle.std.proofs.Common.{◌≡◌, ◌⊎◌, ◌<◌, ◌≤◌, ℕ, zero, suc, cond, List, [], ◌∷◌, ◌++◌, length, replicate, Option, Some, refl, sym, ap}
use Rattle.std.proofs.Common.{◌+◌, ◌∙◌, subst, ⊎_elim, length-append, arith}
use Rattle.std.proofs.lemmas.List.{length-replicate}
use Rattle.std.specs.Prelude.{map}
use Rattle.std.specs.Option.{IsSome}
use Rattle.std.specs.FinMap.{get, insert, get-insert}
use Rattle.std.proofs.lemmas.Cmp.{nat_cmp_total}
use Rattle.std.proofs.lemmas.Bool.{eq-eqb, ne_eqb}
use Rattle.pcf_values.specs.declared.val.Val.{Val}
use Rattle.pcf_values.specs.Most.{most_budget}
use Rattle.net_build.specs.Nets.{NetTree}
use Rattle.move_rules.specs.Places.{TokenTree}
use Rattle.interleave_laws.specs.Start.{start_of}
use Rattle.interleave_laws.specs.Runs.{Runs}
use Rattle.interleave_laws.specs.OneWorker.{one}
use Rattle.interleave_laws.specs.OneWorkerLaws.{OneFinished}
use Rattle.interleave_laws.specs.Maps.{MapState, start_map, step_map, run_map, seen}
use Rattle.interleave_laws.specs.MapRuns.{IsReachedWithin}
use Rattle.interleave_laws.specs.MapLaws.{MapLed}
use Rattle.interleave_laws.specs.Tickets.{NoneLive, IsLeastLive}
use Rattle.interleave_laws.proofs.Tickets.{test_nat}
use Rattle.interleave_laws.proofs.MapLaws.{seen_leads, run_both}
use Rattle.interleave_laws.proofs.Stays.{one_walks}
use Rattle.interleave_laws.proofs.TrailSteps.{walk_map}
use Rattle.interleave_core.specs.Alone.{RunsAlone}
use Rattle.interleave_core.specs.Owning.{GoesAlone}
use Rattle.interleave_core.proofs.AloneRuns.{least_seen, goes_on, full, idle}
use Rattle.schedule_log.specs.declared.entry.Entry.{Entry}
use Rattle.schedule_log.specs.Logs.{by}
use Rattle.net_runs.specs.IsRun.{IsRun}
use Rattle.net_runs.proofs.AloneIsRun.{alone_is_run}
use Rattle.metered_pool.specs.Walking.{Walked}

-- a move under the first worker's number
abbrev pub first_worker's : ℕ → Entry
first_worker's i = record { ticket = i; worker = 0 }

-- so many moves of one ticket
by_many : (n i : ℕ) → by 0 (replicate n i) ≡ replicate n (first_worker's i)
by_many zero i = refl
by_many (suc n) i = ap (λ l. first_worker's i ∷ l) (by_many n i)

-- moves, and others behind them
by_both : (log more : List ℕ) → by 0 (log ++ more) ≡ by 0 log ++ by 0 more
by_both [] more = refl
by_both (i ∷ log) more = ap (λ l. first_worker's i ∷ l) (by_both log more)

-- as many moves as tickets
by_length : (tickets : List ℕ) → length (by 0 tickets) ≡ length tickets
by_length [] = refl
by_length (i ∷ tickets) = ap suc (by_length tickets)

-- a walk's moves are all of one ticket
one_ticket : (i : ℕ) (trail : List ℕ) → map (λ n. i) trail ≡ replicate (length trail) i
one_ticket i [] = refl
one_ticket i (n ∷ trail) = ap (λ l. i ∷ l) (one_ticket i trail)

-- the least live ticket is so with any other token
least_with : (S : MapState) (i : ℕ) (y : TokenTree) → IsLeastLive S i → IsLeastLive (record S { tokens = insert S.tokens i y }) i
least_with S i y (h, below) = (
  subst IsSome (sym (get-insert nat_cmp_total S.tokens i y i ∙
      ap (λ b. cond b (Some y) (get S.tokens i)) (test_nat i i ∙ eq-eqb i i refl))) refl,
  λ j l. get-insert nat_cmp_total S.tokens i y j ∙ ap (λ b. cond b (Some y) (get S.tokens j)) (test_nat j i ∙ ne_eqb j i (λ q. omega arith))
      ∙ below j l,
)

module _ (net : NetTree) (log : List Entry) (S : MapState) (at : Walked net log S) where
  -- as many tickets as moves
  counted : length log ≡ length at.tickets
  counted = ap length at.written ∙ by_length at.tickets

  -- the state was reached in so many moves
  pub walk_reached : length log < most_budget → IsReachedWithin net most_budget S
  walk_reached l = let k = counted in (at.tickets, at.alone.leads, omega (arith, k, l))

  module _ (runs : Runs net) where
    -- one move of the least live ticket
    pub one_more : (i : ℕ) (T : MapState) (log' : List Entry) → IsLeastLive S i → step_map net S i ≡ Some T →
        log' ≡ log ++ first_worker's i ∷ [] → Walked net log' T
    one_more i T log' least s is = record {
      tickets = at.tickets ++ i ∷ [];
      written = is ∙ ap (λ l. l ++ first_worker's i ∷ []) at.written ∙ sym (by_both at.tickets (i ∷ []));
      alone = goes_on net runs at.tickets S at.alone i T (at.tickets ++ i ∷ []) least s refl;
    }

    module _ (budget : ℕ) (within : length log ≤ budget) (over : (length log < budget → ⊥) ⊎ NoneLive S) where
      -- where the budget is spent or nothing is live, they are the one worker's
      all_moved : at.tickets ≡ one net budget
      all_moved =
          let k = counted in
          let few : length at.tickets ≤ budget = omega (arith, k, within) in
          ⊎_elim (λ n. full net runs at.tickets S at.alone budget few (λ l. n (omega (arith, k, l))))
          (λ none. idle net runs at.tickets S at.alone budget few none) over

      pub all_walked : log ≡ by 0 (one net budget)
      all_walked = at.written ∙ ap (by 0) all_moved

      -- and a run
      pub walked_run : OneFinished → MapLed → (answer : Option Val) → answer ≡ S.answered → IsRun net 1 budget answer log
      walked_run law led answer answers =
          alone_is_run law led net runs budget at.tickets all_moved answer S at.alone.leads answers 0 1 (omega arith) log at.written

-- what a walk of the least live ticket leaves: it is the least one still, and so many moves more are written down
pub record AfterWalk (net : NetTree) (log log' : List Entry) (T : MapState) (i n : ℕ) : Type 0 where
  pub walked : Walked net log' T
  pub least : IsLeastLive T i
  pub long : length log' ≡ length log + n

module _ (net : NetTree) (runs : Runs net) (log log' : List Entry) (S T : MapState) (i most n : ℕ) (at : Walked net log S)
    (least : IsLeastLive S i) (goes : GoesAlone net S i most n T) (is : log' ≡ log ++ replicate n (first_worker's i)) where
  abbrev moves : List ℕ
  moves = map (λ k. i) goes.trail

  moves_alone : RunsAlone net (at.tickets ++ moves) T
  moves_alone =
      let to : run_map net S moves ≡ Some T =
      walk_map net goes.trail S i goes.before goes.after goes.live goes.walks ∙ ap Some (sym goes.state) in
      let led = seen_leads net at.tickets S at.alone.leads in
      record {
        leads = run_both net at.tickets moves (start_map (start_of net)) S T at.alone.leads to;
        ours = one_walks net runs at.tickets (seen S) led goes.trail i goes.before goes.after at.alone.ours (least_seen S i least) goes.live
            goes.walks;
      }

  walks_on : Walked net log' T
  walks_on =
      let all : moves ≡ replicate n i = one_ticket i goes.trail ∙ ap (λ k. replicate k i) goes.many in
      record {
        tickets = at.tickets ++ moves;
        written = is ∙ ap (λ l. l ++ replicate n (first_worker's i)) at.written ∙
            sym (by_both at.tickets moves ∙ ap (λ l. by 0 at.tickets ++ by 0 l) all ∙ ap (λ l. by 0 at.tickets ++ l) (by_many n i));
        alone = moves_alone;
      }

  still_least : IsLeastLive T i
  still_least =
      subst (λ (T : MapState). IsLeastLive T i) (sym goes.state) (least_with S i goes.after least)

  pub after_walk : AfterWalk net log log' T i n
  after_walk =
      let m = first_worker's i in
      let a = length-append log (replicate n m) in
      let b : length (replicate n m) ≡ n = length-replicate n m in
      let c = ap length is in
      record { walked = walks_on; least = still_least; long = omega (arith, a, b, c) }
