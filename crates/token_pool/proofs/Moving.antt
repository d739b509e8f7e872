-- What booked moves leave.
use Rattle.std.proofs.Common.{◌≡◌, ◌<◌, ◌≤◌, ℕ, zero, suc, List, [], ◌∷◌, ◌++◌, length, set, replicate, Option}
use Rattle.std.proofs.Common.{Some, None, refl, sym, ap, ◌∙◌, subst, ⊎_elim, append_assoc, append-nil, length-append, length-set}
use Rattle.std.proofs.Common.{arith}
use Rattle.std.specs.Option.{IsSome}
use Rattle.std.specs.FinMap.{get}
use Rattle.std.proofs.lemmas.List.{length-replicate}
use Rattle.std.specs.List.{AllByRecursion}
use Rattle.std.proofs.lemmas.List.Elements.{All-append, All-from_recursion}
use Rattle.std.proofs.lemmas.Option.{slice_get_within}
use Rattle.net_build.specs.Nets.{NetTree}
use Rattle.move_rules.specs.Places.{TokenTree}
use Rattle.interleave_laws.specs.Start.{start_of}
use Rattle.interleave_laws.specs.Runs.{Runs}
use Rattle.interleave_laws.specs.OneWorker.{one}
use Rattle.interleave_laws.specs.OneWorkerLaws.{IsOneWorkers, Least}
use Rattle.interleave_laws.specs.Maps.{MapState, start_map, step_map, step_map_on, run_map, then_run_map, LeadsToMap, seen}
use Rattle.interleave_laws.specs.MapRuns.{option_seen}
use Rattle.interleave_laws.specs.Tickets.{IsLive}
use Rattle.interleave_laws.proofs.Seen.{step_seen}
use Rattle.interleave_laws.proofs.MapLaws.{seen_leads, map_others, run_both}
use Rattle.interleave_laws.proofs.OneWorker.{one_next}
use Rattle.interleave_laws.proofs.Stays.{least_stays}
use Rattle.interleave_core.proofs.AloneRuns.{least_seen}
use Rattle.schedule_log.specs.declared.entry.Entry.{Entry}
use Rattle.schedule_log.specs.Logs.{IsMadeBy, by, tickets_in_log}
use Rattle.schedule_log.proofs.RunByRun.{tickets_both}
use Rattle.schedule_log.proofs.Taken.{tickets_all}
use Rattle.token_pool.specs.declared.entries.Held.{Held}
use Rattle.token_pool.specs.Pools.{Pool, Holds, Good}
use Rattle.token_pool.specs.Booking.{moves_of, Books, halted}
use Rattle.token_pool.proofs.Holding.{held_after_set, sum_after_set}

-- what so many steps of a ticket leave
record Many (net : NetTree) (log : List ℕ) (S : MapState) (i n : ℕ) (T : MapState) : Type 0 where
  pub leads : LeadsToMap net (log ++ replicate n i) T
  pub stays : (j : ℕ) (x : TokenTree) → get S.tokens j ≡ Some x → (j ≡ i → ⊥) → get T.tokens j ≡ Some x
  pub ours : IsOneWorkers net log → (1 ≤ n → Least (seen S) i) → IsOneWorkers net (log ++ replicate n i)

-- a ticket that makes a step is live
steps_live : (net : NetTree) (S T : MapState) (i n : ℕ) → 1 ≤ n → run_map net S (replicate n i) ≡ Some T → (y : TokenTree) ×
    (get S.tokens i ≡ Some y)
steps_live net S T i zero l h = absurd (omega arith)
steps_live net S T i (suc n) l h = go (get S.tokens i) refl
  where
    go : (o : Option TokenTree) → get S.tokens i ≡ o → (y : TokenTree) × (get S.tokens i ≡ Some y)
    go (Some y) e = (y, e)
    go None e =
        let none : run_map net S (i ∷ replicate n i) ≡ None =
        ap (λ o. then_run_map (step_map_on net o S i) (λ S. run_map net S (replicate n i))) e in
        absurd cc

module _ (net : NetTree) (runs : Runs net) where
  many : (n i : ℕ) (log : List ℕ) (S T : MapState) → LeadsToMap net log S → run_map net S (replicate n i) ≡ Some T →
      Many net log S i n T
  many zero i log S T l h =
      let e : S ≡ T = cc in
      record {
        leads = subst (λ k. LeadsToMap net k T) (sym (append-nil log)) (subst (LeadsToMap net log) e l);
        stays = λ j x at d. ap (λ (S : MapState). get S.tokens j) (sym e) ∙ at;
        ours = λ its least. subst (IsOneWorkers net) (sym (append-nil log)) its;
      }
  many (suc n) i log S T l h = go (many n i (log ++ i ∷ [])) (step_map net S i) refl h
    where
      longer : length (log ++ i ∷ []) ≡ suc (length log)
      longer = let k = length-append log (i ∷ []) in omega (arith, k)

      together : (log ++ i ∷ []) ++ replicate n i ≡ log ++ replicate (suc n) i
      together = append_assoc log (i ∷ []) (replicate n i)

      go : ((S T : MapState) → LeadsToMap net (log ++ i ∷ []) S → run_map net S (replicate n i) ≡ Some T →
          Many net (log ++ i ∷ []) S i n T)
          → (o : Option MapState) → step_map net S i ≡ o → then_run_map o (λ S. run_map net S (replicate n i)) ≡ Some T →
          Many net log S i (suc n) T
      go ih None e h = absurd cc
      go ih (Some U) e h =
          let next = run_both net log (i ∷ []) (start_map (start_of net)) S U l (ap (λ o. then_run_map o (λ S. Some S)) e) in
          let rest = ih U T next h in
          let led = seen_leads net log S l in
          let stepped = sym (step_seen net S i) ∙ ap option_seen e in
          record {
            leads = subst (λ k. LeadsToMap net k T) together rest.leads;
            stays = λ j x at d.
                rest.stays j x (map_others net runs.sound log S l U i j x e d at) d;
            ours = λ its least.
                subst (IsOneWorkers net) together
                (rest.ours (ap (one net) longer ∙ one_next net runs log (seen S) led i its (least (omega arith)))
                (λ k. let (y, at) = steps_live net U T i n k h in
                least_stays net runs log (seen S) led (seen U) i y (least (omega arith)) stepped at));
          }

-- the tickets of moves that are made by one worker
pub tickets_by : (w : ℕ) (log : List ℕ) → tickets_in_log (by w log) ≡ log
tickets_by w [] = refl
tickets_by w (i ∷ log) = ap (λ l. i ∷ l) (tickets_by w log)

each_by : (n w : ℕ) → w ≤ n → (tickets : List ℕ) → AllByRecursion (λ (e : Entry). e.worker ≤ n) (by w tickets)
each_by n w l [] = tt
each_by n w l (i ∷ tickets) = (l, each_by n w l tickets)

-- and their makers, where that worker is one of so many or the finisher
pub made_by : (n w : ℕ) → w ≤ n → (tickets : List ℕ) → IsMadeBy n (by w tickets)
made_by n w l tickets = All-from_recursion (λ (e : Entry). e.worker ≤ n) (by w tickets) (each_by n w l tickets)

-- so many moves of one ticket
by_many : (n i w : ℕ) → by w (replicate n i) ≡ moves_of n i w
by_many zero i w = refl
by_many (suc n) i w = ap (λ (l : List Entry). record { ticket = i; worker = w } ∷ l) (by_many n i w)

-- Moves of these tickets, at most as many as are set aside for what is held, lead to T. Other tickets that are live stay so, and where
-- one worker runs alone the moves are its own.
pub record Leads (p : Pool) (h : Held) (tickets : List ℕ) (T : MapState) : Type 0 where
  pub leads : LeadsToMap p.net (tickets_in_log p.log ++ tickets) T
  pub stays : (j : ℕ) (x : TokenTree) → get p.state.tokens j ≡ Some x → (j ≡ h.ticket → ⊥) → get T.tokens j ≡ Some x
  pub ours : p.workers ≡ 1 → IsOneWorkers p.net (tickets_in_log p.log ++ tickets)
  pub few : length tickets ≤ h.allowance

module _ (p : Pool) (good : Good p) (w : ℕ) (h : Held) (at : Holds p.held w h) (l : w < p.workers) where
  -- what is held afterwards was held by another before
  other_held : (v : ℕ) (g : Held) → Holds (set p.held w None) v g → (v ≡ w → ⊥) × Holds p.held v g
  other_held v g a = ⊎_elim (λ q. absurd cc) (λ q. q) (held_after_set p.held w v None g a)

  module _ (tickets : List ℕ) (T : MapState) (made : Leads p h tickets T) where
    names : tickets_in_log p.log ++ tickets ≡ tickets_in_log (p.log ++ by w tickets)
    names = ap (λ l. tickets_in_log p.log ++ l) (sym (tickets_by w tickets)) ∙ sym (tickets_both p.log (by w tickets))

    stay_live : (v : ℕ) (g : Held) → (v ≡ w → ⊥) × Holds p.held v g → IsLive T g.ticket
    stay_live v g (d, a) = go (get p.state.tokens g.ticket) refl (good.live v g a)
      where
        go : (o : Option TokenTree) → get p.state.tokens g.ticket ≡ o → IsSome o → IsLive T g.ticket
        go None e s = absurd cc
        go (Some x) e s = subst IsSome (sym (made.stays g.ticket x e (λ q. d (good.apart v w g h a at q)))) refl

    pub leads_good : Good (record p { state = T; log = p.log ++ by w tickets; held = set p.held w None })
    leads_good = record {
      runs = good.runs;
      limits = good.limits;
      places = length-set p.held w None ∙ good.places;
      leads = subst (λ k. LeadsToMap p.net k T) names made.leads;
      live = λ v g a. stay_live v g (other_held v g a);
      apart = λ v u g k a b e. good.apart v u g k (other_held v g a).1 (other_held u k b).1 e;
      allowed = λ v g a. good.allowed v g (other_held v g a).1;
      within =
          let s = sum_after_set p.held w (Some h) None at in
          let m = length-append p.log (by w tickets) in
          let k = tickets_all (by w tickets) in
          let n = ap length (tickets_by w tickets) in
          let i = good.within in
          let few = made.few in
          omega (arith, s, m, k, n, i, few);
      makers = All-append (λ e. e.worker ≤ p.workers) p.log (by w tickets) good.makers (made_by p.workers w (omega arith) tickets);
      alone = λ single. record {
        ours = subst (IsOneWorkers p.net) names (made.ours single);
        least = λ v g a. absurd (alone_holds single v g (other_held v g a));
      };
    }
      where
        place : (v : ℕ) (g : Held) → Holds p.held v g → v < length p.held
        place v g a = slice_get_within p.held v (Some g) a

        alone_holds : p.workers ≡ 1 → (v : ℕ) (g : Held) → (v ≡ w → ⊥) × Holds p.held v g → ⊥
        alone_holds single v g (d, a) = let b = place v g a in let c = good.places in d (omega (arith, b, c, single, l))

  -- so many steps of the held ticket
  pub many_leads : (n : ℕ) → n ≤ h.allowance → (T : MapState) → run_map p.net p.state (replicate n h.ticket) ≡ Some T →
      Leads p h (replicate n h.ticket) T
  many_leads n few T steps =
      let made = many p.net good.runs n h.ticket (tickets_in_log p.log) p.state T good.leads steps in
      let k : length (replicate n h.ticket) ≡ n = length-replicate n h.ticket in
      record {
        leads = made.leads;
        stays = made.stays;
        ours = λ single. made.ours (good.alone single).ours (λ _. least_seen p.state h.ticket ((good.alone single).least w h at));
        few = omega (arith, k, few);
      }

pub book_keeps : (p q : Pool) (w : ℕ) (h : Held) (n : ℕ) → Good p → Holds p.held w h → w < p.workers → 1 ≤ n →
    n ≤ h.allowance → Books p q w h n → Good q
book_keeps p q w h n good at l some few b =
    let good' = leads_good p good w h at l (replicate n h.ticket) q.state (many_leads p good w h at l n few q.state b.steps) in
    subst Good (sym b.rest) (subst (λ (log : List Entry). Good (record p { state = q.state; log = p.log ++ log; held = set p.held w None }))
    (by_many n h.ticket w) good')

-- a good pool that is stopped is good
pub stop_keeps : (p : Pool) → Good p → Good (halted p)
stop_keeps p good = record {
  runs = good.runs;
  limits = good.limits;
  places = good.places;
  leads = good.leads;
  live = good.live;
  apart = good.apart;
  allowed = good.allowed;
  within = good.within;
  makers = good.makers;
  alone = λ single. record { ours = (good.alone single).ours; least = (good.alone single).least };
}
