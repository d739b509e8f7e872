-- What booked branches leave.
use Rattle.std.proofs.Common.{◌≡◌, ◌<◌, ◌+◌, ℕ, zero, suc, List, [], ◌∷◌, ◌++◌, length, set, replicate, Option}
use Rattle.std.proofs.Common.{Some, None, sym, ap, ◌∙◌, subst, inl, inr, ⊎_elim, arith, refl, length-append, append-nil}
use Rattle.std.specs.Prelude.{map, IfSome, IfNone, IsSome, ◌≤◌, ◌^◌}
use Rattle.std.specs.FinMap.{get}
use Rattle.std.specs.Option.{MatchOption}
use Rattle.pcf_values.specs.Most.{most_budget}
use Rattle.schedule_log.proofs.Taken.{tickets_all}
use Rattle.token_pool.proofs.Holding.{in_sum}
use Rattle.interleave_laws.specs.MapRuns.{IsReachedWithin}
use Rattle.std.proofs.lemmas.Bool.{cases_eq, cases_lt}
use Rattle.std.proofs.lemmas.List.{length-map}
use Rattle.net_build.specs.Nets.{NetTree}
use Rattle.interleave_laws.specs.Start.{start_of}
use Rattle.interleave_laws.specs.Maps.{MapState, start_map, step_map, run_map, then_run_map}
use Rattle.interleave_laws.specs.Runs.{Runs}
use Rattle.interleave_laws.specs.Tickets.{IsLive}
use Rattle.interleave_laws.proofs.MapLaws.{map_low, map_others, run_both, tickets_most}
use Rattle.interleave_core.specs.Names.{step_name, MayTake}
use Rattle.interleave_core.specs.Newest.{IsNewestLive}
use Rattle.move_rules.specs.Places.{TokenTree}
use Rattle.branch_laws.specs.Branches.{name, GraftOf}
use Rattle.branch_laws.proofs.Grafting.{graft_at}
use Rattle.branch_laws.proofs.Mapped.{map_runs, map_grafts, map_leaves, map_tickets}
use Rattle.branch_laws.proofs.Mapped as mapped
use Rattle.branch_laws.proofs.Playing.{plain_names}
use Rattle.branch_runs.specs.Branching.{Grown, IsBranch, Taken}
use Rattle.schedule_log.specs.declared.entry.Entry.{Entry}
use Rattle.schedule_log.specs.Logs.{by, tickets_in_log}
use Rattle.token_pool.specs.declared.entries.Held.{Held}
use Rattle.token_pool.specs.declared.entries.Booked.TheVariants.{Done}
use Rattle.token_pool.specs.Pools.{Pool, Holds, Good}
use Rattle.token_pool.specs.Branches.{HasRoom, one_more, all_made, TakesOver, StopsAt, BranchMoves, BooksAll, BookedBranch}
use Rattle.token_pool.proofs.Moving.{Leads, many_leads, leads_good}

one_state : (S T : MapState) → Some S ≡ Some T → S ≡ T
one_state S T h = cc

-- what is called so is another ticket than one that was given out before
named_apart : (i next own j : ℕ) → j < next → (j ≡ i → ⊥) → (j ≡ name i next own → ⊥)
named_apart i next zero j low d e = d e
named_apart i next (suc k) j low d e = omega (arith, low, e)

-- a run behind another
pub runs_behind : (net : NetTree) (log more : List ℕ) (S T : MapState) → run_map net S log ≡ Some T →
    run_map net S (log ++ more) ≡ run_map net T more
runs_behind net [] more S T e = let s : S ≡ T = one_state S T e in ap (λ S. run_map net S more) s
runs_behind net (j ∷ log) more S T e = go (step_map net S j) (λ V. runs_behind net log more V T) e
  where
    go : (o : Option MapState) → ((V : MapState) → run_map net V log ≡ Some T → run_map net V (log ++ more) ≡ run_map net T more) →
        then_run_map o (λ S. run_map net S log) ≡ Some T → then_run_map o (λ S. run_map net S (log ++ more)) ≡ run_map net T more
    go None ih e = absurd cc
    go (Some V) ih e = ih V e

module _ (p : Pool) (good : Good p) (w : ℕ) (h : Held) (at : Holds p.held w h) (l : w < p.workers) (b : Grown)
    (branch : IsBranch p.net b) (T : MapState) where
  -- one step
  step_leads : run_map p.net p.state (h.ticket ∷ []) ≡ Some T → Leads p h (h.ticket ∷ []) T
  step_leads steps = many_leads p good w h at l 1 (good.allowed w h at) T steps

  module _ (over : TakesOver p.state p.workers h b) (steps : run_map p.net p.state (map (name h.ticket p.state.next) b.log) ≡ Some T) where
    -- where there is one worker, its solo moves
    plain_leads : p.workers ≡ 1 → Leads p h (map (name h.ticket p.state.next) b.log) T
    plain_leads single =
        let (y, after, moves) = branch.plain (over.plain single) in
        let names : map (name h.ticket p.state.next) b.log ≡ replicate (length b.log) h.ticket =
        ap (map (name h.ticket p.state.next)) moves ∙ plain_names h.ticket p.state.next (length b.log) in
        subst (λ k. Leads p h k T) (sym names)
        (many_leads p good w h at l (length b.log) over.few T (subst (λ k. run_map p.net p.state k ≡ Some T) names steps))

    -- else all that it forked
    forks_lead : (p.workers ≡ 1 → ⊥) → Leads p h (map (name h.ticket p.state.next) b.log) T
    forks_lead many =
        let log = tickets_in_log p.log in
        let (U, g) = map_grafts p.net good.runs.sound log p.state good.leads h.ticket b.before over.token b.log b.after branch.branched in
        let same : U ≡ T =
        one_state U T (sym (map_runs p.net good.runs.sound log p.state good.leads h.ticket b.before over.token b.log b.after
        branch.branched U g) ∙ steps) in
        let grafted : GraftOf p.state h.ticket b.after T = subst (GraftOf p.state h.ticket b.after) same g in
        let n = length-map b.log (name h.ticket p.state.next) in
        let few = over.few in
        record {
          leads = run_both p.net log (map (name h.ticket p.state.next) b.log) (start_map (start_of p.net)) p.state T good.leads steps;
          stays = λ j x e d.
              map_leaves p.state b.after T h.ticket j grafted (map_low p.net good.runs.sound log p.state good.leads j x e) d ∙ e;
          ours = λ single. absurd (many single);
          few = omega (arith, n, few);
        }

module _ (p : Pool) (good : Good p) (w : ℕ) (h : Held) (at : Holds p.held w h) (l : w < p.workers) (b : Grown)
    (branch : IsBranch p.net b) where
  module _ (T : MapState) (over : TakesOver p.state p.workers h b)
      (steps : run_map p.net p.state (map (name h.ticket p.state.next) b.log) ≡ Some T) where
    -- and the step behind it, where there are two workers or more
    behind_leads : (i : ℕ) → StopsAt h p.state.next p.workers b i → (U : MapState) →
        run_map p.net p.state (map (name h.ticket p.state.next) b.log ++ i ∷ []) ≡ Some U →
        Leads p h (map (name h.ticket p.state.next) b.log ++ i ∷ []) U
    behind_leads i stop U steps' = go (step_map p.net T i) refl
      where
        before : Leads p h (map (name h.ticket p.state.next) b.log) T
        before = forks_lead p good w h at l b branch T over steps (λ one. let m = stop.many in omega (arith, m, one))

        log : List ℕ
        log = tickets_in_log p.log

        made : List ℕ
        made = map (name h.ticket p.state.next) b.log

        both : run_map p.net p.state (made ++ i ∷ []) ≡ run_map p.net T (i ∷ [])
        both = runs_behind p.net made (i ∷ []) p.state T steps

        apart : (j : ℕ) → j < p.state.next → (j ≡ h.ticket → ⊥) → (j ≡ i → ⊥)
        apart j low d e = named_apart h.ticket p.state.next stop.own j low d (e ∙ stop.called)

        go : (o : Option MapState) → step_map p.net T i ≡ o → Leads p h (made ++ i ∷ []) U
        go None e = let k = sym both ∙ steps' in
            let n : run_map p.net T (i ∷ []) ≡ None = ap (λ o. then_run_map o (λ S. Some S)) e in absurd cc
        go (Some V) e =
            let n : run_map p.net T (i ∷ []) ≡ Some V = ap (λ o. then_run_map o (λ S. Some S)) e in
            let same : V ≡ U = one_state V U (sym n ∙ sym both ∙ steps') in
            let step : step_map p.net T i ≡ Some U = e ∙ ap Some same in
            let m = length-map b.log (name h.ticket p.state.next) in
            let k = length-append made (i ∷ []) in
            let more = stop.more in
            record {
              leads = run_both p.net log (made ++ i ∷ []) (start_map (start_of p.net)) p.state U good.leads steps';
              stays = λ j x at d.
                  map_others p.net good.runs.sound (log ++ made) T before.leads U i j x step
                  (apart j (map_low p.net good.runs.sound log p.state good.leads j x at) d) (before.stays j x at d);
              ours = λ single. absurd (let m = stop.many in omega (arith, m, single));
              few = omega (arith, m, k, more);
            }

  module _ (T : MapState) where
    branch_leads : (tickets : List ℕ) → BranchMoves p.net p.state p.workers h b tickets → run_map p.net p.state tickets ≡ Some T →
        Leads p h tickets T
    branch_leads tickets (inl (over, inl (e, out))) steps =
        let steps' = subst (λ k. run_map p.net p.state k ≡ Some T) e steps in
        subst (λ k. Leads p h k T) (sym e)
        (⊎_elim (λ one. plain_leads p good w h at l b branch T over steps' one)
        (λ many. forks_lead p good w h at l b branch T over steps' many) (cases_eq p.workers 1))
    branch_leads tickets (inl (over, inr (i, stop, e))) steps =
        let (U, g) = map_grafts p.net good.runs.sound (tickets_in_log p.log) p.state good.leads h.ticket b.before over.token b.log b.after
        branch.branched in
        let r = map_runs p.net good.runs.sound (tickets_in_log p.log) p.state good.leads h.ticket b.before over.token b.log b.after
        branch.branched U g in
        subst (λ k. Leads p h k T) (sym e)
        (behind_leads U over r i stop T (subst (λ k. run_map p.net p.state k ≡ Some T) e steps))
    branch_leads tickets (inr (other, e)) steps =
        subst (λ k. Leads p h k T) (sym e) (step_leads p good w h at l b branch T (subst (λ k. run_map p.net p.state k ≡ Some T) e steps))

-- a good pool stays good where a branch of what a worker holds is booked
pub branch_book_keeps : (p q : Pool) (w : ℕ) (h : Held) (b : Grown) (tickets : List ℕ) → Good p → Holds p.held w h → w < p.workers →
    IsBranch p.net b → BranchMoves p.net p.state p.workers h b tickets → BooksAll p q w tickets → Good q
branch_book_keeps p q w h b tickets good at l branch moves all = subst Good (sym all.rest)
    (leads_good p good w h at l tickets q.state (branch_leads p good w h at l b branch q.state tickets moves all.steps))

module _ (p : Pool) (good : Good p) (w : ℕ) (h : Held) (at : Holds p.held w h) (b : Grown) (branch : IsBranch p.net b) (tickets : List ℕ)
    (moves : BranchMoves p.net p.state p.workers h b tickets) (S : MapState) (log : List Entry) (held : List (Option Held))
    (steps : run_map p.net p.state tickets ≡ Some S) (e : log ≡ p.log ++ by w tickets) (f : held ≡ set p.held w None) where
  books_all : BooksAll p (record p { state = S; log = log; held = held }) w tickets
  books_all = record {
    steps = steps;
    rest = ap (λ l. record p { state = S; log = l; held = held }) e ∙
        ap (λ k. record p { state = S; log = p.log ++ by w tickets; held = k }) f;
  }

  -- the pool as the code leaves it is good
  pub branch_good : (P : Pool) → p ≡ P → w < P.workers → Good (record p { state = S; log = log; held = held })
  branch_good P q l =
      branch_book_keeps p (record p { state = S; log = log; held = held }) w h b tickets good at
      (subst (λ (P : Pool). w < P.workers) (sym q) l) branch moves books_all

  -- and the worker is told so
  pub branch_booked : (P : Pool) (k : ℕ) → p ≡ P → k ≡ length p.log →
      BookedBranch P (record p { state = S; log = log; held = held }) w b (Done k)
  branch_booked P k q c =
      subst (λ P. BookedBranch P (record p { state = S; log = log; held = held }) w b (Done k)) q (h, tickets, at, c, moves, books_all)

-- what a worker handed in is a branch on the pool's net
pub is_branch : (p P : Pool) (net : NetTree) → p ≡ P → P.net ≡ net → (a b : Grown) → a ≡ b → IsBranch net a → IsBranch p.net b
is_branch p P net q named a b e branch =
    subst (λ n. IsBranch n b) (sym (ap (λ (P : Pool). P.net) q ∙ named)) (subst (IsBranch net) e branch)

-- a step behind the branch is within what a run may have
pub reached_behind : (net N : NetTree) (S T : MapState) (h : Held) (next workers : ℕ) (b : Grown) (tickets : List ℕ) (stop : Option ℕ) →
    net ≡ N → HasRoom net S h.allowance →
    MatchOption stop ((i : ℕ) → StopsAt h next workers b i → ⊥) (StopsAt h next workers b) → tickets ≡ b.log →
    run_map N S (map (name h.ticket S.next) tickets) ≡ Some T → IfSome stop (λ i. IsReachedWithin net most_budget T)
reached_behind net N S T h next workers b tickets None same room stops own steps = tt
reached_behind net N S T h next workers b tickets (Some i) same (log, leads, few) stops own steps =
    let made = map (name h.ticket S.next) tickets in
    let m = length-map tickets (name h.ticket S.next) in
    let k = length-append log made in
    let o = ap length own in
    let more = stops.more in (
      log ++ made,
      run_both net log made (start_map (start_of net)) S T leads (subst (λ n. run_map n S made ≡ Some T) (sym same) steps),
      omega (arith, m, k, o, more, few),
    )

-- the branch's moves and the step behind them
pub steps_behind : (net N : NetTree) (S T U : MapState) (made : List ℕ) (stop last : Option ℕ) → net ≡ N →
    run_map N S made ≡ Some T → IfSome last (λ i. (stop ≡ Some i) × (step_map net T i ≡ Some U)) →
    IfNone last ((U ≡ T) × IfSome stop (λ i. MayTake (step_name net T i))) →
    run_map net S (made ++ one_more last) ≡ Some U
steps_behind net N S T U made stop None same steps some none =
    ap (run_map net S) (append-nil made) ∙ subst (λ n. run_map n S made ≡ Some T) (sym same) steps ∙ ap Some (sym none.0)
steps_behind net N S T U made stop (Some i) same steps some none =
    runs_behind net made (i ∷ []) S T (subst (λ n. run_map n S made ≡ Some T) (sym same) steps) ∙
    ap (λ o. then_run_map o (λ S. Some S)) some.1

-- what is grafted is a branch that is taken over
pub grafted_so : (N : NetTree) (S T : MapState) (h : Held) (workers : ℕ) (b : Grown) (o : Option (List ℕ)) (tickets : List ℕ) →
    o ≡ Some tickets → MatchOption o ((TakesOver S workers h b → ⊥) × (T ≡ S))
    (λ tickets. TakesOver S workers h b × Taken N S h.ticket b T tickets) → TakesOver S workers h b × Taken N S h.ticket b T tickets
grafted_so N S T h workers b None tickets e m = absurd cc
grafted_so N S T h workers b (Some own) tickets e m =
    let same : own ≡ tickets = cc in (m.0, subst (Taken N S h.ticket b T) same m.1)

-- one ticket is the newest
newest_one : (S : MapState) (i j : ℕ) → IsNewestLive S i → IsNewestLive S j → i ≡ j
newest_one S i j a b = ⊎_elim below (λ l. ⊎_elim above (λ m. omega (arith, l, m)) (cases_lt j i)) (cases_lt i j)
  where
    below : i < j → i ≡ j
    below l = let n = a.1 j l in let y = b.0 in absurd cc

    above : j < i → i ≡ j
    above m = let n = b.1 i m in let y = a.0 in absurd cc

-- a branch has no more tickets than moves, but for its first
pub own_few : (net : NetTree) → Runs net → (b : Grown) → IsBranch net b → (own : ℕ) → IsLive b.after own → own ≤ length b.log
own_few net runs b branch own live = go (get b.after.tokens own) refl live
  where
    go : (o : Option TokenTree) → get b.after.tokens own ≡ o → IsSome o → own ≤ length b.log
    go None e h = absurd cc
    go (Some y) e h =
        let (log, S, i, led, here) = branch.occurs in
        let low = mapped.map_low net runs.sound log S led i b.before here b.log b.after branch.branched own y e in
        let most = map_tickets net b.before b.log b.after branch.branched.0 in
        omega (arith, low, most)

-- where there is room for so many moves, the names of as many tickets are numbers of the machine
pub room_fits : (net : NetTree) (S : MapState) (n next : ℕ) → next ≡ S.next → HasRoom net S n → next + n < 2 ^ 32
room_fits net S n next at (log, leads, few) = let most = tickets_most net log S leads in omega (arith, at, most, few)

-- the ticket before whose move a branch stopped is live where the branch is grafted
pub live_behind : (net N : NetTree) → Runs net → (S T : MapState) (h : Held) (next workers : ℕ) (b : Grown) (tickets : List ℕ)
    (stop : Option ℕ) → net ≡ N → next ≡ S.next → HasRoom net S h.allowance → TakesOver S workers h b → Taken N S h.ticket b T tickets →
    MatchOption stop ((i : ℕ) → StopsAt h next workers b i → ⊥) (StopsAt h next workers b) → IfSome stop (IsLive T)
live_behind net N runs S T h next workers b tickets None same at room over taken stops = tt
live_behind net N runs S T h next workers b tickets (Some i) same at (log, leads, few) over taken stops =
    let below = map_low net runs.sound log S leads h.ticket b.before over.token in
    let called = stops.called ∙ ap (λ n. name h.ticket n stops.own) at in
    let token = taken.grafted.tokens (name h.ticket S.next stops.own) ∙
    graft_at (λ j. get S.tokens j) h.ticket S.next below (λ k. get b.after.tokens k) stops.own in
    subst (IsLive T) (sym called) (subst IsSome (sym token) stops.newest.0)

-- what is made where a branch is taken over
pub moves_behind : (net N : NetTree) (S T U : MapState) (h : Held) (next workers : ℕ) (b : Grown) (tickets : List ℕ)
    (stop last : Option ℕ) →
    net ≡ N → next ≡ S.next → TakesOver S workers h b → Taken N S h.ticket b T tickets →
    MatchOption stop ((i : ℕ) → StopsAt h next workers b i → ⊥) (StopsAt h next workers b) →
    IfSome last (λ i. (stop ≡ Some i) × (step_map net T i ≡ Some U)) →
    IfNone last ((U ≡ T) × IfSome stop (λ i. MayTake (step_name net T i))) →
    BranchMoves net S workers h b (all_made h.ticket S.next (Some tickets) last)
moves_behind net N S T U h next workers b tickets stop None same at over taken stops some none =
    inl (
      over,
      inl (
        append-nil (map (name h.ticket S.next) tickets) ∙ ap (map (name h.ticket S.next)) taken.own,
        record {
          after = T;
          steps = subst (λ k. run_map net S (map (name h.ticket S.next) k) ≡ Some T) taken.own
              (subst (λ n. run_map n S (map (name h.ticket S.next) tickets) ≡ Some T) (sym same) taken.steps);
          taking = λ i s. takes stop stops none.1 i s;
        },
      ),
    )
  where
    takes : (stop : Option ℕ) → MatchOption stop ((i : ℕ) → StopsAt h next workers b i → ⊥) (StopsAt h next workers b) →
        IfSome stop (λ i. MayTake (step_name net T i)) → (i : ℕ) → StopsAt h S.next workers b i → MayTake (step_name net T i)
    takes None lacks m i s = absurd (lacks i (subst (λ n. StopsAt h n workers b i) (sym at) s))
    takes (Some j) stopped m i s =
        let own = newest_one b.after stopped.own s.own stopped.newest s.newest in
        let so : j ≡ i = stopped.called ∙ ap (λ n. name h.ticket n stopped.own) at ∙ ap (name h.ticket S.next) own ∙ sym s.called in
        subst (λ k. MayTake (step_name net T k)) so m
moves_behind net N S T U h next workers b tickets stop (Some i) same at over taken stops some none =
    inl (
      over,
      inr (
        i,
        subst (λ n. StopsAt h n workers b i) at (stops_at stop stops some.0),
        ap (λ k. map (name h.ticket S.next) k ++ i ∷ []) taken.own,
      ),
    )
  where
    stops_at : (stop : Option ℕ) → MatchOption stop ((i : ℕ) → StopsAt h next workers b i → ⊥) (StopsAt h next workers b) →
        stop ≡ Some i → StopsAt h next workers b i
    stops_at None m e = absurd cc
    stops_at (Some j) m e = let q : j ≡ i = cc in subst (StopsAt h next workers b) q m

-- a log that leads to the pool's state leaves room for what is set aside
pub has_room : (p : Pool) (w : ℕ) (h : Held) → Good p → Holds p.held w h → HasRoom p.net p.state h.allowance
has_room p w h good at =
    let s = in_sum p.held w h at in
    let i = good.within in
    let b = good.limits.few_moves in
    let k = tickets_all p.log in
    (tickets_in_log p.log, good.leads, omega (arith, s, i, b, k))
