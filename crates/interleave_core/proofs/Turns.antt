-- A ticket's moves, turn by turn: its solo moves, the move that isn't one, and so on as long as it is live.
use Rattle.std.proofs.Common.{◌≡◌, ℕ, ◌+◌, ◌≤◌, List, ◌++◌, length, Some}
use Rattle.std.proofs.Common.{refl, sym, ap, ◌∙◌, subst, arith}
use Rattle.std.specs.Prelude.{replicate}
use Rattle.std.specs.Option.{IsSome}
use Rattle.std.specs.FinMap.{get}
use Rattle.std.proofs.lemmas.List.{length-append, length-replicate, replicate-append-replicate}
use Rattle.pcf_values.specs.Most.{most_budget}
use Rattle.net_build.specs.Nets.{NetTree}
use Rattle.interleave_laws.specs.Start.{start_of}
use Rattle.interleave_laws.specs.Maps.{MapState, start_map, step_map, run_map, then_run_map, LeadsToMap}
use Rattle.interleave_laws.specs.MapRuns.{IsReachedWithin}
use Rattle.interleave_laws.specs.Tickets.{IsLive}
use Rattle.interleave_core.specs.Owning.{GoesAlone}
use Rattle.interleave_laws.proofs.MapLaws.{run_both}
use Rattle.interleave_laws.proofs.TrailSteps.{walk_map}
use Rattle.interleave_core.proofs.AloneRuns.{given}
use Rattle.interleave_core.proofs.Trailing.{tickets_are}

-- solo moves are steps of their ticket
pub walk_runs : (net : NetTree) (S T : MapState) (i most n : ℕ) → GoesAlone net S i most n T → run_map net S (replicate n i) ≡ Some T
walk_runs net S T i most n g =
    ap (run_map net S) (ap (λ n. replicate n i) (sym g.many) ∙ tickets_are i g.trail)
    ∙ walk_map net g.trail S i g.before g.after g.live g.walks ∙ ap Some (sym g.state)

-- and it is live behind them
pub walk_live : (net : NetTree) (S T : MapState) (i most n : ℕ) → GoesAlone net S i most n T → IsLive T i
walk_live net S T i most n g =
    subst (λ (T : MapState). IsSome (get T.tokens i)) (sym g.state) (subst IsSome (sym (given S.tokens i g.after)) refl)

-- more moves of the ticket behind some
pub runs_on : (net : NetTree) (S T U : MapState) (i n m : ℕ) → run_map net S (replicate n i) ≡ Some T →
    run_map net T (replicate m i) ≡ Some U → run_map net S (replicate (n + m) i) ≡ Some U
runs_on net S T U i n m h g =
    ap (run_map net S) (sym (replicate-append-replicate n m i)) ∙ run_both net (replicate n i) (replicate m i) S T U h g

-- one move is a run of one ticket
pub one_step : (net : NetTree) (S T : MapState) (i : ℕ) → step_map net S i ≡ Some T → run_map net S (replicate 1 i) ≡ Some T
one_step net S T i h = ap (λ o. then_run_map o (λ S. Some S)) h

-- where the moves of a ticket lead on, and how many more may be made
pub leads_on : (net : NetTree) (S T : MapState) (i n most left : ℕ) → n + left ≤ most →
    ((log : List ℕ) × LeadsToMap net log S × (length log + most ≤ most_budget)) → run_map net S (replicate n i) ≡ Some T →
    (log : List ℕ) × LeadsToMap net log T × (length log + left ≤ most_budget)
leads_on net S T i n most left few (log, led, room) h =
    let long = length-append log (replicate n i) in
    let many : length (replicate n i) ≡ n = length-replicate n i in
    (log ++ replicate n i, run_both net log (replicate n i) (start_map (start_of net)) S T led h, omega (arith, few, room, long, many))

-- a state from which one more move may be made is reached within the greatest budget
pub may_step : (net : NetTree) (S : MapState) → ((log : List ℕ) × LeadsToMap net log S × (length log + 1 ≤ most_budget)) →
    IsReachedWithin net most_budget S
may_step net S (log, led, room) = (log, led, omega (arith, room))
