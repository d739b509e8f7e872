-- What a row leaves was reached in so many moves.
use Rattle.std.proofs.Common.{◌≡◌, ◌≤◌, ℕ, suc, ◌+◌, List, ◌++◌, length, Option, Some, None, Result, Ok, Err, IfOk, ap}
use Rattle.std.proofs.Common.{length-append, arith}
use Rattle.std.specs.Prelude.{map}
use Rattle.std.specs.Option.{MatchOption}
use Rattle.std.specs.FinMap.{get}
use Rattle.std.proofs.lemmas.List.{length-map}
use Rattle.net_build.specs.Nets.{NetTree}
use Rattle.move_rules.specs.Places.{TokenTree}
use Rattle.interleave_laws.specs.Start.{start_of}
use Rattle.interleave_laws.specs.Maps.{MapState, start_map, step_map}
use Rattle.interleave_laws.specs.MapRuns.{IsReachedWithin}
use Rattle.interleave_laws.proofs.MapLaws.{step_reached, more_reached, run_both}
use Rattle.branch_laws.specs.Branches.{name}
use Rattle.branch_laws.specs.Laws.{Occurs}
use Rattle.branch_runs.specs.Branching.{Grown, Taken}

-- a live token of a state that was reached occurs
pub occurs : (net : NetTree) (n i : ℕ) (S : MapState) (x : TokenTree) → IsReachedWithin net n S → get S.tokens i ≡ Some x → Occurs net x
occurs net n i S x (log, led, few) here = (log, S, i, led, here)

-- a branch that was put in goes on to a state that was reached in as many moves more as it has
pub reached_taken : (net : NetTree) (n i : ℕ) (S T : MapState) (b : Grown) (tickets : List ℕ) → IsReachedWithin net n S →
    Taken net S i b T tickets → IsReachedWithin net (n + length tickets) T
reached_taken net n i S T b tickets (log, led, few) taken =
    let a = length-append log (map (name i S.next) tickets) in
    let c = length-map tickets (name i S.next) in (
      log ++ map (name i S.next) tickets,
      run_both net log (map (name i S.next) tickets) (start_map (start_of net)) S T led taken.steps,
      omega (arith, a, c, few),
    )

-- what putting a branch in comes to, where it was put in and where it was refused
pub reached_row : {E : Type 0} (r : Result (Option (List ℕ)) E) (net : NetTree) (n most i : ℕ) (S T : MapState) (b : Grown) →
    IsReachedWithin net n S → length b.log ≤ most → most ≤ 1000 →
    IfOk r (λ r. MatchOption r ((get S.tokens i ≡ Some b.before → ⊥) × (T ≡ S))
    (λ l. (get S.tokens i ≡ Some b.before) × Taken net S i b T l)) →
    IfOk r (λ r. MatchOption r (T ≡ S) (λ l. (length l ≤ 1000) × IsReachedWithin net (n + length l) T))
reached_row (Err e) net n most i S T b reached within few h = tt
reached_row (Ok None) net n most i S T b reached within few h = h.1
reached_row (Ok (Some l)) net n most i S T b reached within few h =
    let own = ap length h.1.own in (omega (arith, own, within, few), reached_taken net n i S T b l reached h.1)
