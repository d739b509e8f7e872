-- What ties states over finite maps to states over functions, and what holds of them: the statements of `law_maps`.
use Rattle.std.specs.Prelude.{◌≡◌, ◌≢◌, ◌≤◌, ◌<◌, ℕ, suc, List, length, Some}
use Rattle.std.specs.FinMap.{get, empty}
use Rattle.pcf_values.specs.declared.val.Val.{Val}
use Rattle.net_build.specs.Nets.{NetTree}
use Rattle.move_rules.specs.Places.{Place, TokenTree, place_of}
use Rattle.interleave_laws.specs.Start.{start_of}
use Rattle.interleave_laws.specs.States.{State, start, step, run}
use Rattle.interleave_laws.specs.Runs.{LeadsTo}
use Rattle.interleave_laws.specs.Maps.{MapState, start_map, step_map, run_map, LeadsToMap, seen, SameBareMap}
use Rattle.interleave_laws.specs.MapRuns.{IsReachedWithin, InEveryMapState, InEveryMapRun, option_seen}

-- a state of finite maps starts as what it answers
abbrev pub SeenStarts : Type 0
SeenStarts = (p : Place) → seen (start_map p) ≡ start p

-- it steps as what it answers
abbrev pub SeenSteps : Type 0
SeenSteps = (net : NetTree) (S : MapState) (i : ℕ) → option_seen (step_map net S i) ≡ step net (seen S) i

-- and it runs as that
abbrev pub SeenRuns : Type 0
SeenRuns = (net : NetTree) (S : MapState) (log : List ℕ) → option_seen (run_map net S log) ≡ run net (seen S) log

-- states of finite maps that answer alike are one
abbrev pub SeenTells : Type 0
SeenTells = (S T : MapState) → seen S ≡ seen T → S ≡ T

-- a log leads to a state of finite maps where it leads to what that state answers
abbrev pub MapLed : Type 0
MapLed = (net : NetTree) (log : List ℕ) (S : MapState) → LeadsToMap net log S → LeadsTo net log (seen S)

-- and there is one where the log leads to a state
abbrev pub MapLeads : Type 0
MapLeads = (net : NetTree) (log : List ℕ) (T : State) → LeadsTo net log T → (S : MapState) × LeadsToMap net log S × (seen S ≡ T)

-- the start is reached by no move, and a state that was reached in few moves goes on to one that is reached in one more
abbrev pub StartReached : Type 0
StartReached = (net : NetTree) → IsReachedWithin net 1 (start_map (start_of net))

abbrev pub StepReached : Type 0
StepReached = (net : NetTree) (n i : ℕ) (S T : MapState) → IsReachedWithin net n S → step_map net S i ≡ Some T →
    IsReachedWithin net (suc n) T

-- what is reached in few moves is so in more
abbrev pub MoreReached : Type 0
MoreReached = (net : NetTree) (n m : ℕ) (S : MapState) → n ≤ m → IsReachedWithin net n S → IsReachedWithin net m S

-- the next ticket is at most one more than the log is long
abbrev pub MapTickets : Type 0
MapTickets = (net : NetTree) (log : List ℕ) (S : MapState) → LeadsToMap net log S → S.next ≤ suc (length log)

-- live tickets are below the next
abbrev pub MapLow : Type 0
MapLow = InEveryMapState (λ net log S. (i : ℕ) (x : TokenTree) → get S.tokens i ≡ Some x → i < S.next)

-- no two live tokens stand at one place
abbrev pub MapOnePlace : Type 0
MapOnePlace = InEveryMapState (λ net log S. (i j : ℕ) (x y : TokenTree) → get S.tokens i ≡ Some x → get S.tokens j ≡ Some y →
    place_of x ≡ place_of y → i ≡ j)

-- on a net that runs each live ticket has its step
abbrev pub MapHasStep : Type 0
MapHasStep = InEveryMapRun (λ net log S. (i : ℕ) (x : TokenTree) → get S.tokens i ≡ Some x → (T : MapState) ×
    (step_map net S i ≡ Some T))

-- where there is an answer, no token is live and no entry is left
abbrev pub MapAnsweredEnds : Type 0
MapAnsweredEnds = InEveryMapState (λ net log S. (v : Val) → S.answered ≡ Some v → (S.tokens ≡ empty) × (S.entries ≡ empty))

-- where no token is live, there is an answer
abbrev pub MapIdleAnswered : Type 0
MapIdleAnswered = InEveryMapState (λ net log S. S.tokens ≡ empty → (v : Val) × (S.answered ≡ Some v))

-- a step leaves the token of each other live ticket
abbrev pub MapOthersStay : Type 0
MapOthersStay = InEveryMapState (λ net log S. (T : MapState) (i j : ℕ) (y : TokenTree) → step_map net S i ≡ Some T → j ≢ i →
    get S.tokens j ≡ Some y → get T.tokens j ≡ Some y)

-- two live tickets may move in either order
abbrev pub MapDiamond : Type 0
MapDiamond = InEveryMapRun (λ net log S. (i j : ℕ) (x y : TokenTree) → get S.tokens i ≡ Some x → get S.tokens j ≡ Some y →
    i ≢ j →
    (S1 S12 S2 S21 : MapState) × (step_map net S i ≡ Some S1) × (step_map net S1 j ≡ Some S12) × (step_map net S j ≡ Some S2) ×
    (step_map net S2 i ≡ Some S21) × SameBareMap S12 S21)
