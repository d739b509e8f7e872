-- States that are alike but for their tickets go on alike: the statements of `law_any_order`.
-- `Diamond` exchanges two moves, and what it leads to has other tickets. So that moves can be exchanged within a run, one after the other,
-- the rest of the run has to be there again, under those tickets: a token is found by what it is, and makes the move that it made.
-- Nothing is said of which ticket is which; the same tokens move in turn, each under the ticket that it has.
use Rattle.std.specs.Prelude.{◌≡◌, ◌≢◌, ℕ, List, [], ◌∷◌, length, drop, Option, Some, None}
use Rattle.net_build.specs.Nets.{NetTree}
use Rattle.net_build.specs.Sound.{Sound}
use Rattle.move_rules.specs.Places.{TokenTree}
use Rattle.interleave_laws.specs.States.{State, step, run}
use Rattle.interleave_laws.specs.Runs.{LeadsTo, InEveryRun}
use Rattle.interleave_laws.specs.Bare.{SameBare}

-- it holds of two states that logs of one sound net lead to, and that are alike but for their tickets
abbrev pub InAlikeStates : (NetTree → State → State → Type 0) → Type 0
InAlikeStates P = (net : NetTree) → Sound net → (log log' : List ℕ) (S T : State) → LeadsTo net log S → LeadsTo net log' T
    → SameBare S T → P net S T

-- a token makes the same step in both, under the ticket that it has in each, and they are alike afterwards
abbrev pub AlikeSteps : Type 0
AlikeSteps = InAlikeStates (λ net S T. (i j : ℕ) (x : TokenTree) → S.tokens i ≡ Some x → T.tokens j ≡ Some x → (S' : State) →
    step net S i ≡ Some S' →
    (T' : State) × (step net T j ≡ Some T') × SameBare S' T')

-- what comes of the state after a step, and nothing where there is none
abbrev pub and_then : Option State → (State → List (Option TokenTree)) → List (Option TokenTree)
and_then None f = []
and_then (Some S) f = f S

-- the tokens that a log moves from a state on, in turn
abbrev pub movers : NetTree → State → List ℕ → List (Option TokenTree)
movers net S [] = []
movers net S (i ∷ log) = S.tokens i ∷ and_then (step net S i) (λ T. movers net T log)

-- a log of the one has a log of the other with as many entries: the same tokens move, and the states to which both lead are alike
abbrev pub AlikeRuns : Type 0
AlikeRuns = InAlikeStates (λ net S T. (log : List ℕ) (S' : State) → run net S log ≡ Some S' →
    (log' : List ℕ) × (T' : State) × (length log' ≡ length log) × (movers net T log' ≡ movers net S log) ×
    (run net T log' ≡ Some T') × SameBare S' T')

-- two moves of different tickets can be exchanged at any place in a run: after both the same tokens move, to a state that is alike
abbrev pub AnyOrder : Type 0
AnyOrder = InEveryRun (λ net log S. (i j : ℕ) (x y : TokenTree) → S.tokens i ≡ Some x → S.tokens j ≡ Some y → i ≢ j →
    (rest : List ℕ) (S' : State) → run net S (i ∷ j ∷ rest) ≡ Some S' →
    (rest' : List ℕ) × (T' : State) × (length rest' ≡ length rest) ×
    (drop 2 (movers net S (j ∷ i ∷ rest')) ≡ drop 2 (movers net S (i ∷ j ∷ rest))) ×
    (run net S (j ∷ i ∷ rest') ≡ Some T') × SameBare S' T')
