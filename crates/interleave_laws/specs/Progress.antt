-- Uniqueness and progress, in every interleaving: the statements of `law_progress`.
-- All of it is about the states that logs lead to on a sound net. That each live ticket has its step is so on a net that runs.
use Rattle.std.specs.Prelude.{◌≡◌, ◌≢◌, ℕ, List, ◌∷◌, Some, None}
use Rattle.pcf_values.specs.declared.val.Val.{Val}
use Rattle.token_stacks.specs.Signatures.{Boxes}
use Rattle.net_build.specs.Nets.{NetTree}
use Rattle.net_build.specs.Sound.{Sound}
use Rattle.move_rules.specs.Places.{TokenTree, place_of}
use Rattle.interleave_laws.specs.Start.{start_of}
use Rattle.interleave_laws.specs.States.{State, start, step}
use Rattle.interleave_laws.specs.Runs.{InEveryState, InEveryRun}
use Rattle.interleave_laws.specs.Asked.{asked_in, opened_in, Once}

-- no two live tokens stand at one place
abbrev pub OnePlace : Type 0
OnePlace = InEveryState (λ net log S. (i j : ℕ) (x y : TokenTree) → S.tokens i ≡ Some x → S.tokens j ≡ Some y →
    place_of x ≡ place_of y → i ≡ j)

-- no place is asked twice, the start's among them
abbrev pub AskedOnce : Type 0
AskedOnce = (net : NetTree) → Sound net → (log : List ℕ) → Once (start_of net ∷ asked_in net (start (start_of net)) log)

-- no entry is opened twice
abbrev pub OpenedOnce : Type 0
OpenedOnce = (net : NetTree) → Sound net → (log : List ℕ) → Once (opened_in net (start (start_of net)) log)

-- on a net that runs each live ticket has its step
abbrev pub HasStep : Type 0
HasStep = InEveryRun (λ net log S. (i : ℕ) (x : TokenTree) → S.tokens i ≡ Some x → (T : State) × (step net S i ≡ Some T))

-- where there is an answer, no token is live and no entry is left
abbrev pub AnsweredEnds : Type 0
AnsweredEnds = InEveryState (λ net log S. (v : Val) → S.answered ≡ Some v → ((j : ℕ) → S.tokens j ≡ None) ×
    ((n : ℕ) (t : Boxes) → S.entries n t ≡ None))

-- where no token is live, there is an answer
abbrev pub IdleAnswered : Type 0
IdleAnswered = InEveryState (λ net log S. ((j : ℕ) → S.tokens j ≡ None) → (v : Val) × (S.answered ≡ Some v))

-- a step leaves the token of each other live ticket
abbrev pub OthersStay : Type 0
OthersStay = InEveryState (λ net log S. (T : State) (i j : ℕ) (y : TokenTree) → step net S i ≡ Some T → j ≢ i →
    S.tokens j ≡ Some y → T.tokens j ≡ Some y)
