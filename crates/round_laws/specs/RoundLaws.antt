-- What holds of rounds: the statements of `law_rounds` and `law_round_answers`.
use Rattle.std.specs.Prelude.{◌≡◌, ◌≤◌, ◌<◌, ◌↔◌, ℕ, suc, List, [], ◌∷◌, ◌++◌, length, Some, None}
use Rattle.pcf_values.specs.declared.val.Val.{Val}
use Rattle.net_build.specs.Nets.{NetTree}
use Rattle.interleave_laws.specs.States.{State, run}
use Rattle.interleave_laws.specs.Runs.{Runs, LeadsTo, InEveryState}
use Rattle.interleave_laws.specs.Asked.{Member}
use Rattle.interleave_laws.specs.OneWorker.{one}
use Rattle.round_laws.specs.Rounds.{live_of, round, log_from, round_log}
use Rattle.round_laws.specs.AfterRounds.{rounds_from, rounds}
use Rattle.round_laws.specs.Units.{IsUnit, IsWhole}

-- each entry is below all that follow
abbrev pub Rising : List ℕ → Type 0
Rising [] = Unit {0}
Rising (i ∷ l) = ((j : ℕ) → Member j l → i < j) × Rising l

-- the tickets of a round are rising, and exactly the live ones: a unit that leaves none out
abbrev pub LiveRises : Type 0
LiveRises = (S : State) → Rising (live_of S)

abbrev pub LiveIsWhole : Type 0
LiveIsWhole = InEveryState (λ net log S. IsUnit S (live_of S) × IsWhole S (live_of S))

-- rounds are the run of their log, from any state of any net
abbrev pub RoundsRun : Type 0
RoundsRun = (net : NetTree) (k : ℕ) (S : State) → run net S (log_from net k S) ≡ rounds_from net k S

-- on a net that runs every number of rounds leads to a state, which their log leads to
abbrev pub RoundsLead : Type 0
RoundsLead = (net : NetTree) → Runs net → (k : ℕ) → (S : State) × (rounds net k ≡ Some S) × LeadsTo net (round_log net k) S

-- a round more is the round of the state so far, and its tickets are put behind
abbrev pub RoundsGoOn : Type 0
RoundsGoOn = (net : NetTree) (k : ℕ) (S : State) → rounds net k ≡ Some S → (rounds net (suc k) ≡ round net S) ×
    (round_log net (suc k) ≡ round_log net k ++ live_of S)

-- once there is an answer, all stays
abbrev pub RoundsEnd : Type 0
RoundsEnd = InEveryState (λ net log S. (v : Val) → S.answered ≡ Some v → (live_of S ≡ []) × (round net S ≡ Some S))

-- each round without an answer before it has a move
abbrev pub RoundsMove : Type 0
RoundsMove = (net : NetTree) → Runs net → (k : ℕ) (S : State) → rounds net k ≡ Some S → S.answered ≡ None →
    k ≤ length (round_log net k)

-- some number of rounds answers a value exactly when some budget of the one worker does
abbrev pub RoundsAnswer : Type 0
RoundsAnswer = (net : NetTree) → Runs net → (v : Val) →
    ((k : ℕ) × (S : State) × (rounds net k ≡ Some S) × (S.answered ≡ Some v)) ↔
    ((b : ℕ) × (S : State) × LeadsTo net (one net b) S × (S.answered ≡ Some v))

-- and both then have made as many moves
abbrev pub RoundsAsLong : Type 0
RoundsAsLong = (net : NetTree) → Runs net → (k b : ℕ) (S T : State) → rounds net k ≡ Some S → LeadsTo net (one net b) T →
    (v w : Val) → S.answered ≡ Some v → T.answered ≡ Some w →
    (v ≡ w) × (length (round_log net k) ≡ length (one net b))
