-- What holds of replays.
use Rattle.std.specs.Prelude.{◌≡◌, ℕ, List, length, Result, Ok, Err}
use Rattle.net_build.specs.Nets.{NetTree}
use Rattle.interleave_laws.specs.States.{State}
use Rattle.interleave_laws.specs.Runs.{LeadsTo, Runs}
use Rattle.replay_check.specs.declared.fault.ReplayFault.{ReplayFault}
use Rattle.replay_check.specs.declared.fault.ReplayFault.TheVariants.{NoMemory}
use Rattle.replay_check.specs.declared.replayed.Replayed.{Replayed}
use Rattle.replay_check.specs.Replays.{ReplaysAs}

-- No list comes to two things, but for want of memory.
abbrev pub OneReplay : Type 0
OneReplay = (net : NetTree) (tickets : List ℕ) (r s : Result Replayed ReplayFault) →
    (r ≡ Err NoMemory → ⊥) → (s ≡ Err NoMemory → ⊥) → ReplaysAs net tickets r → ReplaysAs net tickets s → r ≡ s

-- On a net that runs each list comes to something other than want of memory.
abbrev pub EachList : Type 0
EachList = (net : NetTree) → Runs net → (tickets : List ℕ) →
    (r : Result Replayed ReplayFault) × (r ≡ Err NoMemory → ⊥) × ReplaysAs net tickets r

-- The replay of a list is its run, which leads to this state: it has the state's answer and all moves, and nothing else is replayed.
pub record IsReplayOfRun (net : NetTree) (tickets : List ℕ) (S : State) : Type 0 where
  pub is : (r : Replayed) → r.answer ≡ S.answered → r.moves ≡ length tickets → ReplaysAs net tickets (Ok r)
  pub only : (r : Result Replayed ReplayFault) → (r ≡ Err NoMemory → ⊥) → ReplaysAs net tickets r →
      r ≡ Ok (record { answer = S.answered; moves = length tickets })

-- the list leads to a state with this answer, in so many moves
abbrev pub RunsTo : NetTree → List ℕ → Replayed → Type 0
RunsTo net tickets r = (S : State) × LeadsTo net tickets S × (r.answer ≡ S.answered) × (r.moves ≡ length tickets)

-- where a list leads to a state, its replay is that run
abbrev pub RunIsReplayed : Type 0
RunIsReplayed = (net : NetTree) (tickets : List ℕ) (S : State) → LeadsTo net tickets S → IsReplayOfRun net tickets S

-- where a list is replayed, it leads to a state with the answer
abbrev pub ReplayIsRun : Type 0
ReplayIsRun = (net : NetTree) (tickets : List ℕ) (r : Replayed) → ReplaysAs net tickets (Ok r) → RunsTo net tickets r
