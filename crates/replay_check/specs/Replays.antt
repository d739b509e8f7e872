-- What a list of tickets comes to on a net: the run of the whole list, or the first place at which a ticket may not move.
-- A ticket may move where it is live. Its place in the list is counted from 0. Behind the answer no token is live, so that a list that
-- goes on is refused there; the fault tells whether the run has its answer at that place.
use Rattle.std.specs.Prelude.{◌≡◌, ℕ, List, ◌∷◌, ◌++◌, length, Option, Some, None, Result, Ok, Err}
use Rattle.std.specs.FinMap.{get}
use Rattle.pcf_values.specs.declared.val.Val.{Val}
use Rattle.net_build.specs.Nets.{NetTree}
use Rattle.interleave_laws.specs.Maps.{MapState, LeadsToMap}
use Rattle.replay_check.specs.declared.fault.ReplayFault.{ReplayFault}
use Rattle.replay_check.specs.declared.fault.ReplayFault.TheVariants.{NoMemory, NotLive, AfterAnswer}
use Rattle.replay_check.specs.declared.replayed.Replayed.{Replayed}

-- The whole list leads to a state: its answer is that state's, and its moves are all.
pub record IsRunOf (net : NetTree) (tickets : List ℕ) (r : Replayed) : Type 0 where
  pub state : MapState
  pub led : LeadsToMap net tickets state
  pub answer : r.answer ≡ state.answered
  pub moves : r.moves ≡ length tickets

-- the fault of a ticket that may not move, at a place where the run has this answer or none
abbrev pub fault_at : Option Val → ℕ → ℕ → ReplayFault
fault_at None place ticket = NotLive place ticket
fault_at (Some v) place ticket = AfterAnswer place

-- The tickets before a place lead to a state in which the ticket at the place has no token, and this is its fault.
pub record StopsWith (net : NetTree) (tickets : List ℕ) (f : ReplayFault) : Type 0 where
  pub before : List ℕ
  pub ticket : ℕ
  pub rest : List ℕ
  pub are : tickets ≡ before ++ ticket ∷ rest
  pub state : MapState
  pub led : LeadsToMap net before state
  pub dead : get state.tokens ticket ≡ None
  pub fault : f ≡ fault_at state.answered (length before) ticket

-- what a list of tickets comes to; want of memory says nothing
abbrev pub ReplaysAs : NetTree → List ℕ → Result Replayed ReplayFault → Type 0
ReplaysAs net tickets (Ok r) = IsRunOf net tickets r
ReplaysAs net tickets (Err NoMemory) = Unit {0}
ReplaysAs net tickets (Err (NotLive place ticket)) = StopsWith net tickets (NotLive place ticket)
ReplaysAs net tickets (Err (AfterAnswer place)) = StopsWith net tickets (AfterAnswer place)
