-- A run of a net by so many workers within a budget of moves: what it answered, and the log of its moves.
-- A log says which token moved and which worker booked it, move by move. Nothing is said of the order in which several workers move, but
-- that each move is one of a live token; so what a run comes to doesn't depend on it. Of one worker alone the order is known.
use Rattle.std.specs.Prelude.{◌≡◌, ℕ, List, Option}
use Rattle.pcf_values.specs.declared.val.Val.{Val}
use Rattle.net_build.specs.Nets.{NetTree}
use Rattle.interleave_laws.specs.States.{State}
use Rattle.interleave_laws.specs.Runs.{LeadsTo}
use Rattle.interleave_laws.specs.Finished.{Finished}
use Rattle.interleave_laws.specs.OneWorker.{one}
use Rattle.schedule_log.specs.declared.entry.Entry.{Entry}
use Rattle.schedule_log.specs.Logs.{IsMadeBy, by, tickets_in_log}

-- The log is a run of the net by so many workers within a budget of moves, and this is its answer, or none.
pub record IsRun (net : NetTree) (workers budget : ℕ) (answer : Option Val) (log : List Entry) : Type 0 where
  -- its moves lead from the net's start to a state with that answer
  pub state : State
  pub led : LeadsTo net (tickets_in_log log) state
  pub answers : answer ≡ state.answered
  -- it has at most as many moves as the budget allows, and as many where there is no answer
  pub finished : Finished answer (tickets_in_log log) budget
  -- each move was booked by one of the workers, or by the finisher
  pub booked : IsMadeBy workers log
  -- one worker moves the least live token at each turn
  pub alone : workers ≡ 1 → tickets_in_log log ≡ one net budget

-- the log has the one worker's moves, each under the number of the first worker
abbrev pub IsFirstWorkers : NetTree → ℕ → List Entry → Type 0
IsFirstWorkers net budget log = log ≡ by 0 (one net budget)
