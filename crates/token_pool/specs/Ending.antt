-- What the finisher makes of a pool.
-- Held tickets are free again, and the least live one moves until the answer or the budget, as the one worker would from there. Its
-- moves are written down for the number of workers, which is no worker's.
use Rattle.std.specs.Prelude.{◌≡◌, ◌-◌, ℕ, List, ◌++◌, length}
use Rattle.net_build.specs.Nets.{NetTree}
use Rattle.interleave_laws.specs.Finished.{Finished}
use Rattle.interleave_laws.specs.OneWorker.{one_from, one}
use Rattle.interleave_laws.specs.Maps.{MapState, LeadsToMap, seen}
use Rattle.schedule_log.specs.declared.entry.Entry.{Entry}
use Rattle.schedule_log.specs.Logs.{IsMadeBy, by, tickets_in_log}
use Rattle.token_pool.specs.declared.ending.Ended.{Ended}
use Rattle.token_pool.specs.Pools.{Pool}

-- what the one worker makes of a state, and of as much of the budget as is left
abbrev pub remaining : NetTree → MapState → ℕ → List Entry → List ℕ
remaining net S budget log = one_from net (seen S) (budget - length log)

-- the log with the finisher's moves behind it
abbrev pub finished : NetTree → MapState → ℕ → ℕ → List Entry → List Entry
finished net S budget w log = log ++ by w (remaining net S budget log)

-- what is answered is what the log leads to
abbrev pub AnswersFor : NetTree → Ended → Type 0
AnswersFor net e = (S : MapState) × LeadsToMap net (tickets_in_log e.log.entries) S × (e.answer ≡ S.answered)

-- the pool is finished so
pub record Finishes (p : Pool) (e : Ended) : Type 0 where
  pub log : e.log.entries ≡ finished p.net p.state p.budget p.workers p.log
  pub answers : AnswersFor p.net e

-- the pool is one of this net, budget and number of workers
abbrev pub Suits : Pool → NetTree → ℕ → ℕ → Type 0
Suits p net budget workers = (p.net ≡ net) × (p.budget ≡ budget) × (p.workers ≡ workers)

-- What is handed out replays on the net to its answer, is within the budget and as long as it where there is no answer, is made by the
-- workers and the finisher, and is the one worker's for one worker.
pub record Replays (net : NetTree) (budget workers : ℕ) (e : Ended) : Type 0 where
  pub answers : AnswersFor net e
  pub ends : Finished e.answer (tickets_in_log e.log.entries) budget
  pub makers : IsMadeBy workers e.log.entries
  pub alone : workers ≡ 1 → tickets_in_log e.log.entries ≡ one net budget
