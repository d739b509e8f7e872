-- Where a run of one worker stands whose moves are written down for the first worker, and what it is in the end. Only the code's own calls
-- speak of these.
use Rattle.std.specs.Prelude.{◌≡◌, ℕ, List, length}
use Rattle.net_build.specs.Nets.{NetTree}
use Rattle.interleave_laws.specs.Maps.{MapState}
use Rattle.interleave_core.specs.Alone.{RunsAlone}
use Rattle.schedule_log.specs.declared.entry.Entry.{Entry}
use Rattle.schedule_log.specs.Logs.{by}
use Rattle.progress_meter.specs.Meters.{Publisher}
use Rattle.progress_meter.specs.Last.{last_of}
use Rattle.token_pool.specs.declared.ending.Ended.{Ended}
use Rattle.net_runs.specs.IsRun.{IsRun, IsFirstWorkers}

-- the moves are the one worker's, they lead to the state, and each is written down for worker 0
pub record Walked (net : NetTree) (log : List Entry) (S : MapState) : Type 0 where
  pub tickets : List ℕ
  pub written : log ≡ by 0 tickets
  pub alone : RunsAlone net tickets S

-- what one worker made within a budget is its run of the net, and the writer of the same meter has published the number of its moves
abbrev pub WalksAlone : NetTree → ℕ → Publisher → Ended → Publisher → Type 0
WalksAlone net budget old e new = IsRun net 1 budget e.answer e.log.entries × IsFirstWorkers net budget e.log.entries ×
    (last_of new.published ≡ length e.log.entries) × (new.meter ≡ old.meter)
