use Rattle.std.proofs.Common.{◌≡◌, take}
use Rattle.schedule_log.specs.KeptRuns.{spread}
use Rattle.schedule_log.specs.Tally.{tally_of}
use Rattle.schedule_log.proofs.runs.count_worker.Given as goal

abbrev pub invariant-loop-run : goal.invariant-loop-run
invariant-loop-run l = l.count ≡ tally_of (spread (take l.run-index l.runs)) l.worker
