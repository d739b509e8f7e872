use Rattle.std.proofs.Common.{◌≡◌, take}
use Rattle.schedule_log.specs.KeptRuns.{spread}
use Rattle.schedule_log.specs.Tally.{tally}
use Rattle.goi_reports.proofs.counts.count_moves.Given as goal

abbrev pub invariant-loop-run : goal.invariant-loop-run
invariant-loop-run l = l.counts.items ≡ tally (spread (take l.run-index l.runs)) l.workers
