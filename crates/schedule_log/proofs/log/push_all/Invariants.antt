use Rattle.std.proofs.Common.{◌≡◌, take}
use Rattle.schedule_log.specs.KeptRuns.{spread}
use Rattle.schedule_log.specs.LogsSeen.{with_entries}
use Rattle.schedule_log.proofs.log.push_all.Given as goal

abbrev pub invariant-loop-run : goal.invariant-loop-run
invariant-loop-run l = l.log ≡ with_entries l.initial.log (spread (take l.run-index l.runs))
