use Rattle.std.proofs.Common.{◌≡◌, ◌+◌, length, take}
use Rattle.schedule_log.specs.KeptRuns.{spread}
use Rattle.schedule_log.proofs.runs.run_at.Given as goal

abbrev pub invariant-loop-run : goal.invariant-loop-run
invariant-loop-run l = l.left + length (spread (take l.run-index l.runs)) ≡ l.initial.left
