use Rattle.std.proofs.Common.{◌≡◌, ◌≤◌, ◌-◌}
use Rattle.newest_core.specs.Processor.{newest}
use Rattle.schedule_log.specs.Logs.{by}
use Rattle.newest_runs.specs.Moving.{IsMoved}
use Rattle.newest_runs.proofs.schedule.write_run.Given as goal

abbrev pub invariant-loop-moving : goal.invariant-loop-moving
invariant-loop-moving l =
    IsMoved l.net l.moving.core l.moving.turn l.moving.moves × (l.moving.moves ≤ l.budget)
    × (l.log.entries ≡ by 0 (newest l.net l.moving.moves)) × (l.log.room ≡ l.budget)

abbrev pub decreases-loop-moving : goal.decreases-loop-moving
decreases-loop-moving l = l.budget - l.moving.moves
