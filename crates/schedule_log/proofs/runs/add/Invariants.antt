use Rattle.std.proofs.Common.{◌≡◌, ◌-◌, ◌≤◌, ◌++◌, replicate, vec_capacity}
use Rattle.schedule_log.specs.KeptRuns.{spread, Apart, Each}
use Rattle.schedule_log.specs.Logs.{tickets_in_log}
use Rattle.schedule_log.specs.LogsSeen.{Small}
use Rattle.schedule_log.proofs.runs.add.Given as goal

abbrev pub invariant-loop-left : goal.invariant-loop-left
invariant-loop-left l = record {
  left : l.left ≤ l.count;
  moves : spread l.runs.items ≡
      spread l.initial.runs.items ++ replicate (l.count - l.left) (record { ticket = l.ticket; worker = l.worker });
  capacity : vec_capacity l.runs ≡ vec_capacity l.initial.runs;
  each : Each l.runs.items;
  apart : Apart l.runs.items;
  small : Small (tickets_in_log (spread l.runs.items));
}

abbrev pub decreases-loop-left : goal.decreases-loop-left
decreases-loop-left l = l.left
