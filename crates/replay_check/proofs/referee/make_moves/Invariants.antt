use Rattle.std.proofs.Common.{◌≡◌, length, take}
use Rattle.schedule_log.specs.KeptRuns.{spread}
use Rattle.schedule_log.specs.Logs.{tickets_in_log}
use Rattle.interleave_laws.specs.Maps.{LeadsToMap}
use Rattle.replay_check.proofs.referee.make_moves.Given as goal

abbrev pub invariant-loop-run : goal.invariant-loop-run
invariant-loop-run l = record {
  place : l.place ≡ length (spread (take l.run-index l.runs));
  led : LeadsToMap l.net (tickets_in_log (spread (take l.run-index l.runs))) l.core;
}
