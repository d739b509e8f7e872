use Rattle.std.proofs.Common.{take}
use Rattle.schedule_log.specs.KeptRuns.{spread}
use Rattle.schedule_log.specs.Logs.{tickets_in_log}
use Rattle.interleave_laws.specs.Maps.{LeadsToMap}
use Rattle.walk_text.specs.Standing.{StandsAt}
use Rattle.walk_text.proofs.moves.run_to.Given as goal

abbrev pub invariant-loop-i : goal.invariant-loop-i
invariant-loop-i l = record {
  led : LeadsToMap l.net (tickets_in_log (take l.i (spread l.runs))) l.core;
  stands : StandsAt l.runs l.place.run l.place.begins l.i;
}
