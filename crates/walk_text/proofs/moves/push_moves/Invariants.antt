use Rattle.std.proofs.Common.{◌≡◌, ◌++◌, ◌-◌, take, drop}
use Rattle.std.specs.List.{concat}
use Rattle.schedule_log.specs.KeptRuns.{spread}
use Rattle.schedule_log.specs.Logs.{tickets_in_log}
use Rattle.interleave_laws.specs.Maps.{LeadsToMap, seen}
use Rattle.walk_text.specs.Traces.{lines_from}
use Rattle.walk_text.specs.Standing.{StandsAt}
use Rattle.walk_text.specs.Telling.{Shows}
use Rattle.walk_text.proofs.moves.push_moves.Given as goal

abbrev pub invariant-loop-i : goal.invariant-loop-i
invariant-loop-i l = record {
  shown : Shows l.core l.shown.ticket l.shown.text.items;
  stands : StandsAt l.runs l.place.run l.place.begins l.i;
  led : LeadsToMap l.net (tickets_in_log (take l.i (spread l.runs))) l.core;
  text : l.text.items ++ concat (lines_from l.net (seen l.core) l.i (take (l.to - l.i) (drop l.i (spread l.runs))))
      ≡ l.initial.text.items ++ concat (lines_from l.net (seen l.initial.core) l.from (take (l.to - l.from) (drop l.from (spread l.runs))));
}
