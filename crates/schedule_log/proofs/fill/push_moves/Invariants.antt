use Rattle.std.proofs.Common.{◌+◌, ◌≤◌, length, None}
use Rattle.pcf_values.specs.Most.{most_moves, most_schedule_bytes}
use Rattle.text_lines.specs.Lines.{lines}
use Rattle.schedule_log.specs.Schedules.{tickets_of}
use Rattle.schedule_log.specs.Logs.{read_entries}
use Rattle.schedule_log.specs.Reading.{runs_from, runs_or_none}
use Rattle.schedule_log.proofs.Filling.{Fills}
use Rattle.schedule_log.proofs.fill.push_moves.Given as goal

abbrev pub invariant-loop-rest : goal.invariant-loop-rest
invariant-loop-rest l = record {
  few : l.moves ≤ most_moves;
  line : l.n + length l.rest ≤ most_schedule_bytes + 2;
  fills : Fills l.log l.moves (runs_from l.version l.last l.moves l.n (lines l.rest)) l.initial.log.room
      (read_entries (tickets_of (runs_or_none (runs_from l.version None 0 2 (lines l.initial.rest)))));
}

abbrev pub decreases-loop-rest : goal.decreases-loop-rest
decreases-loop-rest l = length l.rest
