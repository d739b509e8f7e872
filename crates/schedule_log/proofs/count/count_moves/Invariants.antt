use Rattle.std.proofs.Common.{◌≡◌, ◌+◌, ◌≤◌, length, None}
use Rattle.pcf_values.specs.Most.{most_moves, most_schedule_bytes}
use Rattle.text_lines.specs.Lines.{lines}
use Rattle.schedule_log.specs.Reading.{counted, runs_from}
use Rattle.schedule_log.proofs.count.count_moves.Given as goal

abbrev pub invariant-loop-rest : goal.invariant-loop-rest
invariant-loop-rest l = record {
  few : l.moves ≤ most_moves;
  line : l.n + length l.rest ≤ most_schedule_bytes + 2;
  count : counted l.moves (runs_from l.version l.last l.moves l.n (lines l.rest)) ≡ counted 0
      (runs_from l.version None 0 2 (lines l.initial.rest));
}

abbrev pub decreases-loop-rest : goal.decreases-loop-rest
decreases-loop-rest l = length l.rest
