use Rattle.std.proofs.Common.{◌≡◌, ◌+◌, ◌*◌, ◌^◌, ◌≤◌, ◌++◌, length}
use Rattle.goi_reports.specs.Spans.{most_rounds, round_lines}
use Rattle.goi_reports.proofs.span.push_profile.Given as goal

abbrev pub invariant-loop-rest : goal.invariant-loop-rest
invariant-loop-rest l = record {
  few : l.number + length l.rest ≤ most_rounds + 1;
  small : l.moves ≤ l.number * 2 ^ 32;
  text : l.report.items ++ round_lines l.number l.moves l.rest ≡ l.fn.report.items ++ round_lines 1 0 l.widths;
}

abbrev pub decreases-loop-rest : goal.decreases-loop-rest
decreases-loop-rest l = length l.rest
