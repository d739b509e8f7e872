use Rattle.std.proofs.Common.{◌≡◌, ◌+◌, ◌^◌, ◌<◌, ◌++◌, length}
use Rattle.goi_reports.specs.Tallies.{tally_lines}
use Rattle.goi_reports.proofs.counts.push_tally_lines.Given as goal

abbrev pub invariant-loop-rest : goal.invariant-loop-rest
invariant-loop-rest l = record {
  few : l.worker + length l.rest < 2 ^ 32;
  text : l.report.items ++ tally_lines l.worker l.rest ≡ l.fn.report.items ++ tally_lines 0 l.counts;
}

abbrev pub decreases-loop-rest : goal.decreases-loop-rest
decreases-loop-rest l = length l.rest
