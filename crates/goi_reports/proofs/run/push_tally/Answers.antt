use Rattle.std.proofs.Common.{ap, arith, length}
use Rattle.schedule_log.specs.KeptRuns.{spread}
use Rattle.goi_reports.proofs.Counting.{tally_length}
use Rattle.goi_reports.proofs.run.push_tally.Goals as goal

pub push_tally_lines-requires : goal.push_tally_lines-requires
push_tally_lines-requires c = omega (
  arith,
  c.requires.few,
  ap length c.deref.ensures.value,
  ap length c.in_ok-counts.ensures.counted,
  tally_length (spread c.runs.result.now) c.args.workers,
)
