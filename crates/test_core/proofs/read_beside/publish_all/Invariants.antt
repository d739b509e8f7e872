use Rattle.std.proofs.Common.{◌≤◌}
use Rattle.progress_meter.specs.Last.{last_of}
use Rattle.test_core.proofs.read_beside.publish_all.Given as goal

abbrev pub invariant-loop-n : goal.invariant-loop-n
invariant-loop-n g l = last_of l.writer.published ≤ l.n
