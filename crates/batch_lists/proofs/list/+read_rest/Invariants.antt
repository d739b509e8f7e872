use Rattle.std.proofs.Common.{length}
use Rattle.batch_lists.proofs.list.+read_rest.Given as goal

abbrev pub decreases-read_rest : goal.decreases-read_rest
decreases-read_rest l = length l.bytes.now
