use Rattle.std.proofs.Common.{rules}
use Rattle.batch_lists.proofs.list.read_job.Goals as goal

pub returns : goal.returns
returns c = search rules
