use Rattle.std.proofs.Common.{rules}
use Rattle.goi_batches.proofs.sections.batch_status.Goals as goal

pub returns-then-some_is : goal.returns-then-some_is
returns-then-some_is c = search rules

pub returns-then-some_is-2 : goal.returns-then-some_is-2
returns-then-some_is-2 c = search rules

pub returns-else-some_is-2 : goal.returns-else-some_is-2
returns-else-some_is-2 c = search rules
