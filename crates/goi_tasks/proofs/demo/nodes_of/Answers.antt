use Rattle.std.proofs.Common.{rules}
use Rattle.goi_tasks.proofs.demo.nodes_of.Goals as goal

pub returns : goal.returns
returns c = search rules
