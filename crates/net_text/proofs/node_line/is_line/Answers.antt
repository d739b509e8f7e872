use Rattle.std.proofs.Common.{rules}
use Rattle.net_text.proofs.node_line.is_line.Goals as goal

pub returns : goal.returns
returns c = search rules
