use Rattle.std.proofs.Common.{rules}
use Rattle.net_text.proofs.node_line.constant.Goals as goal

pub returns-in-len2 : goal.returns-in-len2
returns-in-len2 c = search rules
