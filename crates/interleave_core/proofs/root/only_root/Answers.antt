use Rattle.std.proofs.Common.{rules, sym}
use Rattle.interleave_core.proofs.FirstRoot.{last_root}
use Rattle.interleave_core.proofs.root.only_root.Goals as goal

pub returns-in-Some-at : goal.returns-in-Some-at
returns-in-Some-at c = sym (last_root c.args.net.now.nodes c.in-Some-at.wire c.in-Some.last.now c.requires (search rules) (search rules))
