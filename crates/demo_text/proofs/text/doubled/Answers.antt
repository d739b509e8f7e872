use Rattle.std.proofs.Common.{rules}
use Rattle.demo_text.proofs.text.doubled.Goals as goal

pub returns : goal.returns
returns c = search rules
