use Rattle.demo_text.proofs.Typed.{demo_size}
use Rattle.demo_text.proofs.laws.law_demo_size.Goals as goal

pub returns : goal.returns
returns c = demo_size
