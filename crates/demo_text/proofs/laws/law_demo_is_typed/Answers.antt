use Rattle.demo_text.proofs.Typed.{demo_is_typed}
use Rattle.demo_text.proofs.laws.law_demo_is_typed.Goals as goal

pub returns : goal.returns
returns c = demo_is_typed
