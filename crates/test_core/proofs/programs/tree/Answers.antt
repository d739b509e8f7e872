use Rattle.pcf_values.specs.Views.{named_of}
use Rattle.test_core.proofs.programs.tree.Goals as goal

pub returns-in-Ok-clause-size : goal.returns-in-Ok-clause-size
returns-in-Ok-clause-size c = (c.law_bounded.ensures c.as_bytes.result.now (named_of c.in-Ok.tree) c.in-Ok.ensures.found).1

pub returns-in-Ok-clause-height : goal.returns-in-Ok-clause-height
returns-in-Ok-clause-height c = (c.law_bounded.ensures c.as_bytes.result.now (named_of c.in-Ok.tree) c.in-Ok.ensures.found).2
