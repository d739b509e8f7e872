use Rattle.test_core.proofs.KeyByKey.{arrived_here, arrived_others}
use Rattle.test_core.proofs.keys.arrive.Goals as goal

pub returns-clause-here : goal.returns-clause-here
returns-clause-here c = arrived_here _ _ _ _ _ c.arrive.ensures.rest

pub returns-clause-others : goal.returns-clause-others
returns-clause-others c = arrived_others _ _ _ _ _ c.arrive.ensures.rest
