use Rattle.interleave_core.specs.Parts.{state_of}
use Rattle.interleave_core.proofs.Owned.{own_few}
use Rattle.interleave_core.proofs.machine.Core.step_own.Goals as goal

pub invariant_of-self : goal.invariant_of-self
invariant_of-self c =
    own_few c.args.net.now (state_of c.self.inside.parts) (state_of c.step_own.new.parts) c.args.ticket c.step_own.result c.self.invariant
    c.step_own.ensures.ok c.step_own.ensures.err
