use Rattle.interleave_core.proofs.Owned.{walked_few}
use Rattle.interleave_core.proofs.machine.Core.walk.Goals as goal

pub invariant_of-self : goal.invariant_of-self
invariant_of-self c =
    walked_few c.args.net.now c.args.most c.go.result c.self.inside.parts.live c.go.new.self c.args.ticket c.self.inside.parts.next
    c.go.ensures.ok c.go.ensures.err
    c.self.invariant
