use Rattle.token_stacks.proofs.Laid.{same_test, other_test}
use Rattle.token_stacks.proofs.stacks.Stacks.same.Goals as goal

pub returns-then-self-other : goal.returns-then-self-other
returns-then-self-other c =
    same_test c.args.self.now c.args.other.now _ _ _ _ _ c.self.view_is c.self.invariant c.other.view_is c.other.invariant
    c.if-self-other.true c.eq.ensures

pub returns-else-self-other : goal.returns-else-self-other
returns-else-self-other c =
    other_test c.args.self.now c.args.other.now _ _ _ _ c.self.view_is c.self.invariant c.other.view_is c.other.invariant
    c.if-self-other.false
