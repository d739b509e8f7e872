use Rattle.std.proofs.Common.{[], refl}
use Rattle.token_stacks.proofs.Laid.{stands, reads}
use Rattle.token_stacks.proofs.stacks.Stacks.empty.Goals as goal

pub invariant_of-result : goal.invariant_of-result
invariant_of-result c =
    stands [] [] _ _ (record { words = c.new.ensures.items; ends = refl })

pub returns : goal.returns
returns c =
    reads [] [] _ _ (record { words = c.new.ensures.items; ends = refl })
