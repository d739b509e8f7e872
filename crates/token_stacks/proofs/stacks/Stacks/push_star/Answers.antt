use Rattle.std.proofs.Common.{◌∷◌}
use Rattle.token_stacks.specs.Signatures.{S, star}
use Rattle.token_stacks.proofs.Laid.{lies, stands, reads, pushed}
use Rattle.token_stacks.proofs.stacks.Stacks.push_star.Goals as goal

pub invariant_of-self-2 : goal.invariant_of-self-2
invariant_of-self-2 c =
    let e = lies c.args.self.now _ _ c.self.view_is c.self.invariant in
    stands (S star ∷ c.args.self.now.work) c.args.self.now.boxes _ _ (pushed (S star) _ _ _ _ _ e c.in_ok-append.ensures.ok)

pub returns-clause-ok : goal.returns-clause-ok
returns-clause-ok c =
    let e = lies c.args.self.now _ _ c.self.view_is c.self.invariant in
    reads (S star ∷ c.args.self.now.work) c.args.self.now.boxes _ _ (pushed (S star) _ _ _ _ _ e c.in_ok-append.ensures.ok)
