use Rattle.fork_join.proofs.Nesting.{seen_has}
use Rattle.fork_join.proofs.table.JoinTable.has.Goals as goal

pub returns : goal.returns
returns c =
    let seen = seen_has c.self.inside.nodes c.args.self.now c.self.view_is c.args.node c.args.boxes.now c.self.invariant in
    (λ h. seen.0 (c.has_in.ensures.0 h), λ h. c.has_in.ensures.1 (seen.1 h))
