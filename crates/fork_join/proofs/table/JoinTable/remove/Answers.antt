use Rattle.fork_join.proofs.Nesting.{seen_removed}
use Rattle.fork_join.proofs.table.JoinTable.remove.Goals as goal

pub returns : goal.returns
returns c =
    let seen = seen_removed c.self.inside.nodes c.args.self.now c.self.view_is c.args.node c.args.boxes.now c.self.invariant in
    seen c.remove_in.new.nodes c.remove_in.ensures.ordered c.remove_in.ensures.rest
