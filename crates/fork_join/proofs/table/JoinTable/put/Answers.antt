use Rattle.fork_join.proofs.Nesting.{seen_put, seen_kept, on_ok, on_err}
use Rattle.fork_join.proofs.table.JoinTable.put.Goals as goal

pub returns-clause-ok : goal.returns-clause-ok
returns-clause-ok c =
    let seen = seen_put c.self.inside.nodes c.args.self.now c.self.view_is c.args.node c.args.boxes c.self.invariant in
    on_ok c.put_in.result c.put_in.ensures.ok (seen c.put_in.new.nodes c.args.kept c.put_in.ensures.ordered)

pub returns-clause-err : goal.returns-clause-err
returns-clause-err c =
    let seen = seen_kept c.self.inside.nodes c.args.self.now c.self.view_is c.args.node c.args.boxes c.self.invariant in
    on_err c.put_in.result c.put_in.ensures.err (seen c.put_in.new.nodes c.put_in.ensures.ordered)
