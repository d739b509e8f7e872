use Rattle.fork_join.specs.Entries.{pending}
use Rattle.test_core.proofs.KeyByKey.{put_here, put_others}
use Rattle.test_core.proofs.keys.begin.Goals as goal

pub returns-clause-here : goal.returns-clause-here
returns-clause-here c =
    put_here c.args.table.now c.begin.new.self c.args.node _ c.args.boxes.now c.in_ok-copy.ensures pending c.begin.result c.begin.ensures.ok

pub returns-clause-others : goal.returns-clause-others
returns-clause-others c =
    let others = put_others c.args.table.now c.begin.new.self c.args.node _ c.args.boxes.now c.in_ok-copy.ensures pending in
    others c.begin.result c.begin.ensures.ok
