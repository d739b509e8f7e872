use Rattle.std.proofs.Common.{◌∙◌}
use Rattle.test_core.proofs.KeyByKey.{nothing}
use Rattle.test_core.proofs.keys.meet_apart.Goals as goal

pub begin-requires : goal.begin-requires
begin-requires c = nothing c.args.table.now (c.args.a, c.args.s.now) c.requires.fresh

pub begin-requires-2 : goal.begin-requires-2
begin-requires-2 c = c.in_ok-begin.ensures.others _ c.requires.apart.1 ∙
    nothing c.args.table.now (c.args.b, c.args.t.now) c.requires.fresh
