use Rattle.std.proofs.Common.{length, map, arith}
use Rattle.joined_data.specs.Views.{row_view}
use Rattle.joined_data.proofs.Keys.{one_more}
use Rattle.joined_data.proofs.waits.add_all_waiting.Goals as goal

pub loop-key-preserved : goal.loop-key-preserved
loop-key-preserved c =
    one_more (map row_view c.args.rows.now) (length c.args.rows.now) c.loop-key.key _ _ _ c.loop-key-test.true c.loop-key.invariant.0
    c.in_ok-add_waiting.ensures
