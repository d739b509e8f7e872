use Rattle.std.proofs.Common.{length, map, refl}
use Rattle.joined_data.specs.Views.{row_view}
use Rattle.joined_fields.specs.Views.{field_view}
use Rattle.joined_fields.proofs.Arms.{first_arms, next_arms, last_arms}
use Rattle.joined_fields.proofs.finds.key_arms.Goals as goal

pub loop-key-init : goal.loop-key-init
loop-key-init c =
    first_arms c.args.bits c.args.tag (map field_view c.args.fields.now) (map row_view c.args.rows.now) _ (length c.args.rows.now) _
    c.in_ok-arms.ensures refl

pub loop-key-preserved : goal.loop-key-preserved
loop-key-preserved c =
    next_arms c.args.bits c.args.tag (map field_view c.args.fields.now) (map row_view c.args.rows.now) c.loop-key.key
    (length c.args.rows.now) _ _ c.loop-key-test.true c.loop-key.invariant.1 c.loop-key.invariant.0 c.in_ok-arms-2.ensures

pub returns : goal.returns
returns c =
    last_arms c.args.bits c.args.tag (map field_view c.args.fields.now) (map row_view c.args.rows.now) c.loop-key.key
    (length c.args.rows.now) _ c.loop-key-test.false c.loop-key.invariant.0
