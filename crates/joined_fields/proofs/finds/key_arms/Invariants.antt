use Rattle.std.proofs.Common.{◌≡◌, ◌≤◌, ◌-◌, length, map}
use Rattle.verilog_tree.specs.Views.{arms_of}
use Rattle.joined_module.specs.Module.{key_arms}
use Rattle.joined_data.specs.Views.{row_view}
use Rattle.joined_fields.specs.Views.{field_view}
use Rattle.joined_fields.proofs.finds.key_arms.Given as goal

abbrev pub invariant-loop-key : goal.invariant-loop-key
invariant-loop-key l =
    (arms_of l.arms ≡ key_arms l.bits l.tag (map field_view l.fields) (map row_view l.rows) l.key (length l.rows - l.key))
    × (l.key ≤ length l.rows)

abbrev pub decreases-loop-key : goal.decreases-loop-key
decreases-loop-key l = l.key
