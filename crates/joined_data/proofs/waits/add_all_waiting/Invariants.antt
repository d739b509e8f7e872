use Rattle.std.proofs.Common.{length, ◌-◌, ◌≡◌, ◌++◌, ◌≤◌, map}
use Rattle.joined_module.specs.Module.{waiting_rows}
use Rattle.joined_data.specs.Views.{row_view}
use Rattle.joined_data.proofs.waits.add_all_waiting.Given as goal

abbrev pub invariant-loop-key : goal.invariant-loop-key
invariant-loop-key l =
    (map row_view l.found.items ++ waiting_rows (map row_view l.rows) l.key (length l.rows - l.key)
    ≡ map row_view l.fn.found.items ++ waiting_rows (map row_view l.rows) 0 (length l.rows)) × (l.key ≤ length l.rows)

abbrev pub decreases-loop-key : goal.decreases-loop-key
decreases-loop-key l = length l.rows - l.key
