use Rattle.std.proofs.Common.{◌≡◌, ◌++◌, ◌<◌, ℕ, map}
use Rattle.verilog_tree.specs.Views.{item_of}
use Rattle.verilog_run.specs.Held.{held}
use Rattle.verilog_waves.specs.Course.{after, before, Goes}
use Rattle.verilog_waves.specs.Dump.{edges_text}
use Rattle.verilog_waves.specs.Views.{shown_of}
use Rattle.verilog_waves.proofs.waves.push_edges.Given as goal

abbrev pub invariant-loop-k : goal.invariant-loop-k
invariant-loop-k l =
    (held l.store ≡ before (map item_of l.items) l.k)
    × ((j : ℕ) → j < l.k → Goes (after (map item_of l.items) j))
    × (l.text.items ≡ l.fn.text.items ++ edges_text (map shown_of l.names) (map item_of l.items) l.k)
