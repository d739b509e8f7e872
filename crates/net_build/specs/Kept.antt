-- What a net keeps of its lists: each has fewer than 2 ^ 32 entries, and both indexes are those of the nodes.
use Rattle.std.specs.Prelude.{◌<◌, ◌^◌, ℕ, List, length, Option, Some, None, slice_get}
use Rattle.net_build.specs.declared.wire.Wire.{Wire}
use Rattle.net_build.specs.declared.node.Node.{Node}
use Rattle.net_build.specs.Nets.{premises, conclusions}
use Rattle.net_build.specs.Index.{Indexes}

pub record Kept (wires : List Wire) (nodes : List Node) (above below : List (Option ℕ)) : Type 0 where
  pub few_wires : length wires < 2 ^ 32
  pub few_nodes : length nodes < 2 ^ 32
  pub above_each : Indexes conclusions (length wires) 0 nodes above
  pub below_each : Indexes premises (length wires) 0 nodes below

-- the entry of a number, where there is one
abbrev pub entry_in : Option (Option ℕ) → Option ℕ
entry_in None = None
entry_in (Some o) = o

abbrev pub entry_at : List (Option ℕ) → ℕ → Option ℕ
entry_at index n = entry_in (slice_get index n)
