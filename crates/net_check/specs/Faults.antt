-- The first fault of a net: the count of roots is looked at first, then the wires by number, and then the nodes by number.
-- It is a relation, so that each fault is told with what must hold before it; a sound net has no first fault, and any other net has one.
use Rattle.std.specs.Prelude.{◌≡◌, ◌≢◌, ◌<◌, ◌≤◌, ℕ, length, Some, slice_get}
use Rattle.net_build.specs.declared.node.Node.{Node}
use Rattle.net_build.specs.Nets.{NetTree, premises, conclusions}
use Rattle.net_build.specs.Sound.{named, roots}
use Rattle.net_check.specs.declared.fault.NetFault.{NetFault}
use Rattle.net_check.specs.declared.fault.NetFault.TheVariants.{LooseWire, TypeClash, DepthClash, RootCount}
use Rattle.net_check.specs.Rows.{TypesMeet, DepthsMeet}

-- a wire of the list that stands once on each side, or a number past the list that no node names
abbrev pub Held : NetTree → ℕ → Type 0
Held net n =
    (n < length net.wires → (named conclusions net.nodes n ≡ 1) × (named premises net.nodes n ≡ 1)) ×
    (length net.wires ≤ n → (named conclusions net.nodes n ≡ 0) × (named premises net.nodes n ≡ 0))

-- each node below this number meets its row
abbrev pub MeetBelow : NetTree → ℕ → Type 0
MeetBelow net n = (m : ℕ) (node : Node) → m < n → slice_get net.nodes m ≡ Some node → TypesMeet net node × DepthsMeet net node

pub data FirstFault (net : NetTree) : NetFault → Type 0 where
  -- there isn't exactly one root
  root_count : roots net.nodes ≢ 1 → FirstFault net (RootCount (roots net.nodes))
  -- the least number that isn't held
  loose_wire : (n : ℕ) → roots net.nodes ≡ 1 → ((m : ℕ) → m < n → Held net m) → ¬ Held net n → FirstFault net (LooseWire n)
  -- the least node that misses its row, in kinds or types
  type_clash : (n : ℕ) (node : Node) → roots net.nodes ≡ 1 → ((m : ℕ) → Held net m) → MeetBelow net n → slice_get net.nodes n ≡ Some node
      → ¬ TypesMeet net node → FirstFault net (TypeClash n)
  -- the same, in depths alone
  depth_clash : (n : ℕ) (node : Node) → roots net.nodes ≡ 1 → ((m : ℕ) → Held net m) → MeetBelow net n → slice_get net.nodes n ≡ Some node
      → TypesMeet net node → ¬ DepthsMeet net node → FirstFault net (DepthClash n)
