-- What each step of the check answers. Only the code of the check speaks of these.
use Rattle.std.specs.Prelude.{◌≡◌, ◌<◌, ℕ, Option, Some, None, slice_get}
use Rattle.net_build.specs.declared.node.Node.{Node}
use Rattle.net_build.specs.Nets.{NetTree}
use Rattle.net_check.specs.declared.fault.NetFault.{NetFault}
use Rattle.net_check.specs.declared.fault.NetFault.TheVariants.{NoMemory, LooseWire, TypeClash, DepthClash, RootCount}
use Rattle.net_check.specs.Rows.{TypesMeet, DepthsMeet}
use Rattle.net_check.specs.Faults.{Held, MeetBelow}

-- the least number that isn't held, where there is one
abbrev pub IsFirstLoose : NetTree → Option ℕ → Type 0
IsFirstLoose net None = (n : ℕ) → Held net n
IsFirstLoose net (Some n) = ((m : ℕ) → m < n → Held net m) × ¬ Held net n

-- the first node that misses its row, and in which half
pub data RowFault (net : NetTree) : NetFault → Type 0 where
  in_types : (n : ℕ) (node : Node) → MeetBelow net n → slice_get net.nodes n ≡ Some node → ¬ TypesMeet net node → RowFault net (TypeClash n)
  in_depths : (n : ℕ) (node : Node) → MeetBelow net n → slice_get net.nodes n ≡ Some node → TypesMeet net node → ¬ DepthsMeet net node
      → RowFault net (DepthClash n)

-- what node n misses of its row: nothing, or kinds and types, or depths alone
abbrev pub IsNodeFault : NetTree → ℕ → Node → Option NetFault → Type 0
IsNodeFault net n node None = TypesMeet net node × DepthsMeet net node
IsNodeFault net n node (Some (TypeClash m)) = (m ≡ n) × ¬ TypesMeet net node
IsNodeFault net n node (Some (DepthClash m)) = (m ≡ n) × TypesMeet net node × ¬ DepthsMeet net node
IsNodeFault net n node (Some (LooseWire m)) = ⊥
IsNodeFault net n node (Some (RootCount m)) = ⊥
IsNodeFault net n node (Some NoMemory) = ⊥
