-- A net with another number at one of its nodes, which is named by its place in the list of nodes. Everything else stays.
use Rattle.std.specs.Prelude.{ℕ, zero, suc, List, [], ◌∷◌}
use Rattle.net_build.specs.declared.node.Node.{Node}
use Rattle.net_build.specs.declared.node.Node.TheVariants.{Const}
use Rattle.net_build.specs.Nets.{NetTree}

-- a number's node with this number; another node as it is
abbrev pub set_number : ℕ → Node → Node
set_number v (Const u w) = Const v w
set_number v n = n

abbrev pub set_at : ℕ → ℕ → List Node → List Node
set_at i v [] = []
set_at zero v (n ∷ ns) = set_number v n ∷ ns
set_at (suc i) v (n ∷ ns) = n ∷ set_at i v ns

abbrev pub with_number : NetTree → ℕ → ℕ → NetTree
with_number net i v = record { wires = net.wires; nodes = set_at i v net.nodes }
