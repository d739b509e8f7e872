-- The wire of a root, where a node is one. Only the code's search for the first root speaks of these.
use Rattle.std.specs.Prelude.{ℕ, Option, Some, None}
use Rattle.net_build.specs.declared.node.Node.{Node}
use Rattle.net_build.specs.declared.node.Node.TheVariants.{Root}

abbrev pub root_at : Node → Option ℕ
root_at (Root w) = Some w
root_at n = None
