-- The index that a net keeps beside its lists: for each wire the number of the least node on one side of it.
use Rattle.std.specs.Prelude.{◌≡◌, ◌<◌, ℕ, List, [], ◌∷◌, length, Option, Some, slice_get, slice_set}
use Rattle.net_build.specs.declared.node.Node.{Node}
use Rattle.net_build.specs.declared.index.Face.{Face}
use Rattle.net_build.specs.declared.index.Face.TheVariants.{Above, Below}
use Rattle.net_build.specs.Nets.{premises, conclusions}
use Rattle.net_build.specs.Faces.{least}
use Rattle.net_build.specs.Found.{number_of}

-- the wires that have the node on this side of them
abbrev pub wires_with : Face → Node → List ℕ
wires_with Above = conclusions
wires_with Below = premises

-- for each of so many wires the least of these nodes, numbered from k on
pub record Indexes (side : Node → List ℕ) (count k : ℕ) (nodes : List Node) (index : List (Option ℕ)) : Type 0 where
  pub size : length index ≡ count
  pub entry : (w : ℕ) → w < count → slice_get index w ≡ Some (number_of (least side k nodes w))

-- number k is written at each of these wires; what lies past the list is left out
abbrev pub marked : ℕ → List ℕ → List (Option ℕ) → List (Option ℕ)
marked k [] index = index
marked k (w ∷ ws) index = marked k ws (slice_set index w (Some k))
