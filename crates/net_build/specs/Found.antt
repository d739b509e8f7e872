-- What is kept of a node that was found on a side of a wire: its number; and which numbers of a list are there.
use Rattle.std.specs.Prelude.{ℕ, List, [], ◌∷◌, Option, Some, None}
use Rattle.net_build.specs.declared.node.Node.{Node}

-- the number of a node that was found
abbrev pub number_of : Option (ℕ × Node) → Option ℕ
number_of None = None
number_of (Some f) = Some f.0

-- the numbers of a list that are there
abbrev pub present : List (Option ℕ) → List ℕ
present [] = []
present (None ∷ xs) = present xs
present (Some x ∷ xs) = x ∷ present xs
