-- A net with other numbers at some of its nodes: these nodes are named by their places in the list of nodes, and everything else
-- stays.
use Rattle.std.specs.Prelude.{ℕ, zero, suc, List, [], ◌∷◌, length, Option, Some, None, nat_eq, if◌then◌else◌}
use Rattle.pcf_values.specs.Terms.{TermTree}
use Rattle.net_build.specs.declared.node.Node.{Node}
use Rattle.net_build.specs.Nets.{NetTree}
use Rattle.net_build.specs.Numbers.{set_number}
use Rattle.open_net_laws.specs.Arguments.{closed_part}

-- where a number is given
abbrev pub set_given : Option ℕ → Node → Node
set_given None n = n
set_given (Some v) n = set_number v n

-- each node, numbered from k on, with the number that is given for it
abbrev pub set_all : (ℕ → Option ℕ) → ℕ → List Node → List Node
set_all f k [] = []
set_all f k (n ∷ ns) = set_given (f k) n ∷ set_all f (suc k) ns

-- what is given for a node: the first of these places that it is has its value
abbrev pub given : List ℕ → List ℕ → ℕ → Option ℕ
given [] vs i = None
given (p ∷ ps) [] i = None
given (p ∷ ps) (v ∷ vs) i = if nat_eq p i then Some v else given ps vs i

-- the net with these values at these places
abbrev pub with_numbers : NetTree → (places values : List ℕ) → NetTree
with_numbers net ps vs = record { wires = net.wires; nodes = set_all (given ps vs) 0 net.nodes }

-- so many places, each the third after the one before, from k on
abbrev pub places_from : ℕ → ℕ → List ℕ
places_from k zero = []
places_from k (suc n) = k ∷ places_from (suc (suc (suc k))) n

-- the nodes of the numbers to which a term is applied, in its net: behind all nodes of the term, and so that the root is the last node
abbrev pub places : TermTree → ℕ → List ℕ
places m n = places_from (length (closed_part m).nodes) n
