-- The node on a side of a wire: the least one, by number, that names the wire there.
-- In a sound net there is exactly one. In any other net the least is taken, so that each question has one answer; a number past the
-- list of wires is no wire, and no node stands at it.
use Rattle.std.specs.Prelude.{ℕ, zero, suc, Bool, false, true, List, [], ◌∷◌, length, Option, Some, None, nat_eq, nat_lt, if◌then◌else◌}
use Rattle.net_build.specs.declared.node.Node.{Node}
use Rattle.net_build.specs.Nets.{NetTree, premises, conclusions}

-- whether a number stands in a list
abbrev pub has : List ℕ → ℕ → Bool
has [] w = false
has (x ∷ xs) w = if nat_eq x w then true else has xs w

-- the least node that names the wire on that side, with its number, where the list is numbered from k on
abbrev pub least : (Node → List ℕ) → ℕ → List Node → ℕ → Option (ℕ × Node)
least side k [] w = None
least side k (n ∷ ns) w = if has (side n) w then Some (k, n) else least side (suc k) ns w

-- the least node that stands above the wire
abbrev pub node_above : NetTree → ℕ → Option (ℕ × Node)
node_above net w = if nat_lt w (length net.wires) then least conclusions zero net.nodes w else None

-- the least node that stands below the wire
abbrev pub node_below : NetTree → ℕ → Option (ℕ × Node)
node_below net w = if nat_lt w (length net.wires) then least premises zero net.nodes w else None
