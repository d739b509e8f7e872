-- The wires and nodes that a term's arguments have in its net, and which numbers may be arguments.
use Rattle.std.specs.Prelude.{ℕ, zero, suc, ◌<◌, ◌^◌, List, [], ◌∷◌, ◌++◌, length}
use Rattle.pcf_values.specs.Terms.{TyTree, nat, TermTree}
use Rattle.net_build.specs.declared.node.Node.{Node}
use Rattle.net_build.specs.declared.node.Node.TheVariants.{Const, App, BoxNode, Root}
use Rattle.net_build.specs.Nets.{WireTree, NetTree, value_wire, bang_wire}
use Rattle.net_build.specs.NetOf.{Part, domain, codomain, part}

-- each is a number that a program may have
abbrev pub AreNumbers : List ℕ → Type 0
AreNumbers [] = Unit {0}
AreNumbers (v ∷ vs) = (v < 2 ^ 64) × AreNumbers vs

-- The wires of so many arguments of a term of this type: of each one its number's, in the box; the box's; and that of the application.
abbrev pub argument_wires : TyTree → ℕ → List WireTree
argument_wires t zero = []
argument_wires t (suc n) = value_wire 1 nat ∷ bang_wire 0 (domain t) ∷ value_wire 0 (codomain t) ∷ argument_wires (codomain t) n

-- Their nodes, where w is the next wire and o the function's value wire: of each one its number, its box, and the application.
abbrev pub argument_nodes : (w o : ℕ) → List ℕ → List Node
argument_nodes w o [] = []
argument_nodes w o (v ∷ vs) =
    Const v w ∷ BoxNode w (suc w) ∷ App o (suc w) (suc (suc w)) ∷ argument_nodes (suc (suc (suc w))) (suc (suc w)) vs

-- the value wire of the whole
abbrev pub last_wire : (w o : ℕ) → ℕ → ℕ
last_wire w o zero = o
last_wire w o (suc n) = last_wire (suc (suc (suc w))) (suc (suc w)) n

-- the part of a closed term
abbrev pub closed_part : TermTree → Part
closed_part m = part zero zero [] m

-- a closed part, and after it so many arguments, and a root
abbrev pub with_arguments : Part → List ℕ → NetTree
with_arguments p vs = record {
  wires = p.wires ++ argument_wires p.type (length vs);
  nodes = p.nodes ++ (argument_nodes (length p.wires) p.out vs ++ Root (last_wire (length p.wires) p.out (length vs)) ∷ []);
}
