-- The types of a term's variables at the places where they are used, and of the nodes of a net that use variables.
-- The net of a term has one such node for each use, in the same order, on a wire of the variable's type. So a net in which the two lists
-- differ is no net of the term, and it can be told so before the term's own net is built: its types could be far longer than the
-- listed ones.
use Rattle.std.specs.Prelude.{◌≡◌, Bool, true, false, List, [], ◌∷◌, ◌++◌, drop, ℕ, slice_get}
use Rattle.pcf_values.specs.Terms.{TyTree, TermTree, num, var, succ_of, pred_of, binary, ifz, lam, fix, app, pair, proj}
use Rattle.net_build.specs.declared.node.Node.{Node}
use Rattle.net_build.specs.declared.node.Node.TheVariants.{Der}
use Rattle.net_build.specs.Nets.{NetTree, WireTree}
use Rattle.net_build.specs.NetOf.{type_or_nat}
use Rattle.net_terms.specs.TermOf.{type_at}

-- the types of the variables where a term uses them, from left to right
abbrev pub used_types : List TyTree → TermTree → List TyTree
used_types g (num n) = []
used_types g (var i) = type_or_nat (slice_get g i) ∷ []
used_types g (succ_of m) = used_types g m
used_types g (pred_of m) = used_types g m
used_types g (binary o m l) = used_types g m ++ used_types g l
used_types g (ifz i m l) = used_types g i ++ (used_types g m ++ used_types g l)
used_types g (lam a m) = used_types (a ∷ g) m
used_types g (fix a m) = used_types (a ∷ g) m
used_types g (app m l) = used_types g m ++ used_types g l
used_types g (pair m l) = used_types g m ++ used_types g l
used_types g (proj s m) = used_types g m

-- the types of the value wires of the nodes that use variables, by the order of the nodes
abbrev pub using_types : List WireTree → List Node → List TyTree
using_types ws [] = []
using_types ws (Der w x ∷ ns) = type_at ws w ∷ using_types ws ns
using_types ws (n ∷ ns) = using_types ws ns

-- the same behind the first k nodes
abbrev pub using_behind : NetTree → ℕ → List TyTree
using_behind net k = using_types net.wires (drop k net.nodes)

-- these uses come first, and others are left; or they don't come first
abbrev pub ComeFirst : Bool → List TyTree → List TyTree → List TyTree → Type 0
ComeFirst true before uses after = before ≡ uses ++ after
ComeFirst false before uses after = (rest : List TyTree) → before ≡ uses ++ rest → ⊥
