-- The names of a node's wires: NAME with the names of two wires is a row of the table of moves, as docs/WALK.md has it.
use Rattle.std.specs.Prelude.{ℕ, List, [], ◌∷◌, codes, nat_eq, if◌then◌else◌}
use Rattle.net_build.specs.declared.node.Node.{Node}
use Rattle.net_build.specs.declared.node.Node.TheVariants.{Const, Succ, Pred, Ifz, Der, Con, Weak, Lam, App, Binary, Proj}
use Rattle.net_build.specs.declared.node.Node.TheVariants.{BoxNode, Door, FixBox, Root, Pair}
use Rattle.net_build.specs.Nets.{premises, conclusions}
use Rattle.move_rules.specs.Places.{Place, up, down}

-- the names of the wires above a node, in the order of its premises
abbrev pub above_names : Node → List (List ℕ)
above_names (Const v w) = []
above_names (Succ a w) = codes "operand" ∷ []
above_names (Pred a w) = codes "operand" ∷ []
above_names (Binary o a b w) = codes "left" ∷ codes "right" ∷ []
above_names (Ifz c p q w) = codes "condition" ∷ codes "then" ∷ codes "else" ∷ []
above_names (Der w x) = []
above_names (Con l r w) = codes "left" ∷ codes "right" ∷ []
above_names (Weak x) = []
above_names (Lam b x w) = codes "body" ∷ codes "variable" ∷ []
above_names (App f a w) = codes "function" ∷ codes "argument" ∷ []
above_names (BoxNode i o) = codes "inside" ∷ []
above_names (Door i o) = codes "inside" ∷ []
above_names (FixBox b x w) = codes "body" ∷ codes "variable" ∷ []
above_names (Root w) = codes "value" ∷ []
above_names (Pair a b w) = codes "first" ∷ codes "second" ∷ []
above_names (Proj d a w) = codes "operand" ∷ []

-- the names of the wires below a node, in the order of its conclusions
abbrev pub below_names : Node → List (List ℕ)
below_names (Const v w) = codes "conclusion" ∷ []
below_names (Succ a w) = codes "conclusion" ∷ []
below_names (Pred a w) = codes "conclusion" ∷ []
below_names (Binary o a b w) = codes "conclusion" ∷ []
below_names (Ifz c p q w) = codes "conclusion" ∷ []
below_names (Der w x) = codes "value" ∷ codes "variable" ∷ []
below_names (Con l r w) = codes "conclusion" ∷ []
below_names (Weak x) = codes "variable" ∷ []
below_names (Lam b x w) = codes "conclusion" ∷ []
below_names (App f a w) = codes "conclusion" ∷ []
below_names (BoxNode i o) = codes "outside" ∷ []
below_names (Door i o) = codes "outside" ∷ []
below_names (FixBox b x w) = codes "conclusion" ∷ []
below_names (Root w) = []
below_names (Pair a b w) = codes "conclusion" ∷ []
below_names (Proj d a w) = codes "conclusion" ∷ []

-- the name of the first wire that is this one, and `-` where none is
abbrev pub port : List ℕ → List (List ℕ) → ℕ → List ℕ
port (x ∷ xs) (name ∷ names) w = if nat_eq x w then name else port xs names w
port _ _ w = codes "-"

-- the wire above a node, and the one below it
abbrev pub above_port : Node → ℕ → List ℕ
above_port n w = port (premises n) (above_names n) w

abbrev pub below_port : Node → ℕ → List ℕ
below_port n w = port (conclusions n) (below_names n) w

-- the wire by which a token comes that faces the node, and the one by which it has left it
abbrev pub comes_by : Node → Place → List ℕ
comes_by n (up w m t) = below_port n w
comes_by n (down w m t) = above_port n w

abbrev pub leaves_by : Node → Place → List ℕ
leaves_by n (up w m t) = above_port n w
leaves_by n (down w m t) = below_port n w
