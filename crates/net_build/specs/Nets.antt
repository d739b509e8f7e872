-- Nets: a list of wires and a list of nodes, and which wires each node stands below and above.
-- A wire is known by its place in the list of wires, and a node by its place in the list of nodes. A node names its wires in the
-- order of the listing, so that the code's own type of nodes serves as it is; a wire's type is seen as a tree.
-- A list of lists would do for both sides of a node, but each row is written out, since the two tables are what a reader looks up.
use Rattle.std.specs.Prelude.{ℕ, List, [], ◌∷◌}
use Rattle.pcf_values.specs.Terms.{TyTree}
use Rattle.net_build.specs.declared.wire.WireKind.{WireKind}
use Rattle.net_build.specs.declared.wire.WireKind.TheVariants.{Value, Bang, Variable}
use Rattle.net_build.specs.declared.node.Node.{Node}
use Rattle.net_build.specs.declared.node.Node.TheVariants.{Const, Succ, Pred, Ifz, Der, Con, Weak, Lam, App, BoxNode, Binary, Proj}
use Rattle.net_build.specs.declared.node.Node.TheVariants.{Door, FixBox, Root, Pair}

-- a wire: what it carries, in how many boxes it stands, and its type
pub record WireTree : Type 0 where
  pub kind : WireKind
  pub depth : ℕ
  pub type : TyTree

pub record NetTree : Type 0 where
  pub wires : List WireTree
  pub nodes : List Node

-- the value of a term
abbrev pub value_wire : ℕ → TyTree → WireTree
value_wire d t = record { kind = Value; depth = d; type = t }

-- an argument in its box
abbrev pub bang_wire : ℕ → TyTree → WireTree
bang_wire d t = record { kind = Bang; depth = d; type = t }

-- the uses of a variable
abbrev pub var_wire : ℕ → TyTree → WireTree
var_wire d t = record { kind = Variable; depth = d; type = t }

-- the wires above a node: it stands below them
abbrev pub premises : Node → List ℕ
premises (Const value wire) = []
premises (Succ operand wire) = operand ∷ []
premises (Pred operand wire) = operand ∷ []
premises (Binary operator left right wire) = left ∷ right ∷ []
premises (Ifz condition at_zero otherwise wire) = condition ∷ at_zero ∷ otherwise ∷ []
premises (Der wire variable) = []
premises (Con left right wire) = left ∷ right ∷ []
premises (Weak variable) = []
premises (Lam body variable wire) = body ∷ variable ∷ []
premises (App function argument wire) = function ∷ argument ∷ []
premises (BoxNode inside outside) = inside ∷ []
premises (Door inside outside) = inside ∷ []
premises (FixBox body variable wire) = body ∷ variable ∷ []
premises (Root wire) = wire ∷ []
premises (Pair left right wire) = left ∷ right ∷ []
premises (Proj side operand wire) = operand ∷ []

-- the wires below a node: it stands above them
abbrev pub conclusions : Node → List ℕ
conclusions (Const value wire) = wire ∷ []
conclusions (Succ operand wire) = wire ∷ []
conclusions (Pred operand wire) = wire ∷ []
conclusions (Binary operator left right wire) = wire ∷ []
conclusions (Ifz condition at_zero otherwise wire) = wire ∷ []
conclusions (Der wire variable) = wire ∷ variable ∷ []
conclusions (Con left right wire) = wire ∷ []
conclusions (Weak variable) = variable ∷ []
conclusions (Lam body variable wire) = wire ∷ []
conclusions (App function argument wire) = wire ∷ []
conclusions (BoxNode inside outside) = outside ∷ []
conclusions (Door inside outside) = outside ∷ []
conclusions (FixBox body variable wire) = wire ∷ []
conclusions (Root wire) = []
conclusions (Pair left right wire) = wire ∷ []
conclusions (Proj side operand wire) = wire ∷ []
