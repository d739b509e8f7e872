-- A node's line, read from its beginning to its end, as a wire's line is: its form by its name, and then its numbers.
use Rattle.std.specs.Prelude.{◌^◌, ℕ, zero, suc, Bool, true, ◌&&◌, List, [], ◌∷◌, Option, Some, None, codes, decimal, nat_lt}
use Rattle.pcf_values.specs.declared.operator.Operator.TheVariants.{Plus, Minus, Times}
use Rattle.pcf_values.specs.declared.side.Side.TheVariants.{Left, Right}
use Rattle.net_build.specs.declared.node.Node.{Node}
use Rattle.net_build.specs.declared.node.Node.TheVariants.{Const, Succ, Pred, Binary, Ifz, Der, Con, Weak, Lam, App, BoxNode, Door, FixBox}
use Rattle.net_build.specs.declared.node.Node.TheVariants.{Root, Pair, Proj}
use Rattle.net_text.specs.declared.form.Form.{Form}
use Rattle.net_text.specs.declared.form.Form.TheVariants as form
use Rattle.net_text.specs.Listing.{numbers_of, operator_name, part_name}
use Rattle.net_text.specs.TypeText.{behind}
use Rattle.net_text.specs.WireText.{after, number_from}

-- the name of a form, behind a space
abbrev pub name_of : Form → List ℕ
name_of form.Const = codes " Const"
name_of form.Succ = codes " Succ"
name_of form.Pred = codes " Pred"
name_of (form.Binary operator) = operator_name operator
name_of form.Ifz = codes " Ifz"
name_of form.Der = codes " Der"
name_of form.Con = codes " Con"
name_of form.Weak = codes " Weak"
name_of form.Lam = codes " Lam"
name_of form.App = codes " App"
name_of form.BoxNode = codes " Box"
name_of form.Door = codes " Door"
name_of form.FixBox = codes " FixBox"
name_of form.Root = codes " Root"
name_of form.Pair = codes " Pair"
name_of (form.Proj side) = part_name side

-- how many numbers its line has
abbrev pub count_of : Form → ℕ
count_of form.Const = 2
count_of form.Succ = 2
count_of form.Pred = 2
count_of (form.Binary operator) = 3
count_of form.Ifz = 4
count_of form.Der = 2
count_of form.Con = 3
count_of form.Weak = 1
count_of form.Lam = 3
count_of form.App = 3
count_of form.BoxNode = 2
count_of form.Door = 2
count_of form.FixBox = 3
count_of form.Root = 1
count_of form.Pair = 3
count_of (form.Proj side) = 2

-- the forms, in the order in which their names are tried: `Const` before `Con`, with which it begins
abbrev pub all_forms : List Form
all_forms =
    form.Const ∷ form.Succ ∷ form.Pred ∷ form.Binary Plus ∷ form.Binary Minus ∷ form.Binary Times ∷ form.Ifz ∷ form.Der ∷ form.Con
    ∷ form.Weak ∷ form.Lam ∷ form.App ∷ form.BoxNode ∷ form.Door ∷ form.FixBox ∷ form.Root ∷ form.Pair ∷ form.Proj Left
    ∷ form.Proj Right ∷ []

-- the form whose name the text begins with, and what stands behind it; or else another form
abbrev pub this_form : Form → Option (List ℕ) → Option (Form × List ℕ) → Option (Form × List ℕ)
this_form f None o = o
this_form f (Some rest) o = Some (f, rest)

-- the first of these forms whose name the text begins with, and what stands behind it
abbrev pub form_among : List Form → List ℕ → Option (Form × List ℕ)
form_among [] bs = None
form_among (f ∷ fs) bs = this_form f (behind (name_of f) bs) (form_among fs bs)

-- no byte is left
abbrev pub no_more : List ℕ → Option (List ℕ)
no_more [] = Some []
no_more (b ∷ bs) = None

-- a number in front of those that were read
abbrev pub with_first : ℕ → Option (List ℕ) → Option (List ℕ)
with_first n None = None
with_first n (Some ns) = Some (n ∷ ns)

-- so many numbers, each behind a space, and the end of the line
abbrev pub numbers_in : ℕ → List ℕ → Option (List ℕ)
numbers_in zero bs = after (behind (codes "\n") bs) no_more
numbers_in (suc k) bs = after (behind (codes " ") bs) (λ rest. let d = number_from 0 rest in with_first d.0 (numbers_in k d.1))

-- the node of a form with one, two, three or four numbers, a constant aside
abbrev pub one_node : Form → ℕ → Option Node
one_node form.Weak a = Some (Weak a)
one_node form.Root a = Some (Root a)
one_node f a = None

-- with two
abbrev pub two_node : Form → ℕ → ℕ → Option Node
two_node form.Succ a b = Some (Succ a b)
two_node form.Pred a b = Some (Pred a b)
two_node form.Der a b = Some (Der a b)
two_node form.BoxNode a b = Some (BoxNode a b)
two_node form.Door a b = Some (Door a b)
two_node (form.Proj side) a b = Some (Proj side a b)
two_node f a b = None

-- with three
abbrev pub three_node : Form → ℕ → ℕ → ℕ → Option Node
three_node (form.Binary operator) a b w = Some (Binary operator a b w)
three_node form.Con a b w = Some (Con a b w)
three_node form.Lam a b w = Some (Lam a b w)
three_node form.App a b w = Some (App a b w)
three_node form.FixBox a b w = Some (FixBox a b w)
three_node form.Pair a b w = Some (Pair a b w)
three_node f a b w = None

-- with four
abbrev pub four_node : Form → ℕ → ℕ → ℕ → ℕ → Option Node
four_node form.Ifz c p q w = Some (Ifz c p q w)
four_node f c p q w = None

-- a constant, of two numbers
abbrev pub constant : List ℕ → Option Node
constant (v ∷ w ∷ []) = Some (Const v w)
constant ns = None

-- any other node, by how many numbers there are
abbrev pub small_node : Form → List ℕ → Option Node
small_node f (a ∷ []) = one_node f a
small_node f (a ∷ b ∷ []) = two_node f a b
small_node f (a ∷ b ∷ c ∷ []) = three_node f a b c
small_node f (a ∷ b ∷ c ∷ d ∷ []) = four_node f a b c d
small_node f ns = None

-- the node of a form with these numbers
abbrev pub node_with : Form → List ℕ → Option Node
node_with form.Const ns = constant ns
node_with f ns = small_node f ns

-- the node of a form, from its numbers on
abbrev pub from_form : Form × List ℕ → Option Node
from_form p = after (numbers_in (count_of p.0) p.1) (node_with p.0)

-- the node, from its name on
abbrev pub from_name : List ℕ → Option Node
from_name bs = after (form_among all_forms bs) from_form

-- the node, from its number on
abbrev pub from_count : ℕ → List ℕ → Option Node
from_count k bs = after (behind (decimal k) bs) from_name

-- the node of this line
abbrev pub node_in : ℕ → List ℕ → Option Node
node_in k line = after (behind (codes "node ") line) (from_count k)

-- the numbers of a node are those of the code
abbrev pub all_small : List ℕ → Bool
all_small [] = true
all_small (n ∷ ns) = nat_lt n (2 ^ 32) && all_small ns

-- the same as `NodeFits`, as a test
abbrev pub node_fits : Node → Bool
node_fits (Const v w) = nat_lt v (2 ^ 64) && nat_lt w (2 ^ 32)
node_fits n = all_small (numbers_of n)
