-- What the definition of scope and types is worth: it accepts just the trees that stand for a typed term, and gives that term and its
-- type. The statements speak of resolution and of the typing relation, neither of which has an order or a fault.
use Rattle.std.specs.Prelude.{◌≡◌, ◌≢◌, ℕ, List, map, Ok, Err}
use Rattle.pcf_values.specs.Terms.{TyTree, TermTree, size, height}
use Rattle.pcf_values.specs.Typing.{HasType}
use Rattle.pcf_values.specs.Named.{NamedTree, named_height}
use Rattle.pcf_values.specs.NamedSize.{named_size}
use Rattle.pcf_types.specs.declared.fault.TypeFault.TheVariants.{NoMemory}
use Rattle.pcf_types.specs.Checking.{Context, type_of}
use Rattle.pcf_types.specs.Numbers.{NumbersFit}
use Rattle.pcf_types.specs.Resolution.{Resolves}

-- the names and the types of a context's binders
abbrev pub names_in : Context → List (List ℕ)
names_in g = map (λ b. b.0) g

abbrev pub types_in : Context → List TyTree
types_in g = map (λ b. b.1) g

-- What is accepted is the term that the tree stands for, and it has the type by the typing relation where each number of the tree is a
-- value: the checker asks no size of a number, and the typing relation does. A tree that the code accepts has only such numbers.
abbrev pub AcceptedIsTyped : Type 0
AcceptedIsTyped = (g : Context) (tree : NamedTree) (m : TermTree) (t : TyTree) →
    type_of g tree ≡ Ok (m, t) → Resolves (names_in g) tree m × (NumbersFit tree → HasType (types_in g) m t)

-- a tree that stands for a typed term is accepted, as that term with that type
abbrev pub TypedIsAccepted : Type 0
TypedIsAccepted = (g : Context) (tree : NamedTree) (m : TermTree) (t : TyTree) →
    Resolves (names_in g) tree m → HasType (types_in g) m t → type_of g tree ≡ Ok (m, t)

-- a term has one type at most in a context
abbrev pub OneType : Type 0
OneType = (g : List TyTree) (m : TermTree) (t u : TyTree) → HasType g m t → HasType g m u → t ≡ u

-- a tree stands for one term at most
abbrev pub OneTerm : Type 0
OneTerm = (s : List (List ℕ)) (tree : NamedTree) (m n : TermTree) → Resolves s tree m → Resolves s tree n → m ≡ n

-- resolving keeps the number of nodes and the height
abbrev pub KeepsSize : Type 0
KeepsSize = (g : Context) (tree : NamedTree) (m : TermTree) (t : TyTree) →
    type_of g tree ≡ Ok (m, t) → (size m ≡ named_size tree) × (height m ≡ named_height tree)

-- want of memory is no fault of a tree
abbrev pub NeverMemory : Type 0
NeverMemory = (g : Context) (tree : NamedTree) → type_of g tree ≢ Err NoMemory
