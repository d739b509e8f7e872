-- What contracts see of the checker's own types: the context of a scope, and the type of what is known of one. With them, what the
-- definition says of a part in a scope.
use Rattle.std.specs.Prelude.{ℕ, ◌+◌, ◌^◌, ◌<◌, List, [], ◌∷◌, length, Result, Ok}
use Rattle.pcf_values.specs.declared.named.Named.{Named}
use Rattle.pcf_values.specs.declared.ty.Ty.{Ty}
use Rattle.pcf_values.specs.Terms.{TyTree, nat, arrow, product, TermTree}
use Rattle.pcf_values.specs.Named.{the_fun, the_fix, bind_at, apply_at, pair_at, ifz_at, place_of, named_height}
use Rattle.pcf_values.specs.Views.{ty_of, named_of}
use Rattle.pcf_types.specs.declared.fault.TypeFault.{TypeFault}
use Rattle.pcf_types.specs.declared.scope.Scope.{Scope}
use Rattle.pcf_types.specs.declared.scope.Scope.TheVariants.{Closed, Under'}
use Rattle.pcf_types.specs.declared.known.Known.{Known}
use Rattle.pcf_types.specs.declared.known.Known.TheVariants.{Nat, Written, Function', Pair'}
use Rattle.pcf_types.specs.Checking.{Context, TypedOrFault, type_of, number, numbers, function, both, of_type}

abbrev pub scope_of : Scope → Context
scope_of Closed = []
scope_of (Under' x t p s) = (x.now, ty_of t.now) ∷ scope_of s

abbrev pub known_of : Known → TyTree
known_of Nat = nat
known_of (Written t) = ty_of t.now
known_of (Function' t p b) = arrow (ty_of t.now) (known_of b)
known_of (Pair' p a q b) = product (known_of a) (known_of b)

-- this term with this type, as an answer
abbrev pub answer_of : TermTree → TyTree → TypedOrFault
answer_of m t = Ok (m, t)

-- the indexes of all variables in the part fit 32 bits
abbrev pub Shallow : Scope → Named → Type 0
Shallow s t = length (scope_of s) + named_height (named_of t) < 2 ^ 32

abbrev pub type_in : Scope → Named → TypedOrFault
type_in s t = type_of (scope_of s) (named_of t)

abbrev pub number_in : Scope → Named → Result TermTree TypeFault
number_in s t = number (place_of (named_of t)) (type_in s t)

abbrev pub numbers_in : Scope → Named → Named → Result (TermTree × TermTree) TypeFault
numbers_in s a b = numbers (number_in s a) (number_in s b)

abbrev pub function_in : Scope → Named → Result (TermTree × TyTree × TyTree) TypeFault
function_in s t = function (place_of (named_of t)) (type_in s t)

abbrev pub parts_in : Scope → Named → Result (TermTree × TyTree × TyTree) TypeFault
parts_in s t = both (place_of (named_of t)) (type_in s t)

abbrev pub of_type_in : TyTree → TypeFault → Scope → Named → Result TermTree TypeFault
of_type_in a e s t = of_type a e (type_in s t)

-- of a whole of these parts; the whole's own place plays no part
abbrev pub ifz_in : Scope → Named → Named → Named → TypedOrFault
ifz_in s c p q = type_of (scope_of s) (ifz_at 0 (named_of c) (named_of p) (named_of q))

abbrev pub fun_in : Scope → List ℕ → Ty → Named → TypedOrFault
fun_in s x t m = type_of (scope_of s) (bind_at 0 the_fun x (ty_of t) (named_of m))

abbrev pub fix_in : Scope → List ℕ → Ty → Named → TypedOrFault
fix_in s x t m = type_of (scope_of s) (bind_at 0 the_fix x (ty_of t) (named_of m))

abbrev pub app_in : Scope → Named → Named → TypedOrFault
app_in s f a = type_of (scope_of s) (apply_at 0 (named_of f) (named_of a))

abbrev pub pair_in : Scope → Named → Named → TypedOrFault
pair_in s a b = type_of (scope_of s) (pair_at 0 (named_of a) (named_of b))
