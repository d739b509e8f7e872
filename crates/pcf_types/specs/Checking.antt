-- Scope and types of a term as it is read: the term with indexes and its type, or the first fault.
-- The definition goes from left to right, so that the first fault counts. Each part is typed in full before what is asked of its type
-- is looked at, and before the next part.
use Rattle.std.specs.Prelude.{ℕ, suc, List, [], ◌∷◌, Option, Some, None, Result, Ok, Err, if◌then◌else◌}
use Rattle.std.specs.Str.{bytes_eq}
use Rattle.pcf_values.specs.Terms.{TyTree, nat, arrow, product, at_side, same_type, TermTree, num, var, succ_of, pred_of, binary, ifz}
use Rattle.pcf_values.specs.Terms.{lam, fix, app, pair, proj}
use Rattle.pcf_values.specs.Named.{the_succ, the_pred, the_part, the_fun, the_fix, NamedTree, number_at, name_at, word_at}
use Rattle.pcf_values.specs.Named.{binary_at, pair_at, ifz_at, bind_at, apply_at, place_of}
use Rattle.pcf_types.specs.declared.fault.TypeFault.{TypeFault}
use Rattle.pcf_types.specs.declared.fault.TypeFault.TheVariants.{Unbound, FunctionWanted, ArgumentMismatch, NatWanted, FixMismatch}
use Rattle.pcf_types.specs.declared.fault.TypeFault.TheVariants.{PairWanted}

-- the binders around a term, the nearest first: each with its name and its type
abbrev pub Context : Type 0
Context = List (List ℕ × TyTree)

-- the term with its type, or a fault
abbrev pub TypedOrFault : Type 0
TypedOrFault = Result (TermTree × TyTree) TypeFault

-- go on with what there is; a fault stays
abbrev pub go_on : {A B : Type 0} → Result A TypeFault → (A → Result B TypeFault) → Result B TypeFault
go_on (Ok a) f = f a
go_on (Err e) f = Err e

-- one binder further out
abbrev pub further : Option (ℕ × TyTree) → Option (ℕ × TyTree)
further None = None
further (Some f) = Some (suc f.0, f.1)

-- the nearest binder of the name: its index and its type
abbrev pub nearest : List ℕ → Context → Option (ℕ × TyTree)
nearest x [] = None
nearest x (b ∷ g) = if bytes_eq x b.0 then Some (0, b.1) else further (nearest x g)

-- the variable of the binder that was found for the name at this place
abbrev pub variable : ℕ → Option (ℕ × TyTree) → TypedOrFault
variable at None = Err (Unbound at)
variable at (Some f) = Ok (var f.0, f.1)

-- the term of the part at this place, which has to be of type nat
abbrev pub as_nat : ℕ → TermTree → TyTree → Result TermTree TypeFault
as_nat at m nat = Ok m
as_nat at m (arrow a b) = Err (NatWanted at)
as_nat at m (product a b) = Err (NatWanted at)

abbrev pub number : ℕ → TypedOrFault → Result TermTree TypeFault
number at r = go_on r (λ j. as_nat at j.0 j.1)

-- the terms of two such parts, the first one's fault first
abbrev pub numbers : Result TermTree TypeFault → Result TermTree TypeFault → Result (TermTree × TermTree) TypeFault
numbers r s = go_on r (λ m. go_on s (λ n. Ok (m, n)))

-- the term of the part at this place, which has to be of a function's type, with what it takes and gives
abbrev pub as_function : ℕ → TermTree → TyTree → Result (TermTree × TyTree × TyTree) TypeFault
as_function at m nat = Err (FunctionWanted at)
as_function at m (arrow a b) = Ok (m, a, b)
as_function at m (product a b) = Err (FunctionWanted at)

abbrev pub function : ℕ → TypedOrFault → Result (TermTree × TyTree × TyTree) TypeFault
function at r = go_on r (λ j. as_function at j.0 j.1)

-- the term of the part at this place, which has to be of a pair's type, with the types of the pair's parts
abbrev pub as_pair : ℕ → TermTree → TyTree → Result (TermTree × TyTree × TyTree) TypeFault
as_pair at m nat = Err (PairWanted at)
as_pair at m (arrow a b) = Err (PairWanted at)
as_pair at m (product a b) = Ok (m, a, b)

abbrev pub both : ℕ → TypedOrFault → Result (TermTree × TyTree × TyTree) TypeFault
both at r = go_on r (λ j. as_pair at j.0 j.1)

-- the term, which has to be of this type, or else the fault
abbrev pub as_type : TyTree → TypeFault → TermTree → TyTree → Result TermTree TypeFault
as_type a e m t = if same_type t a then Ok m else Err e

abbrev pub of_type : TyTree → TypeFault → TypedOrFault → Result TermTree TypeFault
of_type a e r = go_on r (λ j. as_type a e j.0 j.1)

-- the term of a tree and its type, or the first fault
abbrev pub type_of : Context → NamedTree → TypedOrFault
type_of g (number_at at n) = Ok (num n, nat)
type_of g (name_at at x) = variable at (nearest x g)
type_of g (word_at at the_succ a) = go_on (number (place_of a) (type_of g a)) (λ m. Ok (succ_of m, nat))
type_of g (word_at at the_pred a) = go_on (number (place_of a) (type_of g a)) (λ m. Ok (pred_of m, nat))
type_of g (word_at at (the_part s) a) = go_on (both (place_of a) (type_of g a)) (λ p. Ok (proj s p.0, at_side s p.1 p.2))
type_of g (binary_at at o a b) = go_on (numbers (number (place_of a) (type_of g a)) (number (place_of b) (type_of g b)))
    (λ p. Ok (binary o p.0 p.1, nat))
type_of g (pair_at at a b) = go_on (type_of g a) (λ j. go_on (type_of g b) (λ k. Ok (pair j.0 k.0, product j.1 k.1)))
type_of g (ifz_at at c a b) =
    go_on (number (place_of c) (type_of g c)) (λ m. go_on (numbers (number (place_of a) (type_of g a)) (number (place_of b) (type_of g b)))
    (λ p. Ok (ifz m p.0 p.1, nat)))
type_of g (bind_at at the_fun x a m) = go_on (type_of ((x, a) ∷ g) m) (λ j. Ok (lam a j.0, arrow a j.1))
type_of g (bind_at at the_fix x a m) = go_on (of_type a (FixMismatch (place_of m)) (type_of ((x, a) ∷ g) m)) (λ n. Ok (fix a n, a))
type_of g (apply_at at f a) =
    go_on (function (place_of f) (type_of g f))
    (λ p. go_on (of_type p.1 (ArgumentMismatch (place_of a)) (type_of g a)) (λ n. Ok (app p.0 n, p.2)))
