-- What each step of the definition was made of where it gave a term.
use Rattle.std.proofs.Common.{◌≡◌, ℕ, Bool, true, false, cond, Result, Ok, Err, refl, ap, ◌∙◌}
use Rattle.pcf_values.specs.Terms.{TyTree, nat, arrow, product, TermTree, same_type}
use Rattle.pcf_types.specs.declared.fault.TypeFault.{TypeFault}
use Rattle.pcf_types.specs.Checking.{TypedOrFault, go_on, as_nat, number, numbers, as_function, function, as_pair, both, as_type}
use Rattle.pcf_types.specs.Checking.{of_type}
use Rattle.pcf_values.proofs.Types.{same_is}

abbrev in_ok : {A : Type 0} → A → Result A TypeFault → A
in_ok d (Ok a) = a
in_ok d (Err e) = d

abbrev pub ok_of : {A : Type 0} → A → Result A TypeFault
ok_of a = Ok a

pub ok_is : {A : Type 0} (a b : A) → ok_of a ≡ Ok b → a ≡ b
ok_is a b h = ap (in_ok a) h

abbrev pub judged : TermTree × TyTree → TypedOrFault
judged j = Ok j

pub from_go_on : {A B : Type 0} (r : Result A TypeFault) (f : A → Result B TypeFault) (b : B) → go_on r f ≡ Ok b → (a : A) ×
    (r ≡ Ok a) × (f a ≡ Ok b)
from_go_on (Ok a) f b h = (a, refl, h)
from_go_on (Err e) f b h = cc

nat_is : (at : ℕ) (m : TermTree) (t : TyTree) (n : TermTree) → as_nat at m t ≡ Ok n → judged (m, t) ≡ Ok (n, nat)
nat_is at m nat n h = ap (λ m. Ok (m, nat)) (ok_is m n h)
nat_is at m (arrow a b) n h = cc
nat_is at m (product a b) n h = cc

pub from_number : (at : ℕ) (r : TypedOrFault) (n : TermTree) → number at r ≡ Ok n → r ≡ Ok (n, nat)
from_number at r n h = let (j, e, k) = from_go_on r (λ j. as_nat at j.0 j.1) n h in e ∙ nat_is at j.0 j.1 n k

pub from_numbers : (r s : Result TermTree TypeFault) (p : TermTree × TermTree) → numbers r s ≡ Ok p → (r ≡ Ok p.0) ×
    (s ≡ Ok p.1)
from_numbers r s p h =
    let (m, e, k) = from_go_on r (λ m. go_on s (λ n. Ok (m, n))) p h in
    let (n, e', k') = from_go_on s (λ n. Ok (m, n)) p k in
    let q = ok_is (m, n) p k' in
    (e ∙ ap (λ p. Ok p.0) q, e' ∙ ap (λ p. Ok p.1) q)

function_is : (at : ℕ) (m : TermTree) (t : TyTree) (p : TermTree × TyTree × TyTree) → as_function at m t ≡ Ok p →
    judged (m, t) ≡ Ok (p.0, arrow p.1 p.2)
function_is at m nat p h = cc
function_is at m (arrow a b) p h = ap (λ p. Ok (p.0, arrow p.1 p.2)) (ok_is (m, a, b) p h)
function_is at m (product a b) p h = cc

pub from_function : (at : ℕ) (r : TypedOrFault) (p : TermTree × TyTree × TyTree) → function at r ≡ Ok p → r ≡ Ok (p.0, arrow p.1 p.2)
from_function at r p h = let (j, e, k) = from_go_on r (λ j. as_function at j.0 j.1) p h in e ∙ function_is at j.0 j.1 p k

pair_is : (at : ℕ) (m : TermTree) (t : TyTree) (p : TermTree × TyTree × TyTree) → as_pair at m t ≡ Ok p →
    judged (m, t) ≡ Ok (p.0, product p.1 p.2)
pair_is at m nat p h = cc
pair_is at m (arrow a b) p h = cc
pair_is at m (product a b) p h = ap (λ p. Ok (p.0, product p.1 p.2)) (ok_is (m, a, b) p h)

pub from_both : (at : ℕ) (r : TypedOrFault) (p : TermTree × TyTree × TyTree) → both at r ≡ Ok p → r ≡ Ok (p.0, product p.1 p.2)
from_both at r p h = let (j, e, k) = from_go_on r (λ j. as_pair at j.0 j.1) p h in e ∙ pair_is at j.0 j.1 p k

type_is : (a t : TyTree) (e : TypeFault) (m n : TermTree) (b : Bool) → (b ≡ true → t ≡ a) → cond b (Ok m) (Err e) ≡ Ok n →
    judged (m, t) ≡ Ok (n, a)
type_is a t e m n true f h = ap (λ t. Ok (m, t)) (f refl) ∙ ap (λ m. Ok (m, a)) (ok_is m n h)
type_is a t e m n false f h = cc

pub from_of_type : (a : TyTree) (f : TypeFault) (r : TypedOrFault) (n : TermTree) → of_type a f r ≡ Ok n → r ≡ Ok (n, a)
from_of_type a f r n h =
    let (j, e, k) = from_go_on r (λ j. as_type a f j.0 j.1) n h in
    e ∙ type_is a j.1 f j.0 n (same_type j.1 a) (same_is j.1 a) k
