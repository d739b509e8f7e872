-- The definition's test of two types is equality.
use Rattle.std.proofs.Common.{◌≡◌, ◌≢◌, ℕ, Bool, true, false, cond, Ok, Err, refl, sym, ap, ◌∙◌}
use Rattle.pcf_values.specs.Terms.{TyTree, nat, arrow, product, TermTree, same_type}
use Rattle.pcf_types.specs.declared.fault.TypeFault.{TypeFault}
use Rattle.pcf_values.specs.declared.named.Named.{Named}
use Rattle.pcf_values.specs.Named.{place_of}
use Rattle.pcf_values.specs.Views.{named_of}
use Rattle.pcf_types.specs.declared.fault.TypeFault.TheVariants.{NatWanted}
use Rattle.pcf_types.specs.declared.scope.Scope.{Scope}
use Rattle.pcf_types.specs.Checking.{TypedOrFault, as_type, of_type, as_nat, number}
use Rattle.pcf_types.specs.Views.{type_in, number_in, of_type_in}
use Rattle.pcf_values.proofs.Types.{same_refl, same_is}
use Rattle.pcf_types.proofs.Places.{place}

bool_cases : {A : Type 0} (b : Bool) (m n : A) (h : b ≡ true → ⊥) → cond b m n ≡ n
bool_cases true m n h = absurd (h refl)
bool_cases false m n h = refl

pub as_type_same : (a t : TyTree) (e : TypeFault) (m : TermTree) → t ≡ a → as_type a e m t ≡ Ok m
as_type_same a t e m h = ap (λ b. cond b (Ok m) (Err e)) (ap (λ t. same_type t a) h ∙ same_refl a)

pub as_type_other : (a t : TyTree) (e : TypeFault) (m : TermTree) → t ≢ a → as_type a e m t ≡ Err e
as_type_other a t e m h = bool_cases (same_type t a) (Ok m) (Err e) (λ b. h (same_is t a b))

-- the type nat is asked for as any other
as_nat_same : (at : ℕ) (m : TermTree) (t : TyTree) → as_type nat (NatWanted at) m t ≡ as_nat at m t
as_nat_same at m nat = refl
as_nat_same at m (arrow a b) = refl
as_nat_same at m (product a b) = refl

same_number : (at : ℕ) (r : TypedOrFault) → of_type nat (NatWanted at) r ≡ number at r
same_number at (Ok j) = as_nat_same at j.0 j.1
same_number at (Err e) = refl

pub number_same : (s : Scope) (t : Named) → of_type_in nat (NatWanted t.at) s t ≡ number_in s t
number_same s t = ap (λ at. of_type nat (NatWanted at) (type_in s t)) (sym (place t)) ∙ same_number (place_of (named_of t)) (type_in s t)
