-- Want of memory is no answer of the definition.
use Rattle.std.proofs.Common.{◌≡◌, ◌≢◌, ℕ, Bool, true, false, cond, ap, ◌∷◌, Option, Some, None, Result, Ok, Err}
use Rattle.pcf_values.specs.Terms.{TyTree, nat, arrow, product, TermTree, same_type}
use Rattle.pcf_values.specs.Named.{the_succ, the_pred, the_part, the_fun, the_fix, NamedTree, number_at, name_at, word_at}
use Rattle.pcf_values.specs.Named.{binary_at, pair_at, ifz_at, bind_at, apply_at, place_of}
use Rattle.pcf_types.specs.declared.fault.TypeFault.{TypeFault}
use Rattle.pcf_types.specs.declared.fault.TypeFault.TheVariants.{NoMemory, FixMismatch, ArgumentMismatch}
use Rattle.pcf_types.specs.Checking.{Context, TypedOrFault, go_on, as_nat, number, numbers, as_function, as_pair, of_type, variable}
use Rattle.pcf_types.specs.Checking.{nearest, type_of}

abbrev pub Clean : {A : Type 0} → Result A TypeFault → Type 0
Clean r = r ≢ Err NoMemory

abbrev err_of : (A : Type 0) → TypeFault → Result A TypeFault
err_of A e = Err e

clean_ok : {A : Type 0} (a : A) → Clean (Ok a)
clean_ok a h = cc

same_error : {A B : Type 0} (e : TypeFault) → err_of B e ≡ Err NoMemory → err_of A e ≡ Err NoMemory
same_error e q = let z : e ≡ NoMemory = cc in ap Err z

clean_on : {A B : Type 0} (r : Result A TypeFault) (f : A → Result B TypeFault) → Clean r → ((a : A) → Clean (f a)) →
    Clean (go_on r f)
clean_on (Ok a) f h k = k a
clean_on (Err e) f h k = λ q. h (same_error e q)

clean_nat : (at : ℕ) (m : TermTree) (t : TyTree) → Clean (as_nat at m t)
clean_nat at m nat h = cc
clean_nat at m (arrow a b) h = cc
clean_nat at m (product a b) h = cc

clean_function : (at : ℕ) (m : TermTree) (t : TyTree) → Clean (as_function at m t)
clean_function at m nat h = cc
clean_function at m (arrow a b) h = cc
clean_function at m (product a b) h = cc

clean_pair : (at : ℕ) (m : TermTree) (t : TyTree) → Clean (as_pair at m t)
clean_pair at m nat h = cc
clean_pair at m (arrow a b) h = cc
clean_pair at m (product a b) h = cc

clean_cond : (b : Bool) (m : TermTree) (e : TypeFault) → e ≢ NoMemory → Clean (cond b (Ok m) (Err e))
clean_cond true m e n h = cc
clean_cond false m e n h = let z : e ≡ NoMemory = cc in n z

clean_variable : (at : ℕ) (o : Option (ℕ × TyTree)) → Clean (variable at o)
clean_variable at None h = cc
clean_variable at (Some f) h = cc

number_clean : (at : ℕ) (r : TypedOrFault) → Clean r → Clean (number at r)
number_clean at r h = clean_on r _ h (λ j. clean_nat at j.0 j.1)

numbers_clean : (r s : Result TermTree TypeFault) → Clean r → Clean s → Clean (numbers r s)
numbers_clean r s h k = clean_on r _ h (λ m. clean_on s (λ n. Ok (m, n)) k (λ n. clean_ok (m, n)))

fix_fault : (at : ℕ) → FixMismatch at ≢ NoMemory
fix_fault at h = cc

argument_fault : (at : ℕ) → ArgumentMismatch at ≢ NoMemory
argument_fault at h = cc

of_type_clean : (a : TyTree) (e : TypeFault) (r : TypedOrFault) → e ≢ NoMemory → Clean r → Clean (of_type a e r)
of_type_clean a e r n h = clean_on r _ h (λ j. clean_cond (same_type j.1 a) j.0 e n)

-- no tree's fault of scope or type is want of memory
pub never_memory : (g : Context) (tree : NamedTree) → Clean (type_of g tree)
never_memory g (number_at at n) = clean_ok _
never_memory g (name_at at x) = clean_variable at (nearest x g)
never_memory g (word_at at the_succ a) = clean_on _ _ (number_clean (place_of a) (type_of g a) (never_memory g a)) (λ m. clean_ok _)
never_memory g (word_at at the_pred a) = clean_on _ _ (number_clean (place_of a) (type_of g a) (never_memory g a)) (λ m. clean_ok _)
never_memory g (word_at at (the_part s) a) =
    clean_on _ _ (clean_on (type_of g a) _ (never_memory g a) (λ j. clean_pair (place_of a) j.0 j.1)) (λ p. clean_ok _)
never_memory g (binary_at at o a b) =
    clean_on _ _ (numbers_clean _ _ (number_clean (place_of a) (type_of g a) (never_memory g a))
    (number_clean (place_of b) (type_of g b) (never_memory g b))) (λ p. clean_ok _)
never_memory g (pair_at at a b) = clean_on (type_of g a) _ (never_memory g a)
    (λ j. clean_on (type_of g b) _ (never_memory g b) (λ k. clean_ok _))
never_memory g (ifz_at at c a b) =
    clean_on _ _ (number_clean (place_of c) (type_of g c) (never_memory g c))
    (λ m. clean_on _ _ (numbers_clean _ _ (number_clean (place_of a) (type_of g a) (never_memory g a))
    (number_clean (place_of b) (type_of g b) (never_memory g b))) (λ p. clean_ok _))
never_memory g (bind_at at the_fun x a m) = clean_on _ _ (never_memory ((x, a) ∷ g) m) (λ j. clean_ok _)
never_memory g (bind_at at the_fix x a m) =
    clean_on _ _ (of_type_clean a (FixMismatch (place_of m)) _ (fix_fault (place_of m)) (never_memory ((x, a) ∷ g) m)) (λ n. clean_ok _)
never_memory g (apply_at at f a) =
    clean_on _ _ (clean_on (type_of g f) _ (never_memory g f) (λ j. clean_function (place_of f) j.0 j.1))
    (λ p. clean_on _ _ (of_type_clean p.1 (ArgumentMismatch (place_of a)) _ (argument_fault (place_of a)) (never_memory g a))
    (λ n. clean_ok _))
