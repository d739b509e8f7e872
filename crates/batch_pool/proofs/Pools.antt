-- Lists of pools, and what they are after a change of one of them.
use Rattle.std.proofs.Common.{◌≡◌, ◌⊎◌, ℕ, zero, suc, List, [], ◌∷◌, set, slice_get, Option, Some, refl, sym, ap, inl}
use Rattle.std.proofs.Common.{inr, ⊎_elim, arith}

module _ {A : Type 0} where
  -- what a place has afterwards is what was put there, or what another place had before
  pub got_after_set : (xs : List A) (j i : ℕ) (x y : A) → slice_get (set xs j x) i ≡ Some y → ((i ≡ j) × (x ≡ y)) ⊎
      ((i ≡ j → ⊥) × (slice_get xs i ≡ Some y))
  got_after_set [] j i x y h = absurd cc
  got_after_set (z ∷ zs) zero zero x y h = inl (refl, cc)
  got_after_set (z ∷ zs) zero (suc i) x y h = inr ((λ e. omega arith), h)
  got_after_set (z ∷ zs) (suc j) zero x y h = inr ((λ e. omega arith), h)
  got_after_set (z ∷ zs) (suc j) (suc i) x y h =
      ⊎_elim (λ p. inl (ap suc p.0, p.1)) (λ p. inr ((λ e. p.0 (omega arith)), p.1)) (got_after_set zs j i x y h)

  pub put_there : (xs : List A) (j : ℕ) (x y : A) → slice_get xs j ≡ Some y → slice_get (set xs j x) j ≡ Some x
  put_there [] j x y h = absurd cc
  put_there (z ∷ zs) zero x y h = refl
  put_there (z ∷ zs) (suc j) x y h = put_there zs j x y h

  pub others_stay : (xs : List A) (j i : ℕ) (x y : A) → (i ≡ j → ⊥) → slice_get xs i ≡ Some y →
      slice_get (set xs j x) i ≡ Some y
  others_stay [] j i x y d h = h
  others_stay (z ∷ zs) zero zero x y d h = absurd (d refl)
  others_stay (z ∷ zs) zero (suc i) x y d h = h
  others_stay (z ∷ zs) (suc j) zero x y d h = h
  others_stay (z ∷ zs) (suc j) (suc i) x y d h = others_stay zs j i x y (λ e. d (ap suc e)) h

  -- what stood there before may be put there again
  pub set_same : (xs : List A) (j : ℕ) (x : A) → slice_get xs j ≡ Some x → set xs j x ≡ xs
  set_same [] j x h = refl
  set_same (z ∷ zs) zero x h = let e : z ≡ x = cc in ap (λ y. y ∷ zs) (sym e)
  set_same (z ∷ zs) (suc j) x h = ap (λ ys. z ∷ ys) (set_same zs j x h)

  -- a place has one thing
  pub one_there : (o : Option A) (x y : A) → o ≡ Some x → o ≡ Some y → x ≡ y
  one_there o x y h k = cc
