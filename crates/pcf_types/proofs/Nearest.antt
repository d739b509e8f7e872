-- The binder that is looked up is the nearest one of the name.
use Rattle.std.proofs.Common.{◌≡◌, ◌≢◌, ◌⊎◌, ℕ, zero, suc, ◌<◌, Bool, true, false, cond, List, [], ◌∷◌}
use Rattle.std.proofs.Common.{Option, Some, None, refl, sym, ap, ◌∙◌, subst, inl, inr, arith}
use Rattle.std.specs.Prelude.{slice_get}
use Rattle.std.specs.Str.{bytes_eq}
use Rattle.std.proofs.lemmas.Bool.{cases_order}
use Rattle.std.proofs.lemmas.Option.{same_Some}
use Rattle.std.proofs.lemmas.Slice.Eq.{bytes_eq-Decides}
use Rattle.pcf_values.specs.Terms.{TyTree}
use Rattle.pcf_values.proofs.Plain.{told_apart}
use Rattle.pcf_types.specs.Checking.{Context, further, nearest}
use Rattle.pcf_types.specs.Resolution.{Binds}
use Rattle.pcf_types.specs.Correct.{names_in, types_in}

-- what is found is the index that binds the name, and the type that stands there
abbrev pub Found : List ℕ → Context → ℕ × TyTree → Type 0
Found x g f = Binds (names_in g) x f.0 × (slice_get (types_in g) f.0 ≡ Some f.1)

other_name : (x y : List ℕ) → bytes_eq x y ≡ false → x ≢ y
other_name x y h e = let k : true ≡ false = sym ((bytes_eq-Decides x y).1 e) ∙ h in cc

from_further : (o : Option (ℕ × TyTree)) (f : ℕ × TyTree) → further o ≡ Some f → (p : ℕ × TyTree) × (o ≡ Some p) ×
    (Some (suc p.0, p.1) ≡ Some f)
from_further None f h = cc
from_further (Some p) f h = (p, refl, h)

binds_further : (s : List (List ℕ)) (x y : List ℕ) (i : ℕ) → x ≢ y → Binds s x i → Binds (y ∷ s) x (suc i)
binds_further s x y i n (e, h) = (e, go)
  where
    go : (j : ℕ) → j < suc i → slice_get (y ∷ s) j ≢ Some x
    go zero l k = n (sym (same_Some y x k))
    go (suc j) l k = h j (omega arith) k

-- what the search finds is an index that binds the name, and the type that stands there
pub nearest_found : (x : List ℕ) (g : Context) (f : ℕ × TyTree) → nearest x g ≡ Some f → Found x g f
nearest_found x [] f h = cc
nearest_found x (b ∷ g) f h = go (nearest_found x g) (bytes_eq x b.0) refl h
  where
    go : ((p : ℕ × TyTree) → nearest x g ≡ Some p → Found x g p) → (t : Bool) → bytes_eq x b.0 ≡ t →
        cond t (Some (0, b.1)) (further (nearest x g)) ≡ Some f → Found x (b ∷ g) f
    go ih true q k = subst (Found x (b ∷ g)) (same_Some (0, b.1) f k)
        ((ap Some (sym ((bytes_eq-Decides x b.0).0 q)), λ j l. absurd (omega arith)), refl)
    go ih false q k =
        let (p, e, z) = from_further (nearest x g) f k in
        let (d, t) = ih p e in
        subst (Found x (b ∷ g)) (same_Some (suc p.0, p.1) f z) (binds_further (names_in g) x b.0 p.0 (other_name x b.0 q) d, t)

-- the search finds the index that binds the name, with the type that stands there
pub found_nearest : (x : List ℕ) (g : Context) (i : ℕ) (t : TyTree) → Binds (names_in g) x i →
    slice_get (types_in g) i ≡ Some t → nearest x g ≡ Some (i, t)
found_nearest x [] i t d h = cc
found_nearest x (b ∷ g) zero t d h =
    let e : bytes_eq x b.0 ≡ true = (bytes_eq-Decides x b.0).1 (sym (same_Some b.0 x d.0)) in
    ap (λ z. cond z (Some (0, b.1)) (further (nearest x g))) e ∙ ap (λ t. Some (0, t)) (same_Some b.1 t h)
found_nearest x (b ∷ g) (suc i) t d h =
    ap (λ z. cond z (Some (0, b.1)) (further (nearest x g))) (told_apart x b.0 (λ e. d.1 0 (omega arith) (ap Some (sym e))))
    ∙ ap further (found_nearest x g i t (d.0, λ j l. d.1 (suc j) (omega arith)) h)

-- a name has one binder
pub one_binder : (s : List (List ℕ)) (x : List ℕ) (i j : ℕ) → Binds s x i → Binds s x j → i ≡ j
one_binder s x i j d e = go (cases_order i j)
  where
    go : (i ≡ j) ⊎ ((i < j) ⊎ (j < i)) → i ≡ j
    go (inl q) = q
    go (inr (inl l)) = absurd (e.1 i l d.0)
    go (inr (inr l)) = absurd (d.1 j l e.0)
