-- The translation has the type that it is to have, and its size and height are bounded.
use Rattle.std.proofs.Common.{◌≡◌, ℕ, zero, suc, ◌+◌, ◌*◌, ◌<◌, ◌≤◌, List, [], ◌∷◌, Some, refl, sym, ap}
use Rattle.std.proofs.Common.{◌∙◌, subst, arith}
use Rattle.std.specs.Prelude.{slice_get}
use Rattle.pcf_values.specs.Terms.{TyTree, nat, arrow, TermTree, num, var, succ_of, pred_of, binary, ifz, lam, fix, app, pair, proj, size}
use Rattle.pcf_values.specs.Terms.{height}
use Rattle.pcf_values.specs.Typing.{HasType}
use Rattle.pcf_values.proofs.Heights.{height_positive}
use Rattle.cbv_terms.specs.Translation.{type_at, argument_type, result_type, type_in, value_type}
use Rattle.cbv_terms.specs.Accepted.{HasTranslation, Accepted}
use Rattle.cbv_terms.specs.Translation.{continuation_type, beside, under, cps, translated}

-- a translation has at most ten times as many nodes as its term
pub size_cps : (m : TermTree) (g : List TyTree) (e : ℕ → ℕ) → size (cps g e m) ≤ 10 * size m
size_cps (num n) g e = omega arith
size_cps (var i) g e = omega arith
size_cps (succ_of a) g e = let p = size_cps a g (beside e) in omega arith
size_cps (pred_of a) g e = let p = size_cps a g (beside e) in omega arith
size_cps (binary o a b) g e = let p = size_cps a g (beside e) in let q = size_cps b g (beside (beside e)) in omega arith
size_cps (ifz c a b) g e =
    let r = size_cps c g (beside e) in
    let p = size_cps a g (beside (beside e)) in
    let q = size_cps b g (beside (beside e)) in
    omega arith
size_cps (lam a m) g e = let p = size_cps m (a ∷ g) (under (beside e)) in omega arith
size_cps (fix a (lam c m)) g e = let p = size_cps m (c ∷ a ∷ g) (under (under (beside e))) in omega arith
size_cps (fix a m) g e = omega arith
size_cps (app f x) g e = let p = size_cps f g (beside e) in let q = size_cps x g (beside (beside e)) in omega arith
size_cps (pair a b) g e = omega arith
size_cps (proj s a) g e = omega arith

-- a translation is at most five times as high as its term
pub height_cps : (m : TermTree) (g : List TyTree) (e : ℕ → ℕ) → height (cps g e m) ≤ 5 * height m
height_cps (num n) g e = omega arith
height_cps (var i) g e = omega arith
height_cps (succ_of a) g e = let p = height_cps a g (beside e) in let z = height_positive a in omega arith
height_cps (pred_of a) g e = let p = height_cps a g (beside e) in let z = height_positive a in omega arith
height_cps (binary o a b) g e = let p = height_cps a g (beside e) in let q = height_cps b g (beside (beside e)) in
    let z = height_positive a in omega arith
height_cps (ifz c a b) g e =
    let r = height_cps c g (beside e) in
    let p = height_cps a g (beside (beside e)) in
    let q = height_cps b g (beside (beside e)) in
    let z = height_positive c in
    omega arith
height_cps (lam a m) g e = let p = height_cps m (a ∷ g) (under (beside e)) in let z = height_positive m in omega arith
height_cps (fix a (lam c m)) g e = let p = height_cps m (c ∷ a ∷ g) (under (under (beside e))) in let z = height_positive m in
    omega arith
height_cps (fix a m) g e = omega arith
height_cps (app f x) g e = let p = height_cps f g (beside e) in let q = height_cps x g (beside (beside e)) in let z = height_positive f in
    omega arith
height_cps (pair a b) g e = omega arith
height_cps (proj s a) g e = omega arith

type_at_nth : (g : List TyTree) (i : ℕ) (t : TyTree) → slice_get g i ≡ Some t → t ≡ type_at g i
type_at_nth [] i t h = cc
type_at_nth (a ∷ g) zero t h = cc
type_at_nth (a ∷ g) (suc i) t h = type_at_nth g i t h

-- a typed term has the type that it is said to have
pub typed_in : (m : TermTree) (g : List TyTree) (t : TyTree) → HasTranslation m → HasType g m t → t ≡ type_in g m
typed_in (num n) g t a h = h.1
typed_in (var i) g t a h = type_at_nth g i t h
typed_in (succ_of m) g t a h = h.1
typed_in (pred_of m) g t a h = h.1
typed_in (binary o m n) g t a h = h.2
typed_in (ifz c m n) g t a h = h.3
typed_in (lam b m) g t a h = h.2 ∙ ap (arrow b) (typed_in m (b ∷ g) h.0 a.1 h.1)
typed_in (fix b m) g t a h = h.1
typed_in (app f x) g t a h = ap result_type (typed_in f g (arrow h.0 t) a.0 h.1)
typed_in (pair m n) g t a h = elim a [ ]
typed_in (proj s m) g t a h = elim a [ ]

-- the translated context has, at the index that the map gives for a variable, the type of what stands for a result of the variable's type
abbrev pub Placed : List TyTree → (ℕ → ℕ) → List TyTree → Type 0
Placed g e d = (i : ℕ) (a : TyTree) → slice_get g i ≡ Some a → slice_get d (e i) ≡ Some (value_type a)

abbrev Takes : List TyTree → TermTree → TyTree → Type 0
Takes d m t = HasType d m (arrow (continuation_type t) nat)

placed_under : (g d : List TyTree) (e : ℕ → ℕ) (a : TyTree) → Placed g e d → Placed (a ∷ g) (under e) (value_type a ∷ d)
placed_under g d e a h zero b q = let p : a ≡ b = cc in ap (λ c. Some (value_type c)) p
placed_under g d e a h (suc i) b q = h i b q

-- the translation of a typed term takes a continuation for that type, in each context that has the variables where the map says
pub cps_typed : (m : TermTree) (g d : List TyTree) (t : TyTree) (e : ℕ → ℕ) → HasTranslation m → HasType g m t →
    Placed g e d → Takes d (cps g e m) t
cps_typed (num n) g d t e a h p = subst (Takes d (cps g e (num n))) (sym h.1) (nat, (nat, refl, (h.0, refl)), refl)
cps_typed (var i) g d t e a h p = subst (Takes d (cps g e (var i))) (sym (type_at_nth g i t h)) (
  nat,
  (value_type (type_at g i), refl, p i (type_at g i) (h ∙ ap Some (type_at_nth g i t h))),
  refl,
)
cps_typed (succ_of m) g d t e a h p =
    let ih = cps_typed m g (continuation_type nat ∷ d) nat (beside e) a h.0 p in
    subst (Takes d (cps g e (succ_of m))) (sym h.1) (nat, (continuation_type nat, ih, (nat, (nat, refl, (refl, refl)), refl)), refl)
cps_typed (pred_of m) g d t e a h p =
    let ih = cps_typed m g (continuation_type nat ∷ d) nat (beside e) a h.0 p in
    subst (Takes d (cps g e (pred_of m))) (sym h.1) (nat, (continuation_type nat, ih, (nat, (nat, refl, (refl, refl)), refl)), refl)
cps_typed (binary o m n) g d t e a h p =
    let i1 = cps_typed m g (continuation_type nat ∷ d) nat (beside e) a.0 h.0 p in
    let i2 = cps_typed n g (nat ∷ continuation_type nat ∷ d) nat (beside (beside e)) a.1 h.1 p in
    subst (Takes d (cps g e (binary o m n))) (sym h.2)
    (nat, (continuation_type nat, i1, (nat, (continuation_type nat, i2, (nat, (nat, refl, (refl, refl, refl)), refl)), refl)), refl)
cps_typed (ifz c m n) g d t e a h p =
    let i1 = cps_typed c g (continuation_type nat ∷ d) nat (beside e) a.0 h.0 p in
    let i2 = cps_typed m g (nat ∷ continuation_type nat ∷ d) nat (beside (beside e)) a.1 h.1 p in
    let i3 = cps_typed n g (nat ∷ continuation_type nat ∷ d) nat (beside (beside e)) a.2 h.2 p in
    subst (Takes d (cps g e (ifz c m n))) (sym h.3) (
      nat,
      (continuation_type nat, i1, (nat, (refl, (continuation_type nat, i2, refl), (continuation_type nat, i3, refl), refl), refl)),
      refl,
    )
cps_typed (lam b m) g d t e a h p =
    let c = type_in (b ∷ g) m in
    let hm : HasType (b ∷ g) m c = subst (HasType (b ∷ g) m) (typed_in m (b ∷ g) h.0 a.1 h.1) h.1 in
    let ih = cps_typed m (b ∷ g) (value_type b ∷ continuation_type (arrow b c) ∷
    d) c (under (beside e)) a.1 hm (placed_under g (continuation_type (arrow b c) ∷ d) (beside e) b p) in
    subst (Takes d (cps g e (lam b m))) (sym (typed_in (lam b m) g t a h)) (
      nat,
      (value_type (arrow b c), refl, (arrow (continuation_type c) nat, ih, refl)),
      refl,
    )
cps_typed (fix (arrow b z) (lam c m)) g d t e a h p =
    let (y, hm, q) = h.0 in
    let d' = value_type c ∷ value_type (arrow b z) ∷ continuation_type (arrow b z) ∷ d in
    let ih = cps_typed m (c ∷ arrow b z ∷ g) d' y (under (under (beside e))) a.2 hm
    (placed_under (arrow b z ∷ g) (value_type (arrow b z) ∷ continuation_type (arrow b z) ∷
    d) (under (beside e)) c (placed_under g (continuation_type (arrow b z) ∷ d) (beside e) (arrow b z) p)) in
    subst (Takes d (cps g e (fix (arrow b z) (lam c m)))) (sym h.1) (
      nat,
      (value_type (arrow b z), refl, ((arrow (continuation_type y) nat, ih, ap value_type q), refl)),
      refl,
    )
cps_typed (fix b m) g d t e a h p = elim a [ ]
cps_typed (app f x) g d t e a h p =
    let (b, hf, hx) = h in
    let q = typed_in f g (arrow b t) a.0 hf in
    let i1 = cps_typed f g (continuation_type t ∷ d) (arrow b t) (beside e) a.0 hf p in
    let i2 = cps_typed x g (value_type (arrow b t) ∷ continuation_type t ∷ d) b (beside (beside e)) a.1 hx p in
    subst (λ z. Takes d (lam (continuation_type (result_type z))
    (app (cps g (beside e) f) (lam (value_type z)
    (app (cps g (beside (beside e)) x) (lam (value_type (argument_type z)) (app (app (var 1) (var 0)) (var 2))))))) t) q (
      nat,
      (
        continuation_type (arrow b t),
        i1,
        (nat, (continuation_type b, i2, (nat, (continuation_type t, (value_type b, refl, refl), refl), refl)), refl),
      ),
      refl,
    )
cps_typed (pair m n) g d t e a h p = elim a [ ]
cps_typed (proj s m) g d t e a h p = elim a [ ]

-- the whole program
pub translated_typed : (m : TermTree) → HasType [] m nat → HasTranslation m → HasType [] (translated m) nat
translated_typed m h a = (continuation_type nat, cps_typed m [] [] nat (λ i. i) a h (λ i b q. cc), (nat, refl, refl))

pub translated_size : (m : TermTree) → size (translated m) ≤ 10 * size m + 3
translated_size m = let h = size_cps m [] (λ i. i) in omega arith

pub translated_height : (m : TermTree) → Accepted m → height (translated m) < 2600
translated_height m (l, a) = let h = height_cps m [] (λ i. i) in omega arith
