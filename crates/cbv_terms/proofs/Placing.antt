-- The binders around a term as the definition's context and map: what becomes of them under one more binder, and what they say of a
-- variable.
use Rattle.std.proofs.Common.{◌≡◌, ℕ, zero, suc, ◌+◌, ◌-◌, ◌<◌, List, [], ◌∷◌, ◌++◌, map, reverse, length}
use Rattle.std.proofs.Common.{take, Some, sym, ap, ◌∙◌, subst, arith}
use Rattle.std.specs.Prelude.{slice_get}
use Rattle.std.proofs.lemmas.List.{length-map, length-reverse, length_push, reverse-append, take_at}
use Rattle.std.proofs.lemmas.Option.{slice_get_within}
use Rattle.pcf_values.specs.Terms.{TyTree}
use Rattle.pcf_values.specs.Views.{ty_of}
use Rattle.cbv_terms.specs.declared.binder.Binder.{Binder}
use Rattle.cbv_terms.specs.Translation.{type_at, beside, under}
use Rattle.cbv_terms.specs.Views.{context_of, places, map_of, AreAround}

around_deeper : (d : ℕ) (bs : List Binder) → AreAround d bs → AreAround (suc d) bs
around_deeper d [] h = tt
around_deeper d (b ∷ bs) (l, h) = (omega arith, around_deeper d bs h)

places_deeper : (d : ℕ) (bs : List Binder) → AreAround d bs → (i : ℕ) → places (suc d) bs i ≡ suc (places d bs i)
places_deeper d [] h i = omega arith
places_deeper d (b ∷ bs) (l, h) zero = omega arith
places_deeper d (b ∷ bs) (l, h) (suc i) = places_deeper d bs h i

places_under : (d : ℕ) (bs : List Binder) (b : Binder) → b.level ≡ d → AreAround d bs → (i : ℕ) →
    places (suc d) (b ∷ bs) i ≡ under (places d bs) i
places_under d bs b e h zero = omega arith
places_under d bs b e h (suc i) = places_deeper d bs h i

one_more : (d : ℕ) → suc d ≡ d + 1
one_more d = omega arith

two_more : (d : ℕ) → suc (suc d) ≡ d + 2
two_more d = omega arith

-- under a binder of the translated term alone, or two
pub around_beside : (d : ℕ) (bs : List Binder) → AreAround d (reverse bs) → AreAround (d + 1) (reverse bs)
around_beside d bs h = subst (λ k. AreAround k (reverse bs)) (one_more d) (around_deeper d (reverse bs) h)

pub around_beside_twice : (d : ℕ) (bs : List Binder) → AreAround d (reverse bs) → AreAround (d + 2) (reverse bs)
around_beside_twice d bs h = subst (λ k. AreAround k (reverse bs)) (two_more d)
    (around_deeper (suc d) (reverse bs) (around_deeper d (reverse bs) h))

map_deeper : (d : ℕ) (bs : List Binder) → AreAround d (reverse bs) → map_of (suc d) bs ≡ beside (map_of d bs)
map_deeper d bs h = λ k i. places_deeper d (reverse bs) h i k

pub map_beside : (d : ℕ) (bs : List Binder) → AreAround d (reverse bs) → map_of (d + 1) bs ≡ beside (map_of d bs)
map_beside d bs h = ap (λ k. map_of k bs) (sym (one_more d)) ∙ map_deeper d bs h

pub map_beside_twice : (d : ℕ) (bs : List Binder) → AreAround d (reverse bs) → map_of (d + 2) bs ≡ beside (beside (map_of d bs))
map_beside_twice d bs h = ap (λ k. map_of k bs) (sym (two_more d)) ∙ map_deeper (suc d) bs (around_deeper d (reverse bs) h) ∙
    ap beside (map_deeper d bs h)

-- under a binder of both terms
pushed_first : (bs : List Binder) (b : Binder) → reverse (bs ++ b ∷ []) ≡ b ∷ reverse bs
pushed_first bs b = reverse-append bs (b ∷ [])

pub around_pushed : (d : ℕ) (bs : List Binder) (b : Binder) → b.level ≡ d → AreAround d (reverse bs) →
    AreAround (d + 1) (reverse (bs ++ b ∷ []))
around_pushed d bs b e h = subst (AreAround (d + 1)) (sym (pushed_first bs b)) (omega arith, around_beside d bs h)

pub context_pushed : (bs : List Binder) (b : Binder) → context_of (bs ++ b ∷ []) ≡ ty_of b.ty.now ∷ context_of bs
context_pushed bs b = ap (map (λ b. ty_of b.ty.now)) (pushed_first bs b)

pub map_pushed : (d : ℕ) (bs : List Binder) (b : Binder) → b.level ≡ d → AreAround d (reverse bs) →
    map_of (d + 1) (bs ++ b ∷ []) ≡ under (map_of d bs)
map_pushed d bs b e h = ap (λ k. map_of k (bs ++ b ∷ [])) (sym (one_more d)) ∙ ap (places (suc d)) (pushed_first bs b) ∙
    (λ k i. places_under d (reverse bs) b e h i k)

-- and after it
pub taken_off : (bs mid new : List Binder) (b : Binder) (n : ℕ) → mid ≡ bs ++ b ∷ [] → n ≡ length mid →
    new ≡ take (n - 1) mid → new ≡ bs
taken_off bs mid new b n e l h =
    let k = ap length e ∙ length_push bs b in
    h ∙ ap (take (n - 1)) e ∙ take_at bs (b ∷ []) (n - 1) (omega arith)

-- a variable that has a type has a binder
pub variable_within : (bs : List Binder) (i : ℕ) (t : TyTree) → slice_get (context_of bs) i ≡ Some t → i < length bs
variable_within bs i t h =
    let l = slice_get_within (context_of bs) i t h in
    let e = length-map (reverse bs) (λ (b : Binder). ty_of b.ty.now) in
    let f = length-reverse bs in
    omega arith

-- and what the binder says of it, where the nearest binder comes first
around_at : (d : ℕ) (bs : List Binder) (i : ℕ) (b : Binder) → AreAround d bs → slice_get bs i ≡ Some b → b.level < d
around_at d [] i b h e = cc
around_at d (a ∷ bs) zero b (l, h) e = let q : a ≡ b = cc in subst (λ (b : Binder). b.level < d) q l
around_at d (a ∷ bs) (suc i) b (l, h) e = around_at d bs i b h e

place_at : (d : ℕ) (bs : List Binder) (i : ℕ) (b : Binder) → slice_get bs i ≡ Some b → places d bs i ≡ d - suc b.level
place_at d [] i b e = cc
place_at d (a ∷ bs) zero b e = let q : a ≡ b = cc in ap (λ (b : Binder). d - suc b.level) q
place_at d (a ∷ bs) (suc i) b e = place_at d bs i b e

pub variable_level : (d : ℕ) (bs : List Binder) (i : ℕ) (b : Binder) → AreAround d (reverse bs) →
    slice_get (reverse bs) i ≡ Some b → b.level < d
variable_level d bs i b h e = around_at d (reverse bs) i b h e

-- its index under one more binder
pub variable_place : (d : ℕ) (bs : List Binder) (i : ℕ) (b : Binder) → AreAround d (reverse bs) →
    slice_get (reverse bs) i ≡ Some b → d - b.level ≡ suc (map_of d bs i)
variable_place d bs i b h e = let l = around_at d (reverse bs) i b h e in let q = place_at d (reverse bs) i b e in omega arith

type_first : (bs : List Binder) (i : ℕ) (b : Binder) → slice_get bs i ≡ Some b →
    type_at (map (λ b. ty_of b.ty.now) bs) i ≡ ty_of b.ty.now
type_first [] i b e = cc
type_first (a ∷ bs) zero b e = let q : a ≡ b = cc in ap (λ (b : Binder). ty_of b.ty.now) q
type_first (a ∷ bs) (suc i) b e = type_first bs i b e

pub variable_type : (bs : List Binder) (i : ℕ) (b : Binder) → slice_get (reverse bs) i ≡ Some b →
    type_at (context_of bs) i ≡ ty_of b.ty.now
variable_type bs i b e = type_first (reverse bs) i b e
