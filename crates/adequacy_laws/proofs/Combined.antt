-- Where a combined question's result comes from: the values, the counts and the stuck parts of what it was combined of.
use Rattle.std.proofs.Common.{◌≡◌, ◌⊎◌, ℕ, ◌+◌, refl, sym, ap, ◌∙◌, inl, inr}
use Rattle.pcf_values.specs.declared.val.Val.{Val}
use Rattle.adequacy_laws.specs.Questions.{Asked, gives, deeper, stuck, after, then_ask, Join, both}

-- a value behind an operation comes from a value
pub after_gives : (f : Val → Val) (k : ℕ) (a : Asked) (v : Val) (n : ℕ) → after f k a ≡ gives v n →
    (w : Val) × (i : ℕ) × (a ≡ gives w i) × (v ≡ f w) × (n ≡ i + k)
after_gives f k (gives w i) v n h = let e : f w ≡ v = cc in let d : i + k ≡ n = cc in (w, i, refl, sym e, sym d)
after_gives f k deeper v n h = cc
after_gives f k stuck v n h = cc

-- stuck behind an operation is stuck before it
pub after_stuck : (f : Val → Val) (k : ℕ) (a : Asked) → after f k a ≡ stuck → a ≡ stuck
after_stuck f k (gives w i) h = cc
after_stuck f k deeper h = cc
after_stuck f k stuck h = refl

-- a value of a second question comes from a value of the first
pub then_gives : (k : ℕ) (a : Asked) (f : Val → Asked) (v : Val) (n : ℕ) → then_ask k a f ≡ gives v n →
    (w : Val) × (i : ℕ) × (a ≡ gives w i) × (j : ℕ) × (f w ≡ gives v j) × (n ≡ j + (i + k))
then_gives k (gives w i) f v n h =
    let (x, j, e, g, z) = after_gives (λ w. w) (i + k) (f w) v n h in
    (w, i, refl, j, e ∙ ap (λ x. gives x j) (sym g), z)
then_gives k deeper f v n h = cc
then_gives k stuck f v n h = cc

-- where it is stuck, the first question is, or the one that its value decides
pub then_stuck : (k : ℕ) (a : Asked) (f : Val → Asked) → then_ask k a f ≡ stuck →
    (a ≡ stuck) ⊎ ((w : Val) × (i : ℕ) × (a ≡ gives w i) × (f w ≡ stuck))
then_stuck k (gives w i) f h = inr (w, i, refl, after_stuck (λ w. w) (i + k) (f w) h)
then_stuck k deeper f h = cc
then_stuck k stuck f h = inl refl

-- a value of two questions comes from a value of each
pub both_gives : (join : Join) (f : Val → Val → Val) (a b : Asked) (v : Val) (n : ℕ) → both join f a b ≡ gives v n →
    (x y : Val) × (i j : ℕ) × (a ≡ gives x i) × (b ≡ gives y j) × (v ≡ f x y) × (n ≡ join i j)
both_gives join f stuck b v n h = cc
both_gives join f deeper stuck v n h = cc
both_gives join f deeper deeper v n h = cc
both_gives join f deeper (gives y j) v n h = cc
both_gives join f (gives x i) stuck v n h = cc
both_gives join f (gives x i) deeper v n h = cc
both_gives join f (gives x i) (gives y j) v n h =
    let e : f x y ≡ v = cc in
    let z : join i j ≡ n = cc in
    (x, y, i, j, refl, refl, sym e, sym z)

-- where they are stuck, one of them is
pub both_stuck : (join : Join) (f : Val → Val → Val) (a b : Asked) → both join f a b ≡ stuck → (a ≡ stuck) ⊎ (b ≡ stuck)
both_stuck join f stuck b h = inl refl
both_stuck join f deeper stuck h = inr refl
both_stuck join f deeper deeper h = cc
both_stuck join f deeper (gives y j) h = cc
both_stuck join f (gives x i) stuck h = inr refl
both_stuck join f (gives x i) deeper h = cc
both_stuck join f (gives x i) (gives y j) h = cc

-- and a second one that is stuck is enough
pub stuck_right : (join : Join) (f : Val → Val → Val) (a : Asked) → both join f a stuck ≡ stuck
stuck_right join f (gives v n) = refl
stuck_right join f deeper = refl
stuck_right join f stuck = refl
