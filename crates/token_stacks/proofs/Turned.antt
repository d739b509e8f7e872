-- A few words that are held while the others move.
use Rattle.std.proofs.Common.{◌≡◌, ℕ, ◌+◌, ◌-◌, ◌≤◌, refl, List, [], ◌∷◌, ◌++◌, length, get_or, take, drop, set, sym, ◌∙◌, ap, arith}
use Rattle.std.proofs.Common.{length-drop}
use Rattle.std.proofs.lemmas.List.{take_all}
use lib.Seq.{paste}
use Rattle.token_stacks.proofs.Ends.{set_after, one_on, length_on}

-- lists of one, two and three words
pub record One (ws : List ℕ) : Type 0 where
  pub x : ℕ
  pub is : ws ≡ x ∷ []

pub record Two (ws : List ℕ) : Type 0 where
  pub x : ℕ
  pub y : ℕ
  pub is : ws ≡ x ∷ y ∷ []

pub record Three (ws : List ℕ) : Type 0 where
  pub x : ℕ
  pub y : ℕ
  pub z : ℕ
  pub is : ws ≡ x ∷ y ∷ z ∷ []

one : (ws : List ℕ) → length ws ≡ 1 → One ws
one [] h = absurd (omega (arith, h))
one (x ∷ []) h = record { x = x; is = refl }
one (x ∷ y ∷ ws) h = absurd (omega (arith, h))

two : (ws : List ℕ) → length ws ≡ 2 → Two ws
two [] h = absurd (omega (arith, h))
two (x ∷ ws) h = let o = one ws (omega (arith, h)) in record { x = x; y = o.x; is = ap (λ (z : List ℕ). x ∷ z) o.is }

three : (ws : List ℕ) → length ws ≡ 3 → Three ws
three [] h = absurd (omega (arith, h))
three (x ∷ ws) h = let o = two ws (omega (arith, h)) in record { x = x; y = o.x; z = o.y; is = ap (λ (z : List ℕ). x ∷ z) o.is }

-- what has moved to the front, and what is left of the old words behind it
record Front (xs ys : List ℕ) (k : ℕ) : Type 0 where
  rest : List ℕ
  is : ys ≡ drop k xs ++ rest
  long : length rest ≡ k

to_front : (xs ys : List ℕ) (k : ℕ) → k ≤ length xs → ys ≡ paste xs 0 (drop k xs) (length xs - k) → Front xs ys k
to_front xs ys k h e = record {
  rest = drop (0 + (length xs - k)) xs;
  is = e ∙ ap (λ (z : List ℕ). z ++ drop (0 + (length xs - k)) xs) (take_all (length xs - k) (drop k xs) (omega (arith, length-drop k xs)));
  long = length-drop (0 + (length xs - k)) xs ∙ omega (arith, h);
}

-- The first word goes behind the others.
pub behind_one : (xs ys : List ℕ) → 1 ≤ length xs → ys ≡ paste xs 0 (drop 1 xs) (length xs - 1)
    → set ys (length xs - 1) (get_or xs 0 0) ≡ drop 1 xs ++ take 1 xs
behind_one [] ys h e = absurd (omega (arith, h))
behind_one (x ∷ xs) ys h e =
    let m = to_front (x ∷ xs) ys 1 h e in
    let o = one m.rest m.long in
    let now : ys ≡ xs ++ o.x ∷ [] = m.is ∙ ap (λ (z : List ℕ). xs ++ z) o.is in
    set_after xs o.x [] ys (length (x ∷ xs) - 1) x now (omega arith)

-- The first two do.
pub behind_two : (xs ys : List ℕ) → 2 ≤ length xs → ys ≡ paste xs 0 (drop 2 xs) (length xs - 2)
    → set (set ys (length xs - 2) (get_or xs 0 0)) (length xs - 1) (get_or xs 1 0) ≡ drop 2 xs ++ take 2 xs
behind_two [] ys h e = absurd (omega (arith, h))
behind_two (x ∷ []) ys h e = absurd (omega (arith, h))
behind_two (x ∷ y ∷ xs) ys h e =
    let m = to_front (x ∷ y ∷ xs) ys 2 h e in
    let o = two m.rest m.long in
    let i : ℕ = length (x ∷ y ∷ xs) - 2 in
    let now : ys ≡ xs ++ o.x ∷ o.y ∷ [] = m.is ∙ ap (λ (z : List ℕ). xs ++ z) o.is in
    let first : set ys i x ≡ (xs ++ x ∷ []) ++ o.y ∷ [] =
    set_after xs o.x (o.y ∷ []) ys i x now (omega arith) ∙ one_on xs x (o.y ∷ []) in
    set_after (xs ++ x ∷ []) o.y [] (set ys i x) (length (x ∷ y ∷ xs) - 1) y first (omega (arith, length_on xs x))
    ∙ sym (one_on xs x (y ∷ []))

-- The first three do.
pub behind_three : (xs ys : List ℕ) → 3 ≤ length xs → ys ≡ paste xs 0 (drop 3 xs) (length xs - 3)
    → set (set (set ys (length xs - 3) (get_or xs 0 0)) (length xs - 2) (get_or xs 1 0)) (length xs - 1) (get_or xs 2 0)
    ≡ drop 3 xs ++ take 3 xs
behind_three [] ys h e = absurd (omega (arith, h))
behind_three (x ∷ []) ys h e = absurd (omega (arith, h))
behind_three (x ∷ y ∷ []) ys h e = absurd (omega (arith, h))
behind_three (x ∷ y ∷ w ∷ xs) ys h e =
    let m = to_front (x ∷ y ∷ w ∷ xs) ys 3 h e in
    let o = three m.rest m.long in
    let i : ℕ = length (x ∷ y ∷ w ∷ xs) - 3 in
    let j : ℕ = length (x ∷ y ∷ w ∷ xs) - 2 in
    let now : ys ≡ xs ++ o.x ∷ o.y ∷ o.z ∷ [] = m.is ∙ ap (λ (z : List ℕ). xs ++ z) o.is in
    let first : set ys i x ≡ (xs ++ x ∷ []) ++ o.y ∷ o.z ∷ [] =
    set_after xs o.x (o.y ∷ o.z ∷ []) ys i x now (omega arith) ∙ one_on xs x (o.y ∷ o.z ∷ []) in
    let l = length_on xs x in
    let second : set (set ys i x) j y ≡ ((xs ++ x ∷ []) ++ y ∷ []) ++ o.z ∷ [] =
    set_after (xs ++ x ∷ []) o.y (o.z ∷ []) (set ys i x) j y first (omega (arith, l)) ∙ one_on (xs ++ x ∷ []) y (o.z ∷ []) in
    set_after ((xs ++ x ∷ []) ++ y ∷ []) o.z [] (set (set ys i x) j y) (length (x ∷ y ∷ w ∷ xs) - 1) w second
    (omega (arith, l, length_on (xs ++ x ∷ []) y))
    ∙ sym (one_on (xs ++ x ∷ []) y (w ∷ [])) ∙ sym (one_on xs x (y ∷ w ∷ []))
