-- Codes tell apart what they stand for, and values tell their numbers.
use Rattle.std.proofs.Common.{◌≡◌, ℕ, zero, suc, ◌+◌, ◌-◌, ◌*◌, ◌/◌, ◌%◌, ◌^◌, ◌<◌, Bool, true, false, nat_eq, List, [], ◌∷◌, ◌++◌}
use Rattle.std.proofs.Common.{replicate, eqb-true, refl, sym, ap, ◌∙◌, arith, pow-suc}
use Rattle.std.proofs.Math.Nat.{mod-eq_of_lt}
use Rattle.std.proofs.lemmas.Nat.{div-add-mod', mod_below, mod_low, pow_pos}
use Rattle.verilog_tree.specs.Meaning.{chosen}
use Rattle.verilog_waves.specs.Dump.{code, bits_text, digits_text}
use Rattle.verilog_waves.specs.Laws.{number_of}

-- a list's first number and what stands behind it
abbrev first_of : List ℕ → ℕ
first_of [] = 0
first_of (x ∷ xs) = x

abbrev rest_of : List ℕ → List ℕ
rest_of [] = []
rest_of (x ∷ xs) = xs

-- no code is empty
some_code : (b y : ℕ) → [] ≡ replicate b 126 ++ y ∷ [] → ⊥
some_code zero y e = cc
some_code (suc b) y e = cc

-- how often all characters were used up, and the character
parts : (a b x y : ℕ) → replicate a 126 ++ x ∷ [] ≡ replicate b 126 ++ y ∷ [] → (a ≡ b) × (x ≡ y)
parts zero zero x y e = (refl, ap first_of e)
parts zero (suc b) x y e = absurd (some_code b y (ap rest_of e))
parts (suc a) zero x y e = absurd (some_code a x (sym (ap rest_of e)))
parts (suc a) (suc b) x y e = let h = parts a b x y (ap rest_of e) in (ap suc h.0, h.1)

pub codes_differ : (i j : ℕ) → code i ≡ code j → i ≡ j
codes_differ i j e =
    let h = parts (i / 94) (j / 94) (33 + i % 94) (33 + j % 94) e in
    let d = h.0 in
    let m = h.1 in
    let a = div-add-mod' i 94 in
    let b = div-add-mod' j 94 in
    omega arith

-- a number by its half, its lowest bit and what stands below
halved : (m q p r h b k : ℕ) → m ≡ q * p + r → q ≡ h * 2 + b → k ≡ p * 2 → m ≡ h * k + (b * p + r)
halved m q p r h b k e f g = rw (e, f, g) (omega arith)

-- a bit and what stands below it are below the next power
below : (b p r k : ℕ) → b < 2 → r < p → k ≡ p * 2 → b * p + r < k
below zero p r k h l e = omega arith
below (suc zero) p r k h l e = omega arith
below (suc (suc b)) p r k h l e = absurd (omega arith)

-- one bit more
bit_more : (w m : ℕ) → m % 2 ^ suc w ≡ m / 2 ^ w % 2 * 2 ^ w + m % 2 ^ w
bit_more w m =
    let p = 2 ^ w in
    let q = m / 2 ^ w in
    let e : m ≡ q * p + m % p = sym (div-add-mod' m (2 ^ w)) in
    let f : q ≡ q / 2 * 2 + q % 2 = sym (div-add-mod' q 2) in
    let g : 2 ^ suc w ≡ p * 2 = pow-suc 2 w in
    ap (λ n. n % 2 ^ suc w) (halved m q p (m % p) (q / 2) (q % 2) (2 ^ suc w) e f g)
    ∙ mod_low (q / 2) (suc w) (q % 2 * p + m % p)
    (below (q % 2) p (m % p) (2 ^ suc w) (mod_below q 2 (omega arith)) (mod_below m p (pow_pos w)) g)

-- one digit more behind a number
digit_behind : (n b p r k : ℕ) → k ≡ p * 2 → (n * 2 + (48 + b - 48)) * p + r ≡ n * k + (b * p + r)
digit_behind n b p r k e = let d : 48 + b - 48 ≡ b = omega arith in rw (d, e) (omega arith)

-- all bits behind a number
bits_tell : (w n m : ℕ) → number_of m (bits_text w n) ≡ m * 2 ^ w + n % 2 ^ w
bits_tell zero n m = let a : n % 1 < 1 = mod_below n 1 (omega arith) in omega arith
bits_tell (suc w) n m =
    bits_tell w n (m * 2 + (48 + n / 2 ^ w % 2 - 48)) ∙ digit_behind m (n / 2 ^ w % 2) (2 ^ w) (n % 2 ^ w) (2 ^ suc w) (pow-suc 2 w)
    ∙ ap (λ r. m * 2 ^ suc w + r) (sym (bit_more w n))

-- the same without the zeros in front, where the highest bit is a zero or isn't
digits_case : (w n : ℕ) (b : Bool) → nat_eq (n / 2 ^ w % 2) 0 ≡ b → number_of 0 (digits_text w n) ≡ n % 2 ^ w →
    number_of 0 (chosen b (digits_text w n) (bits_text (suc w) n)) ≡ n % 2 ^ suc w
digits_case w n true h ih = ih ∙ none (eqb-true (n / 2 ^ w % 2) 0 h)
  where
    cut : (b p r : ℕ) → b ≡ 0 → b * p + r ≡ r
    cut b p r e = rw e (omega arith)

    none : n / 2 ^ w % 2 ≡ 0 → n % 2 ^ w ≡ n % 2 ^ suc w
    none z = sym (bit_more w n ∙ cut (n / 2 ^ w % 2) (2 ^ w) (n % 2 ^ w) z)
digits_case w n false h ih = bits_tell (suc w) n 0 ∙ zero_in_front (2 ^ suc w) (n % 2 ^ suc w)
  where
    zero_in_front : (p r : ℕ) → 0 * p + r ≡ r
    zero_in_front p r = omega arith

digits_tell : (w n : ℕ) → number_of 0 (digits_text w n) ≡ n % 2 ^ w
digits_tell zero n = let a : n % 1 < 1 = mod_below n 1 (omega arith) in omega arith
digits_tell (suc w) n = digits_case w n (nat_eq (n / 2 ^ w % 2) 0) refl (digits_tell w n)

pub values_tell : (w n : ℕ) → n < 2 ^ w → number_of 0 (digits_text w n) ≡ n
values_tell w n h = digits_tell w n ∙ mod-eq_of_lt h
