-- Digits in front of other bytes are found, and they are a number exactly when they spell one.
use Rattle.std.proofs.Common.{◌≡◌, ℕ, Bool, true, false, List, [], ◌∷◌, ◌++◌, length, get_or, refl, ap, ◌∙◌}
use Rattle.std.specs.Prelude.{nat_lt, nat_eq, if◌then◌else◌}
use Rattle.std.specs.Str.{all_ascii_digits, bytes_eq}
use Rattle.std.specs.Char.{is_ascii_digit}
use Rattle.std.specs.Str.Parse.{digits_value}
use Rattle.std.proofs.lemmas.Bool.{lt-ltb, ltb-true, and_parts, and_from, eqb-true, eq-eqb, eqb-false}
use Rattle.std.proofs.lemmas.Slice.Eq.{bytes_eq-Decides}
use Rattle.text_lines.specs.Numbers.{Spells}
use Rattle.text_lines.specs.Digits.{behind, digits_in, is_number, is_plain}

-- Bytes that are told to be the same are.
pub same_is : (a b : List ℕ) → bytes_eq a b ≡ true → a ≡ b
same_is a b h = (bytes_eq-Decides a b).0 h

-- Bytes that are the same are told to be.
pub is_same : (a b : List ℕ) → a ≡ b → bytes_eq a b ≡ true
is_same a b h = (bytes_eq-Decides a b).1 h

-- a number that is told to be plain is
plain_is : (b : Bool) (n k : ℕ) → nat_eq n 48 ≡ b → (if b then nat_eq k 1 else true) ≡ true → n ≡ 48 → k ≡ 1
plain_is true n k e h i = eqb-true k 1 h
plain_is false n k e h i = absurd (eqb-false n 48 e i)

-- one that is plain is told to be
is_plain_is : (b : Bool) (n k : ℕ) → nat_eq n 48 ≡ b → (n ≡ 48 → k ≡ 1) → (if b then nat_eq k 1 else true) ≡ true
is_plain_is true n k e h = eq-eqb k 1 (h (eqb-true n 48 e))
is_plain_is false n k e h = refl

-- one digit more in front
digits_are : (b : Bool) (d : ℕ) (ds : List ℕ) → is_ascii_digit d ≡ b → all_ascii_digits ds ≡ true →
    all_ascii_digits (if b then d ∷ ds else []) ≡ true
digits_are true d ds e h = and_from (is_ascii_digit d) (all_ascii_digits ds) e h
digits_are false d ds e h = refl

-- The digits with which a text begins are digits.
pub digits_in_are : (l : List ℕ) → all_ascii_digits (digits_in l) ≡ true
digits_in_are [] = refl
digits_in_are (b ∷ bs) = digits_are (is_ascii_digit b) b (digits_in bs) refl (digits_in_are bs)

-- one byte more in front, which is a digit or not
parts_are : (c : Bool) (b : ℕ) (bs : List ℕ) → digits_in bs ++ behind bs ≡ bs →
    (if c then b ∷ digits_in bs else []) ++ (if c then behind bs else b ∷ bs) ≡ b ∷ bs
parts_are true b bs h = ap (λ t. b ∷ t) h
parts_are false b bs h = refl

-- A text is the digits with which it begins, and what stands behind them.
pub digits_behind : (l : List ℕ) → digits_in l ++ behind l ≡ l
digits_behind [] = refl
digits_behind (b ∷ bs) = parts_are (is_ascii_digit b) b bs (digits_behind bs)

-- A number that is told is spelled.
pub number_is : (l : List ℕ) → is_number (digits_in l) ≡ true → Spells (digits_in l) (digits_value 10 (digits_in l))
number_is l h =
    let ds = digits_in l in
    let (a, c) = and_parts (nat_lt 0 (length ds)) (is_plain ds) h in
    record {
      some = ltb-true 0 (length ds) a;
      digits = digits_in_are l;
      plain = plain_is (nat_eq (get_or ds 0 0) 48) (get_or ds 0 0) (length ds) refl c;
      value = refl;
    }

-- A number that is spelled is told.
pub is_number_is : (ds : List ℕ) (n : ℕ) → Spells ds n → is_number ds ≡ true
is_number_is ds n s =
    and_from (nat_lt 0 (length ds)) (is_plain ds) (lt-ltb 0 (length ds) s.some)
    (is_plain_is (nat_eq (get_or ds 0 0) 48) (get_or ds 0 0) (length ds) refl s.plain)

-- Digits before another byte are the digits with which the text begins.
pub digits_first : (ds : List ℕ) (x : ℕ) (rest : List ℕ) → all_ascii_digits ds ≡ true → is_ascii_digit x ≡ false →
    digits_in (ds ++ x ∷ rest) ≡ ds
digits_first [] x rest h k = ap (λ b. if b then x ∷ digits_in rest else []) k
digits_first (d ∷ ds) x rest h k =
    let (p, q) = and_parts (is_ascii_digit d) (all_ascii_digits ds) h in
    ap (λ b. if b then d ∷ digits_in (ds ++ x ∷ rest) else []) p ∙ ap (λ t. d ∷ t) (digits_first ds x rest q k)

-- What stands behind digits before another byte begins with that byte.
pub behind_first : (ds : List ℕ) (x : ℕ) (rest : List ℕ) → all_ascii_digits ds ≡ true → is_ascii_digit x ≡ false →
    behind (ds ++ x ∷ rest) ≡ x ∷ rest
behind_first [] x rest h k = ap (λ b. if b then behind rest else x ∷ rest) k
behind_first (d ∷ ds) x rest h k =
    let (p, q) = and_parts (is_ascii_digit d) (all_ascii_digits ds) h in
    ap (λ b. if b then behind (ds ++ x ∷ rest) else d ∷ (ds ++ x ∷ rest)) p ∙ behind_first ds x rest q k
