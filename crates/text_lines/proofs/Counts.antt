-- The digits with which bytes begin, by their length, and numbers that are counted digit by digit, up to the bound.
-- Counting with the bound at each digit is counting without it and taking the bound at the end, since the bound, times ten, is above it.
use Rattle.std.proofs.Common.{◌≡◌, ℕ, ◌+◌, ◌-◌, ◌*◌, Bool, true, false, List, [], ◌∷◌, length, take, drop, refl}
use Rattle.std.proofs.Common.{ap, ◌∙◌, arith}
use Rattle.std.specs.Prelude.{if◌then◌else◌}
use Rattle.std.specs.Char.{is_ascii_digit}
use Rattle.std.specs.Str.{all_ascii_digits}
use Rattle.std.specs.Str.Parse.{digits_value}
use Rattle.std.proofs.lemmas.Str.Parse.{IsNumeralModel, numerals_by_fold, tells_all_ascii_digits}
use Rattle.text_lines.specs.Digits.{behind, capped, digits_in}
use Rattle.text_lines.specs.Scanning.{capped_after}
use Rattle.text_lines.proofs.Numbers.{digits_in_are}

-- one byte more in front, which is a digit or not
taken : (c : Bool) (b : ℕ) (bs : List ℕ) → take (length (digits_in bs)) bs ≡ digits_in bs →
    take (length (if c then b ∷ digits_in bs else [])) (b ∷ bs) ≡ (if c then b ∷ digits_in bs else [])
taken true b bs h = ap (λ t. b ∷ t) h
taken false b bs h = refl

-- So many first bytes are the digits.
pub digits_taken : (bs : List ℕ) → take (length (digits_in bs)) bs ≡ digits_in bs
digits_taken [] = refl
digits_taken (b ∷ bs) = taken (is_ascii_digit b) b bs (digits_taken bs)

-- the same of what stands behind
dropped : (c : Bool) (b : ℕ) (bs : List ℕ) → drop (length (digits_in bs)) bs ≡ behind bs →
    drop (length (if c then b ∷ digits_in bs else [])) (b ∷ bs) ≡ (if c then behind bs else b ∷ bs)
dropped true b bs h = h
dropped false b bs h = refl

-- What comes behind so many bytes is what stands behind the digits.
pub digits_dropped : (bs : List ℕ) → drop (length (digits_in bs)) bs ≡ behind bs
digits_dropped [] = refl
digits_dropped (b ∷ bs) = dropped (is_ascii_digit b) b bs (digits_dropped bs)

-- the number of digits behind a number
abbrev read_on : ℕ → List ℕ → ℕ
read_on n [] = n
read_on n (d ∷ ds) = read_on (n * 10 + (d - 48)) ds

-- which is their value
own : IsNumeralModel (λ ds. all_ascii_digits ds ≡ true) (read_on 0)
own = numerals_by_fold (λ ds. all_ascii_digits ds ≡ true) tells_all_ascii_digits read_on
    (record { empty = λ n. refl; more = λ n c cs h. refl })

-- a bound before a digit, which is bounded again
capped_step : (n d : ℕ) → capped (capped n * 10 + d) ≡ capped (n * 10 + d)
capped_step n d = omega arith

-- counting behind a bounded number
capped_on : (n : ℕ) (ds : List ℕ) → capped_after (capped n) ds ≡ capped (read_on n ds)
capped_on n [] = refl
capped_on n (d ∷ ds) = ap (λ n. capped_after n ds) (capped_step n (d - 48)) ∙ capped_on (n * 10 + (d - 48)) ds

-- The number that is counted is the digits' value, up to the bound.
pub number_capped : (bs : List ℕ) → capped_after 0 (digits_in bs) ≡ capped (digits_value 10 (digits_in bs))
number_capped bs = capped_on 0 (digits_in bs) ∙ ap capped (own.same (digits_in bs) (own.to (digits_in bs) (digits_in_are bs)))

-- A number that is counted over so many first bytes is the digits' value, up to the bound.
pub number_at : (bs : List ℕ) (k : ℕ) (ds : List ℕ) (n : ℕ) → k ≡ length (digits_in bs) → ds ≡ take k bs →
    n ≡ capped_after 0 ds →
    n ≡ capped (digits_value 10 (digits_in bs))
number_at bs k ds n e f g = g ∙ ap (capped_after 0) (f ∙ ap (λ k. take k bs) e ∙ digits_taken bs) ∙ number_capped bs

-- What comes behind so many first bytes stands behind the digits.
pub behind_at : (bs : List ℕ) (k : ℕ) → k ≡ length (digits_in bs) → drop k bs ≡ behind bs
behind_at bs k e = ap (λ k. drop k bs) e ∙ digits_dropped bs
