-- What `get_one` reads is what the definitions read.
use Rattle.std.proofs.Common.{◌≡◌, ◌&&◌, ◌∙◌, ◌<◌, ◌^◌, ℕ, Bool, true, false, refl, sym, ap, cond, List, [], ◌∷◌, length, nat_lt, Option}
use Rattle.std.proofs.Common.{Some, None, Result, Ok, Err}
use Rattle.std.proofs.lemmas.Bool.{lt-ltb, ltb-true, and_parts}
use Rattle.std.specs.List.{list_all}
use Rattle.std.specs.Option.{option_map_or, unwrap_or}
use Rattle.std.specs.Char.{digit_value}
use Rattle.std.specs.Str.{bytes_eq}
use Rattle.std.specs.Prelude.{codes}
use Rattle.std.specs.Str.Parse.{AllDigits, IsNumeral, ParsesBool, ParsesUnsigned, digits_value, true_text, without_leading_plus}
use Rattle.std.proofs.lemmas.Slice.Eq.{bytes_eq-Decides}
use Rattle.clap.specs.Words.{ReadsOne, Text}
use Rattle.clap.specs.ValueTests.{is_numeral}
use Rattle.goi_words.specs.Findings.{◌>>=◌}
use Rattle.goi_words.specs.Asked.{number_in}

-- the test on digits and what it says
all_digits : (ds : List ℕ) → AllDigits 10 ds → list_all (λ d. nat_lt (digit_value d) 10) ds ≡ true
all_digits [] h = refl
all_digits (d ∷ ds) h = rw (lt-ltb (digit_value d) 10 h.0) (all_digits ds h.1)

-- and what makes the test true
digits_all : (ds : List ℕ) → list_all (λ d. nat_lt (digit_value d) 10) ds ≡ true → AllDigits 10 ds
digits_all [] e = tt
digits_all (d ∷ ds) e =
    let parts = and_parts _ _ e in
    (ltb-true _ _ parts.0, digits_all ds parts.1)

-- digits are a numeral
pub numeral : (ds : List ℕ) → IsNumeral 10 ds → is_numeral ds ≡ true
numeral ds h = rw (lt-ltb 0 (length ds) h.0) (all_digits ds h.1)

-- a numeral has digits
pub is_numeral_so : (ds : List ℕ) → is_numeral ds ≡ true → IsNumeral 10 ds
is_numeral_so ds e =
    let parts = and_parts (nat_lt 0 (length ds)) _ e in
    (ltb-true _ _ parts.0, digits_all ds parts.1)

-- a text that is read as a number
pub number_read : (t : Text) → IsNumeral 10 (without_leading_plus t) → digits_value 10 (without_leading_plus t) < 2 ^ 32
    → number_in t ≡ Some (digits_value 10 (without_leading_plus t))
number_read t h small = rw (numeral (without_leading_plus t) h, lt-ltb (digits_value 10 (without_leading_plus t)) (2 ^ 32) small) refl

-- a text that is read as no number
number_unread : (t : Text) → (IsNumeral 10 (without_leading_plus t) × (digits_value 10 (without_leading_plus t) < 2 ^ 32) → ⊥)
    → number_in t ≡ None
number_unread t never = go (is_numeral (without_leading_plus t)) (nat_lt (digits_value 10 (without_leading_plus t)) (2 ^ 32)) refl refl
  where
    go : (a b : Bool) → is_numeral (without_leading_plus t) ≡ a → nat_lt (digits_value 10 (without_leading_plus t)) (2 ^ 32) ≡ b
        → number_in t ≡ None
    go true true e f = absurd (never (is_numeral_so _ e, ltb-true _ _ f))
    go true false e f = rw (e, f) refl
    go false b e f = rw e refl

-- `get_one::<u32>`
pub number_one : (E : Type 0) (G : List ℕ → Result ℕ E → Type 0) (o : Option Text) (r : Option ℕ)
    → ((t : List ℕ) (x : Result ℕ E) → G t x → ParsesUnsigned 32 10 t x)
    → (o ≡ None → r ≡ None) → ((t : List ℕ) → o ≡ Some t → ReadsOne G t r) → r ≡ (o >>= number_in)
number_one E G None r only none value = none refl
number_one E G (Some t) None only none value =
    let read = value t refl in
    sym (number_unread t (only t (Err read.0) read.1))
number_one E G (Some t) (Some n) only none value =
    let read = only t (Ok n) (value t refl) in
    ap Some read.1 ∙ sym (number_read t read.0.0 read.0.1)

-- `get_one::<bool>`
pub flag_one : (E : Type 0) (G : List ℕ → Result Bool E → Type 0) (o : Option Text) (r : Option Bool)
    → ((t : List ℕ) (x : Result Bool E) → G t x → ParsesBool t x)
    → (o ≡ None → r ≡ None) → ((t : List ℕ) → o ≡ Some t → ReadsOne G t r)
    → unwrap_or r false ≡ option_map_or (λ t. bytes_eq t (codes "true")) o false
flag_one E G None r only none value = rw (none refl) refl
flag_one E G (Some t) None only none value =
    let read = value t refl in
    let not_these = only t (Err read.0) read.1 in
    go (bytes_eq t (codes "true")) refl not_these.0
  where
    go : (b : Bool) → bytes_eq t (codes "true") ≡ b → (t ≡ true_text → ⊥) → false ≡ bytes_eq t (codes "true")
    go true e never = absurd (never ((bytes_eq-Decides t (codes "true")).0 e))
    go false e never = sym e
flag_one E G (Some t) (Some true) only none value =
    let read = only t (Ok true) (value t refl) in
    rw read refl
flag_one E G (Some t) (Some false) only none value =
    let read = only t (Ok false) (value t refl) in
    rw read refl

-- what is read of a text is what `parse` reads
pub reads_itself : (t : Text) → ReadsOne {E = Unit {0}} (ParsesUnsigned 32 10) t (number_in t)
reads_itself t = go (is_numeral (without_leading_plus t)) (nat_lt (digits_value 10 (without_leading_plus t)) (2 ^ 32)) refl refl
  where
    go : (a b : Bool) → is_numeral (without_leading_plus t) ≡ a → nat_lt (digits_value 10 (without_leading_plus t)) (2 ^ 32) ≡ b
        → ReadsOne {E = Unit {0}} (ParsesUnsigned 32 10) t (cond (a && b) (Some (digits_value 10 (without_leading_plus t))) None)
    go true true e f = ((is_numeral_so _ e, ltb-true _ _ f), refl)
    go true false e f = (tt, λ fits. let bad : true ≡ false = sym (lt-ltb _ _ fits.1) ∙ f in cc)
    go false b e f = (tt, λ fits. let bad : true ≡ false = sym (numeral _ fits.0) ∙ e in cc)
