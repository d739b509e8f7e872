-- One character more in each mode.
use Rattle.std.proofs.Common.{◌≡◌, ℕ, ◌+◌, true, false, List, [], ◌∷◌, ◌++◌, Some, None, sym, ap, ◌∙◌}
use Rattle.std.proofs.Common.{if◌then◌else◌, ne_eqb}
use Rattle.std.specs.Prelude.{encode_utf8}
use Rattle.std.specs.Char.{len_utf8}
use Rattle.unicode_ident.specs.Ident.{is_xid_continue}
use Rattle.pcf_values.specs.declared.operator.Operator.TheVariants.{Minus}
use Rattle.pcf_reader.specs.Tokens.{Placed}
use Rattle.pcf_reader.specs.Spelling.{is_blank, is_digit, starts_name, sign_of}
use Rattle.std.specs.Prelude.{◌==◌, ◌-◌, ◌*◌, ◌^◌, ◌<◌, ◌≤◌}
use Rattle.std.proofs.Common.{arith, inl, inr}
use Rattle.std.proofs.lemmas.Bool.{cases_lt, lt-ltb, le-ltb}
use Rattle.pcf_reader.specs.Tokens.{Arrow, Sign, End}
use Rattle.pcf_reader.specs.Lexing.{Mode, idle, in_comment, in_word, lex, turned, closed, opened, on_sign, after_dash, in_number, capped}

-- what is left of the choices at a first character that is no blank
abbrev rest_2 : ℕ → ℕ → (Mode → List Placed) → List Placed
rest_2 at c go =
    if c == 35 then go in_comment else if c == 45 then go (after_dash at) else if is_digit c then go (in_number at (c - 48))
    else if starts_name c then go (in_word at (encode_utf8 c)) else on_sign (sign_of c) at go

pub comment_more : (t r : List ℕ) (at c : ℕ) → t ≡ c ∷ r → (c ≡ 10 → ⊥) →
    lex t at in_comment ≡ lex r (at + len_utf8 c) in_comment
unfolding lex
comment_more t r at c e h =
    ap (λ z. lex z at in_comment) e
    ∙ ap (λ b. turned (if b then None else Some in_comment) in_comment at c (λ m. lex r (at + len_utf8 c) m)) (ne_eqb c 10 h)

pub comment_line : (t r : List ℕ) (at c : ℕ) → t ≡ c ∷ r → c ≡ 10 → lex t at in_comment ≡ lex t at idle
unfolding lex
comment_line t r at c e h =
    let s : t ≡ 10 ∷ r = e ∙ ap (λ d. d ∷ r) h in
    ap (λ z. lex z at in_comment) s ∙ sym (ap (λ z. lex z at idle) s)

pub comment_end : (t : List ℕ) (at : ℕ) → t ≡ [] → lex t at in_comment ≡ lex t at idle
unfolding lex
comment_end t at e = ap (λ z. lex z at in_comment) e ∙ sym (ap (λ z. lex z at idle) e)

pub word_more : (t r : List ℕ) (at c start : ℕ) (word : List ℕ) → t ≡ c ∷ r → is_xid_continue c ≡ true →
    lex t at (in_word start word) ≡ lex r (at + len_utf8 c) (in_word start (word ++ encode_utf8 c))
unfolding lex
word_more t r at c start word e h =
    ap (λ z. lex z at (in_word start word)) e
    ∙ ap (λ b. turned (if b then Some (in_word start (word ++ encode_utf8 c)) else None) (in_word start word) at c
    (λ m. lex r (at + len_utf8 c) m)) h

pub blank_more : (t r : List ℕ) (at c : ℕ) → t ≡ c ∷ r → is_blank c ≡ true → lex t at idle ≡ lex r (at + len_utf8 c) idle
unfolding lex
blank_more t r at c e h =
    ap (λ z. lex z at idle) e
    ∙ ap (λ v. if v then lex r (at + len_utf8 c) idle else rest_2 at c (λ m. lex r (at + len_utf8 c) m)) h

pub comment_first : (t r : List ℕ) (at c : ℕ) → t ≡ c ∷ r → c ≡ 35 → lex t at idle ≡ lex r (at + 1) in_comment
unfolding lex
comment_first t r at c e h = ap (λ z. lex z at idle) (e ∙ ap (λ d. d ∷ r) h)

pub word_stop : (t r : List ℕ) (at c start : ℕ) (word : List ℕ) → t ≡ c ∷ r → is_xid_continue c ≡ false →
    lex t at (in_word start word) ≡ closed (in_word start word) (lex t at idle)
unfolding lex
word_stop t r at c start word e h =
    ap (λ z. lex z at (in_word start word)) e
    ∙ ap (λ b. turned (if b then Some (in_word start (word ++ encode_utf8 c)) else None) (in_word start word) at c
    (λ m. lex r (at + len_utf8 c) m)) h
    ∙ sym (ap (λ z. closed (in_word start word) (lex z at idle)) e)

pub word_end : (t : List ℕ) (at start : ℕ) (word : List ℕ) → t ≡ [] →
    lex t at (in_word start word) ≡ closed (in_word start word) (lex t at idle)
unfolding lex
word_end t at start word e = ap (λ z. lex z at (in_word start word)) e ∙ sym (ap (λ z. closed (in_word start word) (lex z at idle)) e)

pub number_more : (t r : List ℕ) (at c start n : ℕ) → t ≡ c ∷ r → is_digit c ≡ true →
    lex t at (in_number start n) ≡ lex r (at + len_utf8 c) (in_number start (10 * n + (c - 48)))
unfolding lex
number_more t r at c start n e h =
    ap (λ z. lex z at (in_number start n)) e
    ∙ ap (λ b. turned (if b then Some (in_number start (10 * n + (c - 48))) else None) (in_number start n) at c
    (λ m. lex r (at + len_utf8 c) m)) h

pub number_stop : (t r : List ℕ) (at c start n : ℕ) → t ≡ c ∷ r → is_digit c ≡ false →
    lex t at (in_number start n) ≡ closed (in_number start n) (lex t at idle)
unfolding lex
number_stop t r at c start n e h =
    ap (λ z. lex z at (in_number start n)) e
    ∙ ap (λ b. turned (if b then Some (in_number start (10 * n + (c - 48))) else None) (in_number start n) at c
    (λ m. lex r (at + len_utf8 c) m)) h
    ∙ sym (ap (λ z. closed (in_number start n) (lex z at idle)) e)

pub number_end : (t : List ℕ) (at start n : ℕ) → t ≡ [] →
    lex t at (in_number start n) ≡ closed (in_number start n) (lex t at idle)
unfolding lex
number_end t at start n e = ap (λ z. lex z at (in_number start n)) e ∙ sym (ap (λ z. closed (in_number start n) (lex z at idle)) e)

pub dash_arrow : (t r : List ℕ) (at start : ℕ) → t ≡ 62 ∷ r →
    lex t (at + 1) (after_dash start) ≡ record { at = start; token = Arrow } ∷ lex r (at + 2) idle
unfolding lex
dash_arrow t r at start e = ap (λ z. lex z (at + 1) (after_dash start)) e ∙
    ap (λ i. record { at = start; token = Arrow } ∷ lex r i idle) (omega arith)

pub dash_stop : (t r : List ℕ) (at c start : ℕ) → t ≡ c ∷ r → (c == 62) ≡ false →
    lex t at (after_dash start) ≡ record { at = start; token = Sign Minus } ∷ lex t at idle
unfolding lex
dash_stop t r at c start e h =
    ap (λ z. lex z at (after_dash start)) e
    ∙ ap (λ b. if b then record { at = start; token = Arrow } ∷
    lex r (at + len_utf8 c) idle else closed (after_dash start) (opened at c (λ m. lex r (at + len_utf8 c) m))) h
    ∙ sym (ap (λ z. record { at = start; token = Sign Minus } ∷ lex z at idle) e)

pub dash_end : (t : List ℕ) (at start : ℕ) → t ≡ [] → lex t at (after_dash start) ≡ record { at = start; token = Sign Minus } ∷
    lex t at idle
unfolding lex
dash_end t at start e = ap (λ z. lex z at (after_dash start)) e ∙
    sym (ap (λ z. record { at = start; token = Sign Minus } ∷ lex z at idle) e)

-- at the first character of a token
pub token_first : (t r : List ℕ) (at c : ℕ) → t ≡ c ∷ r → is_blank c ≡ false → (c == 35) ≡ false
    → lex t at idle ≡ (if c == 45 then lex r (at + len_utf8 c) (after_dash at) else if is_digit c then lex r (at + len_utf8 c)
    (in_number at (c - 48)) else if starts_name c then lex r (at + len_utf8 c) (in_word at (encode_utf8 c)) else on_sign (sign_of c) at
    (λ m. lex r (at + len_utf8 c) m))
unfolding lex
token_first t r at c e nb nc =
    ap (λ z. lex z at idle) e
    ∙ ap (λ b. if b then lex r (at + len_utf8 c) idle else rest_2 at c (λ m. lex r (at + len_utf8 c) m)) nb
    ∙ ap (λ b. if b then lex r (at + len_utf8 c) in_comment else if c == 45 then lex r (at + len_utf8 c) (after_dash at) else if is_digit
    c then lex r (at + len_utf8 c) (in_number at (c - 48)) else if starts_name c then lex r (at + len_utf8 c) (in_word at (encode_utf8 c))
    else on_sign (sign_of c) at (λ m. lex r (at + len_utf8 c) m)) nc

pub dash_first : (t r : List ℕ) (at c : ℕ) → t ≡ c ∷ r → c ≡ 45 → lex t at idle ≡ lex r (at + 1) (after_dash at)
unfolding lex
dash_first t r at c e h = ap (λ z. lex z at idle) (e ∙ ap (λ d. d ∷ r) h)

-- between tokens, a digit begins a number
pub number_first : (t r : List ℕ) (at c : ℕ) → t ≡ c ∷ r → is_blank c ≡ false → (c == 35) ≡ false →
    (c == 45) ≡ false → is_digit c ≡ true → lex t at idle ≡ lex t at (in_number at 0)
number_first t r at c e nb nc nd h =
    token_first t r at c e nb nc
    ∙ ap (λ b. if b then lex r (at + len_utf8 c) (after_dash at) else if is_digit c then lex r (at + len_utf8 c) (in_number at (c - 48))
    else if starts_name c then lex r (at + len_utf8 c) (in_word at (encode_utf8 c)) else on_sign (sign_of c) at
    (λ m. lex r (at + len_utf8 c) m)) nd
    ∙ ap (λ b. if b then lex r (at + len_utf8 c) (in_number at (c - 48)) else if starts_name c then lex r (at + len_utf8 c)
    (in_word at (encode_utf8 c)) else on_sign (sign_of c) at (λ m. lex r (at + len_utf8 c) m)) h
    ∙ ap (λ n. lex r (at + len_utf8 c) (in_number at n)) (omega arith)
    ∙ sym (number_more t r at c at 0 e h)

-- between tokens, a character that starts a name begins a word
pub word_first : (t r : List ℕ) (at c : ℕ) → t ≡ c ∷ r → is_blank c ≡ false → (c == 35) ≡ false →
    (c == 45) ≡ false → is_digit c ≡ false → starts_name c ≡ true → is_xid_continue c ≡ true
    → lex t at idle ≡ lex t at (in_word at [])
word_first t r at c e nb nc nd ng h k =
    token_first t r at c e nb nc
    ∙ ap (λ b. if b then lex r (at + len_utf8 c) (after_dash at) else if is_digit c then lex r (at + len_utf8 c) (in_number at (c - 48))
    else if starts_name c then lex r (at + len_utf8 c) (in_word at (encode_utf8 c)) else on_sign (sign_of c) at
    (λ m. lex r (at + len_utf8 c) m)) nd
    ∙ ap (λ b. if b then lex r (at + len_utf8 c) (in_number at (c - 48)) else if starts_name c then lex r (at + len_utf8 c)
    (in_word at (encode_utf8 c)) else on_sign (sign_of c) at (λ m. lex r (at + len_utf8 c) m)) ng
    ∙ ap (λ b. if b then lex r (at + len_utf8 c) (in_word at (encode_utf8 c)) else on_sign (sign_of c) at
    (λ m. lex r (at + len_utf8 c) m)) h
    ∙ sym (word_more t r at c at [] e k)

-- between tokens, every other character is a sign or no token
pub sign_first : (t r : List ℕ) (at c : ℕ) → t ≡ c ∷ r → is_blank c ≡ false → (c == 35) ≡ false →
    (c == 45) ≡ false → is_digit c ≡ false → starts_name c ≡ false
    → lex t at idle ≡ on_sign (sign_of c) at (λ m. lex r (at + len_utf8 c) m)
sign_first t r at c e nb nc nd ng h =
    token_first t r at c e nb nc
    ∙ ap (λ b. if b then lex r (at + len_utf8 c) (after_dash at) else if is_digit c then lex r (at + len_utf8 c) (in_number at (c - 48))
    else if starts_name c then lex r (at + len_utf8 c) (in_word at (encode_utf8 c)) else on_sign (sign_of c) at
    (λ m. lex r (at + len_utf8 c) m)) nd
    ∙ ap (λ b. if b then lex r (at + len_utf8 c) (in_number at (c - 48)) else if starts_name c then lex r (at + len_utf8 c)
    (in_word at (encode_utf8 c)) else on_sign (sign_of c) at (λ m. lex r (at + len_utf8 c) m)) ng
    ∙ ap (λ b. if b then lex r (at + len_utf8 c) (in_word at (encode_utf8 c)) else on_sign (sign_of c) at
    (λ m. lex r (at + len_utf8 c) m)) h

-- a capped number goes on as the number does
pub capped_low : (n : ℕ) → n < 2 ^ 64 → capped n ≡ n
capped_low n h = ap (λ b. if b then n else 2 ^ 64) (lt-ltb n (2 ^ 64) h)

pub capped_high : (n : ℕ) → 2 ^ 64 ≤ n → capped n ≡ 2 ^ 64
capped_high n h = ap (λ b. if b then n else 2 ^ 64) (le-ltb n (2 ^ 64) h)

pub capped_more : (n d : ℕ) → capped (10 * capped n + d) ≡ capped (10 * n + d)
capped_more n d =
    elim (cases_lt n (2 ^ 64)) [
      | inl h ↦ ap (λ m. capped (10 * m + d)) (capped_low n h)
      | inr h ↦ ap (λ m. capped (10 * m + d)) (capped_high n h) ∙ capped_high (10 * 2 ^ 64 + d) (omega arith) ∙
          sym (capped_high (10 * n + d) (omega (arith, h)))
    ]

pub idle_end : (t : List ℕ) (at : ℕ) → t ≡ [] → lex t at idle ≡ record { at = at; token = End } ∷ []
unfolding lex
idle_end t at e = ap (λ z. lex z at idle) e

pub capped_le : (n : ℕ) → capped n ≤ 2 ^ 64
capped_le n = elim (cases_lt n (2 ^ 64)) [ inl h ↦ omega (arith, h, capped_low n h) | inr h ↦ omega (arith, capped_high n h) ]

pub capped_is : (n v : ℕ) → v ≡ capped n → v < 2 ^ 64 → v ≡ n
capped_is n v e h = elim (cases_lt n (2 ^ 64)) [
  | inl l ↦ e ∙ capped_low n l
  | inr l ↦
      let z : ⊥ = omega (arith, h, e, capped_high n l) in absurd z
]

pub capped_wide : (n v : ℕ) → v ≡ capped n → 2 ^ 64 ≤ v → 2 ^ 64 ≤ n
capped_wide n v e h = elim (cases_lt n (2 ^ 64)) [ inl l ↦ omega (arith, h, e, capped_low n l) | inr l ↦ l ]
