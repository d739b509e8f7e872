-- The characters of a text, one by one.
use Rattle.std.proofs.Common.{◌≡◌, ℕ, true, List, [], ◌∷◌, ◌++◌, length, sym, ap, ◌∙◌, length-append, arith}
use Rattle.std.proofs.lemmas.Bool.{and_parts}
use Rattle.std.specs.Prelude.{encode_utf8, encode_utf8_all}
use Rattle.std.specs.Str.{chars, IsUtf8, all_scalars}
use Rattle.std.proofs.lemmas.Str.{chars-encodes, chars-nil, encode_same, length-encode, len_utf8_bounds}

-- a text that begins with a character is not empty
no_text : (c : ℕ) (r : List ℕ) → [] ≡ encode_utf8 c ++ r → ⊥
no_text c r e =
    let n : length {A = ℕ} [] ≡ length (encode_utf8 c ++ r) = ap length e in
    omega (arith, n, length-append (encode_utf8 c) r, length-encode c, len_utf8_bounds c)

-- the first character of a text, and the characters of the rest
spelled : (cs : List ℕ) (c : ℕ) (r : List ℕ) → all_scalars cs ≡ true → encode_utf8_all cs ≡ encode_utf8 c ++ r →
    chars (encode_utf8_all cs) ≡ c ∷ chars r
spelled [] c r s e = absurd (no_text c r e)
spelled (d ∷ ds) c r s e =
    let same = encode_same d c (encode_utf8_all ds) r e in
    let rest : chars r ≡ ds = ap chars (sym same.1) ∙ chars-encodes ds (and_parts _ _ s).1 in
    chars-encodes (d ∷ ds) s ∙ ap (λ x. x ∷ ds) same.0 ∙ ap (λ z. c ∷ z) (sym rest)

-- a text that begins with a character has it first
pub chars_step : (bs : List ℕ) (c : ℕ) (r : List ℕ) → IsUtf8 bs → bs ≡ encode_utf8 c ++ r → chars bs ≡ c ∷ chars r
chars_step bs c r u e = ap chars (sym u.1.1) ∙ spelled u.0 c r u.1.0 (u.1.1 ∙ e)

-- an empty text has none
pub chars_none : (bs : List ℕ) → bs ≡ [] → chars bs ≡ []
chars_none bs e = ap chars e ∙ chars-nil
