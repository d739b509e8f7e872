-- How tokens are spelled, by the characters of a text, and how a text splits into them by the longest match.
-- Blanks and comments stand between tokens and are none themselves. A comment ends before the line feed of its line or at the end of
-- the text. A token is taken only where no longer prefix of what is left is one. Where nothing begins, the split ends with `Junk`.
use Rattle.std.specs.Prelude.{◌≡◌, ℕ, ◌+◌, ◌-◌, ◌*◌, Bool, not, ◌||◌, ◌==◌, nat_le, ◌&&◌, IsTrue, IsFalse}
use Rattle.std.specs.Prelude.{List, [], ◌∷◌, ◌++◌, Option, Some, None, codes, encode_utf8_all, if◌then◌else◌}
use Rattle.std.specs.Str.{bytes_eq}
use Rattle.std.specs.Char.{len_utf8}
use Rattle.unicode_ident.specs.Ident.{is_xid_start, is_xid_continue}
use Rattle.pcf_values.specs.declared.operator.Operator.TheVariants.{Plus, Minus, Times}
use Rattle.pcf_values.specs.declared.side.Side.TheVariants.{Left, Right}
use Rattle.pcf_values.specs.Named.{the_succ, the_pred, the_part, the_fun, the_fix}
use Rattle.pcf_reader.specs.Tokens.{Token, Open, Close, Colon, Dot, Comma, Sign, Arrow, Ifz, Then, Else, Nat, Bind, Before}
use Rattle.pcf_reader.specs.Tokens.{Number, Name, End, Junk, Placed}

abbrev pub is_blank : ℕ → Bool
is_blank c = c == 32 || c == 9 || c == 13 || c == 10

abbrev pub is_digit : ℕ → Bool
is_digit c = nat_le 48 c && nat_le c 57

abbrev pub starts_name : ℕ → Bool
starts_name c = is_xid_start c || c == 95

-- the signs of one character
abbrev pub signs : List (ℕ × Token)
signs =
    (40, Open) ∷ (41, Close) ∷ (58, Colon) ∷ (46, Dot) ∷ (44, Comma) ∷ (43, Sign Plus) ∷ (45, Sign Minus) ∷ (42, Sign Times) ∷ []

-- the token of a character in a table, or none
abbrev pub sign_in : List (ℕ × Token) → ℕ → Option Token
sign_in [] c = None
sign_in (s ∷ ss) c = if c == s.0 then Some s.1 else sign_in ss c

abbrev pub sign_of : ℕ → Option Token
sign_of c = sign_in signs c

-- the keywords
abbrev pub keywords : List (List ℕ × Token)
keywords =
    (codes "fun", Bind the_fun) ∷ (codes "fix", Bind the_fix) ∷ (codes "ifz", Ifz) ∷ (codes "then", Then) ∷ (codes "else", Else) ∷
    (codes "succ", Before the_succ) ∷ (codes "pred", Before the_pred) ∷ (codes "fst", Before (the_part Left)) ∷
    (codes "snd", Before (the_part Right)) ∷ (codes "nat", Nat) ∷ []

-- the token of a word in a table, and else the name
abbrev pub word_in : List (List ℕ × Token) → List ℕ → Token
word_in [] cs = Name cs
word_in (k ∷ ks) cs = if bytes_eq cs k.0 then k.1 else word_in ks cs

-- the bytes of a word are a keyword or a name
unfoldable pub word_of : List ℕ → Token
word_of cs = word_in keywords cs

abbrev pub value_from : ℕ → List ℕ → ℕ
value_from n [] = n
value_from n (c ∷ cs) = value_from (10 * n + (c - 48)) cs

abbrev pub AllPass : (ℕ → Bool) → List ℕ → Type 0
AllPass p [] = Unit {0}
AllPass p (c ∷ cs) = IsTrue (p c) × AllPass p cs

-- these characters, all of them, are the token
pub data Spells : List ℕ → Token → Type 0 where
  sign : (c : ℕ) (x : Token) → sign_of c ≡ Some x → Spells (c ∷ []) x
  arrow : Spells (45 ∷ 62 ∷ []) Arrow
  digits : (c : ℕ) (cs : List ℕ) → AllPass is_digit (c ∷ cs) → Spells (c ∷ cs) (Number (value_from 0 (c ∷ cs)))
  word : (c : ℕ) (cs : List ℕ) → IsTrue (starts_name c) → AllPass is_xid_continue cs →
      Spells (c ∷ cs) (word_of (encode_utf8_all (c ∷ cs)))

abbrev pub width : List ℕ → ℕ
width [] = 0
width (c ∷ cs) = len_utf8 c + width cs

-- no longer prefix of the characters is a token
abbrev pub IsLongest : List ℕ → List ℕ → Type 0
IsLongest cs rest = (us : List ℕ) (vs : List ℕ) (c : ℕ) (x : Token) → rest ≡ (c ∷ us) ++ vs → Spells (cs ++ c ∷ us) x →
    ⊥

-- the rest of a comment's line
abbrev pub EndsLine : List ℕ → Type 0
EndsLine [] = Unit {0}
EndsLine (c ∷ cs) = c ≡ 10

-- the characters from a place on are these tokens, and blanks and comments between them
pub data Splits : ℕ → List ℕ → List Placed → Type 0 where
  ends : (at : ℕ) → Splits at [] (record { at = at; token = End } ∷ [])
  blank : (at : ℕ) (c : ℕ) (cs : List ℕ) (items : List Placed) → IsTrue (is_blank c) → Splits (at + len_utf8 c) cs items →
      Splits at (c ∷ cs) items
  comment : (at : ℕ) (text cs rest : List ℕ) (items : List Placed) → text ≡ 35 ∷ (cs ++ rest) →
      AllPass (λ c. not (c == 10)) cs → EndsLine rest
      → Splits (at + width (35 ∷ cs)) rest items → Splits at text items
  token : (at : ℕ) (text cs rest : List ℕ) (x : Token) (items : List Placed) → text ≡ cs ++ rest → Spells cs x →
      IsLongest cs rest
      → Splits (at + width cs) rest items → Splits at text (record { at = at; token = x } ∷ items)
  junk : (at : ℕ) (c : ℕ) (cs : List ℕ) → IsFalse (is_blank c) → IsFalse (c == 35)
      → ((us vs : List ℕ) (x : Token) → c ∷ cs ≡ us ++ vs → Spells us x → ⊥) →
      Splits at (c ∷ cs) (record { at = at; token = Junk } ∷ [])
