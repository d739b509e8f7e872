-- The tokens of a text, from left to right, one character a step.
-- This is the middle between the split of a text and the code that finds it; only contracts inside the crate speak of it.
use Rattle.std.specs.Prelude.{ℕ, ◌+◌, ◌-◌, ◌*◌, ◌^◌, nat_lt, ◌==◌, List, [], ◌∷◌, ◌++◌, Option, Some, None}
use Rattle.std.specs.Prelude.{if◌then◌else◌}
use Rattle.std.specs.Char.{len_utf8, encode_utf8}
use Rattle.unicode_ident.specs.Ident.{is_xid_continue}
use Rattle.pcf_values.specs.declared.operator.Operator.TheVariants.{Minus}
use Rattle.pcf_reader.specs.Tokens.{Token, Sign, Arrow, Number, End, Junk, Placed}
use Rattle.pcf_reader.specs.Spelling.{is_blank, is_digit, starts_name, sign_of, word_of}

-- what the characters before the next one are a prefix of
pub data Mode : Type 0 where
  idle : Mode
  in_comment : Mode
  after_dash : ℕ → Mode
  in_number : ℕ → ℕ → Mode
  in_word : ℕ → List ℕ → Mode

-- the mode with one more character, if that goes on with it
abbrev pub longer : Mode → ℕ → Option Mode
longer idle c = None
longer in_comment c = if c == 10 then None else Some in_comment
longer (after_dash at) c = None
longer (in_number at n) c = if is_digit c then Some (in_number at (10 * n + (c - 48))) else None
longer (in_word at cs) c = if is_xid_continue c then Some (in_word at (cs ++ encode_utf8 c)) else None

-- the token of a mode that has ended, before the tokens behind it
abbrev pub closed : Mode → List Placed → List Placed
closed idle xs = xs
closed in_comment xs = xs
closed (after_dash at) xs = record { at = at; token = Sign Minus } ∷ xs
closed (in_number at n) xs = record { at = at; token = Number n } ∷ xs
closed (in_word at cs) xs = record { at = at; token = word_of cs } ∷ xs

abbrev pub on_sign : Option Token → ℕ → (Mode → List Placed) → List Placed
on_sign None at go = record { at = at; token = Junk } ∷ []
on_sign (Some x) at go = record { at = at; token = x } ∷ go idle

-- goes on behind the first character of a token, a blank or a comment
abbrev pub opened : ℕ → ℕ → (Mode → List Placed) → List Placed
opened at c go =
    if is_blank c then go idle
    else if c == 35 then go in_comment
    else if c == 45 then go (after_dash at)
    else if is_digit c then go (in_number at (c - 48))
    else if starts_name c then go (in_word at (encode_utf8 c))
    else on_sign (sign_of c) at go

abbrev pub turned : Option Mode → Mode → ℕ → ℕ → (Mode → List Placed) → List Placed
turned (Some m') m at c go = go m'
turned None m at c go = closed m (opened at c go)

-- a dash and a `>` are one sign
abbrev pub next_mode : Mode → ℕ → ℕ → (Mode → List Placed) → List Placed
next_mode (after_dash start) at c go = if c == 62 then record { at = start; token = Arrow } ∷
    go idle else closed (after_dash start) (opened at c go)
next_mode m at c go = turned (longer m c) m at c go

-- the tokens of these characters, from a place on
unfoldable pub lex : List ℕ → ℕ → Mode → List Placed
lex [] at m = closed m (record { at = at; token = End } ∷ [])
lex (c ∷ cs) at m = next_mode m at c (λ m'. lex cs (at + len_utf8 c) m')

-- a number, or 2^64 where it is larger: as much of it as tells whether it is too wide
abbrev pub capped : ℕ → ℕ
capped n = if nat_lt n (2 ^ 64) then n else 2 ^ 64
