-- How the pieces of a printed text split.
use Rattle.std.proofs.Common.{◌≡◌, ℕ, ◌+◌, ◌-◌, ◌*◌, ◌/◌, ◌%◌, ◌^◌, ◌<◌, ◌≤◌, Bool, true, false}
use Rattle.std.proofs.Common.{◌&&◌, ◌||◌, nat_le, List, [], ◌∷◌, ◌++◌, length, Some, refl, sym, ap, ◌∙◌, subst}
use Rattle.std.proofs.Common.{arith, length-append}
use Rattle.std.specs.Prelude.{decimal, encode_utf8, encode_utf8_all, ◌==◌}
use Rattle.std.specs.Char.{len_utf8, is_ascii_alphabetic, is_ascii_alphanumeric}
use Rattle.std.specs.Str.{chars}
use Rattle.std.proofs.lemmas.Fmt.{decimal_by_steps}
use Rattle.std.proofs.lemmas.Bool.{leb-true, le-leb, and_parts, or_right}
use Rattle.std.proofs.lemmas.Str.{length-encode, encode_ascii, chars-encodes}
use Rattle.unicode_ident.specs.Ident.{is_xid_continue}
use Rattle.unicode_ident.proofs.IdentLemmas.{is_xid_start-ascii, is_xid_continue-ascii}
use Rattle.pcf_reader.specs.Tokens.{Token, Number, Name, Placed}
use Rattle.pcf_reader.specs.Spelling.{is_digit, starts_name, sign_of, word_of, value_from, AllPass, sign, digits, word, width, Splits}
use Rattle.pcf_reader.specs.Spelling.{blank, token}
use Rattle.pcf_reader.proofs.Longest.{digit_low}
use Rattle.pcf_reader.proofs.Shown.{IsName}
use Rattle.pcf_reader.proofs.Lexed.{Stops, at_place, longest_number, longest_word, longest_sign}

-- what may stand behind a word or a number
abbrev pub Clear : List ℕ → Type 0
Clear [] = Unit {0}
Clear (c ∷ cs) = (is_digit c ≡ false) × (is_xid_continue c ≡ false)

-- it goes on with no number
clear_digit : (cs : List ℕ) → Clear cs → Stops is_digit cs
clear_digit [] h = tt
clear_digit (c ∷ cs) h = h.0

-- and with no word
clear_word : (cs : List ℕ) → Clear cs → Stops is_xid_continue cs
clear_word [] h = tt
clear_word (c ∷ cs) h = h.1

-- an ASCII character that goes on with no word
pub clear_by : (c : ℕ) (cs : List ℕ) → c < 128 → is_digit c ≡ false → (is_ascii_alphanumeric c || (c == 95)) ≡ false →
    Clear (c ∷ cs)
clear_by c cs h d e = (d, is_xid_continue-ascii c h ∙ e)

-- a split at a place that is another
pub place_at : (i j : ℕ) (cs : List ℕ) (items : List Placed) → i ≡ j → Splits i cs items → Splits j cs items
place_at i j cs items e h = subst (λ k. Splits k cs items) e h

-- a blank
pub blank_piece : (at : ℕ) (rest : List ℕ) (items : List Placed) → Splits (at + 1) rest items → Splits at (32 ∷ rest) items
blank_piece at rest items h = blank at 32 rest items refl h

-- a sign
pub sign_piece : (c : ℕ) (x : Token) (at : ℕ) (rest : List ℕ) (items : List Placed) → sign_of c ≡ Some x → len_utf8 c ≡ 1 →
    (c ≡ 45 → Stops (λ d. d == 62) rest)
    → Splits (at + 1) rest items → Splits at (c ∷ rest) (at_place at x ∷ items)
sign_piece c x at rest items e n stops h =
    token at (c ∷ rest) (c ∷ []) rest x items refl (sign c x e) (longest_sign c x rest e stops)
    (place_at (at + 1) (at + width (c ∷ [])) rest items (omega (arith, n)) h)

-- a word
pub word_piece : (c : ℕ) (cs : List ℕ) (x : Token) (n at : ℕ) (rest : List ℕ) (items : List Placed) → starts_name c ≡ true →
    AllPass is_xid_continue cs → word_of (encode_utf8_all (c ∷ cs)) ≡ x
    → width (c ∷ cs) ≡ n → Clear rest → Splits (at + n) rest items → Splits at (c ∷ (cs ++ rest)) (at_place at x ∷ items)
word_piece c cs x n at rest items start all is w clear h =
    subst (λ x. Splits at (c ∷ (cs ++ rest)) (at_place at x ∷ items)) is
    (token at (c ∷ (cs ++ rest)) (c ∷ cs) rest (word_of (encode_utf8_all (c ∷ cs))) items refl (word c cs start all)
    (longest_word c cs rest start (clear_word rest clear))
    (place_at (at + n) (at + width (c ∷ cs)) rest items (ap (λ k. at + k) (sym w)) h))

-- words of small letters
abbrev pub all_small : List ℕ → Bool
all_small [] = true
all_small (c ∷ cs) = (nat_le 97 c && nat_le c 122) && all_small cs

-- small letters are letters, begin names and go on with them, and are single bytes
small_letter : (c : ℕ) → (nat_le 97 c && nat_le c 122) ≡ true → is_ascii_alphabetic c ≡ true
small_letter c h = ap (λ b. (nat_le 65 c && nat_le c 90) || b) h ∙ or_right (nat_le 65 c && nat_le c 90) true refl

small_low : (c : ℕ) → (nat_le 97 c && nat_le c 122) ≡ true → c < 128
small_low c h = let le : c ≤ 122 = leb-true c 122 (and_parts (nat_le 97 c) (nat_le c 122) h).1 in omega (arith, le)

small_starts : (c : ℕ) → (nat_le 97 c && nat_le c 122) ≡ true → starts_name c ≡ true
small_starts c h = ap (λ b. b || (c == 95)) (is_xid_start-ascii c (small_low c h) ∙ small_letter c h)

-- of three tests the second holds
or_third : (a b d : Bool) → b ≡ true → ((a || b) || d) ≡ true
or_third true b d h = refl
or_third false true d h = refl
or_third false false d h = cc

small_continues : (c : ℕ) → (nat_le 97 c && nat_le c 122) ≡ true → is_xid_continue c ≡ true
small_continues c h = is_xid_continue-ascii c (small_low c h) ∙ or_third _ (nat_le 97 c && nat_le c 122) (c == 95) h

small_all : (cs : List ℕ) → all_small cs ≡ true → AllPass is_xid_continue cs
small_all [] h = tt
small_all (c ∷ cs) h = (
  small_continues c (and_parts (nat_le 97 c && nat_le c 122) (all_small cs) h).0,
  small_all cs (and_parts (nat_le 97 c && nat_le c 122) (all_small cs) h).1,
)

small_bytes : (cs : List ℕ) → all_small cs ≡ true → encode_utf8_all cs ≡ cs
small_bytes [] h = refl
small_bytes (c ∷ cs) h =
    ap (λ z. z ++ encode_utf8_all cs) (encode_ascii c (small_low c (and_parts (nat_le 97 c && nat_le c 122) (all_small cs) h).0))
    ∙ ap (λ z. c ∷ z) (small_bytes cs (and_parts (nat_le 97 c && nat_le c 122) (all_small cs) h).1)

-- a keyword
pub keyword_piece : (c : ℕ) (cs : List ℕ) (x : Token) (n at : ℕ) (rest : List ℕ) (items : List Placed) →
    all_small (c ∷ cs) ≡ true → word_of (c ∷ cs) ≡ x
    → width (c ∷ cs) ≡ n → Clear rest → Splits (at + n) rest items → Splits at (c ∷ (cs ++ rest)) (at_place at x ∷ items)
keyword_piece c cs x n at rest items small is w clear h =
    word_piece c cs x n at rest items (small_starts c (and_parts (nat_le 97 c && nat_le c 122) (all_small cs) small).0)
    (small_all cs (and_parts (nat_le 97 c && nat_le c 122) (all_small cs) small).1) (ap word_of (small_bytes (c ∷ cs) small) ∙
    is) w clear h

-- a digit
digit_test : (d : ℕ) → d < 10 → is_digit (48 + d) ≡ true
digit_test d h =
    ap (λ b. b && nat_le (48 + d) 57) (le-leb 48 (48 + d) (omega arith)) ∙ le-leb (48 + d) 57 (omega (arith, h))

-- what each of two lists passes
all_append : (p : ℕ → Bool) (u v : List ℕ) → AllPass p u → AllPass p v → AllPass p (u ++ v)
all_append p [] v h k = k
all_append p (c ∷ u) v h k = (h.0, all_append p u v h.1 k)

-- the value of one digit more
value_append : (k : ℕ) (ds : List ℕ) (c : ℕ) → value_from k (ds ++ c ∷ []) ≡ 10 * value_from k ds + (c - 48)
value_append k [] c = refl
value_append k (d ∷ ds) c = value_append (10 * k + (d - 48)) ds c

-- the digits of a number
pub record IsDecimal (n : ℕ) (ds : List ℕ) : Type 0 where
  pub first : ℕ
  pub more : List ℕ
  pub is : ds ≡ first ∷ more
  pub all : AllPass is_digit ds
  pub value : value_from 0 ds ≡ n

-- a number below ten
one_digit : (n : ℕ) → n < 10 → IsDecimal n ((48 + n) ∷ [])
one_digit n h = record { first = 48 + n; more = []; is = refl; all = (digit_test n h, tt); value = omega arith }

-- a number with one digit more
more_digits : (n : ℕ) (ds : List ℕ) → 10 ≤ n → IsDecimal (n / 10) ds → IsDecimal n (ds ++ ((48 + n % 10) ∷ []))
more_digits n ds h k =
    record {
      first = k.first;
      more = k.more ++ ((48 + n % 10) ∷ []);
      is = ap (λ z. z ++ ((48 + n % 10) ∷ [])) k.is;
      all = all_append is_digit ds ((48 + n % 10) ∷ []) k.all (digit_test (n % 10) (omega arith), tt);
      value = value_append 0 ds (48 + n % 10) ∙ omega (arith, k.value);
    }

-- what is printed of a number are its digits
pub decimal_digits : (n : ℕ) → n < 2 ^ 64 → IsDecimal n (decimal n)
decimal_digits n h = decimal_by_steps IsDecimal one_digit more_digits n h

-- an ASCII character has one byte
pub low_width : (c : ℕ) → c < 128 → len_utf8 c ≡ 1
low_width c h = sym (length-encode c) ∙ ap length (encode_ascii c h)

-- a digit is one
digit_below : (c : ℕ) → is_digit c ≡ true → c < 128
digit_below c h = let le : c ≤ 57 = digit_low c h in omega (arith, le)

-- digits are as wide as they are many
digits_width : (ds : List ℕ) → AllPass is_digit ds → width ds ≡ length ds
digits_width [] h = refl
digits_width (c ∷ ds) h = omega (arith, low_width c (digit_below c h.0), digits_width ds h.1)

-- and are their own bytes
pub digits_bytes : (ds : List ℕ) → AllPass is_digit ds → encode_utf8_all ds ≡ ds
digits_bytes [] h = refl
digits_bytes (c ∷ ds) h = ap (λ z. z ++ encode_utf8_all ds) (encode_ascii c (digit_below c h.0)) ∙
    ap (λ z. c ∷ z) (digits_bytes ds h.1)

-- a number
pub number_piece : (n at : ℕ) (rest : List ℕ) (items : List Placed) → n < 2 ^ 64 → Clear rest →
    Splits (at + length (decimal n)) rest items → Splits at (decimal n ++ rest) (at_place at (Number n) ∷ items)
number_piece n at rest items small clear h =
    let d : IsDecimal n (decimal n) = decimal_digits n small in
    let all : AllPass is_digit (d.first ∷ d.more) = subst (λ z. AllPass is_digit z) d.is d.all in
    let value : value_from 0 (d.first ∷ d.more) ≡ n = ap (λ z. value_from 0 z) (sym d.is) ∙ d.value in
    let place : at + length (decimal n) ≡ at + width (d.first ∷ d.more) =
    omega (arith, digits_width (d.first ∷ d.more) all, ap length d.is) in
    subst (λ z. Splits at (z ++ rest) (at_place at (Number n) ∷ items)) (sym d.is)
    (subst (λ v. Splits at ((d.first ∷ d.more) ++ rest) (at_place at (Number v) ∷ items)) value
    (token at ((d.first ∷ d.more) ++ rest) (d.first ∷ d.more) rest (Number (value_from 0 (d.first ∷ d.more))) items refl
    (digits d.first d.more all)
    (longest_number d.first d.more rest all.0 (clear_digit rest clear))
    (place_at (at + length (decimal n)) (at + width (d.first ∷ d.more)) rest items place h)))

-- a name's characters
pub width_bytes : (cs : List ℕ) → width cs ≡ length (encode_utf8_all cs)
width_bytes [] = refl
width_bytes (c ∷ cs) = omega (arith, length-append (encode_utf8 c) (encode_utf8_all cs), length-encode c, width_bytes cs)

-- the characters of a name
pub name_chars : (x : List ℕ) (h : IsName x) → chars x ≡ h.first ∷ h.more
name_chars x h = ap chars (sym h.spelled) ∙ chars-encodes (h.first ∷ h.more) h.scalars

-- a name
pub name_piece : (x : List ℕ) (at : ℕ) (rest : List ℕ) (items : List Placed) → IsName x → Clear rest →
    Splits (at + length x) rest items → Splits at (chars x ++ rest) (at_place at (Name x) ∷ items)
name_piece x at rest items h clear k =
    subst (λ z. Splits at (z ++ rest) (at_place at (Name x) ∷ items)) (sym (name_chars x h))
    (word_piece h.first h.more (Name x) (length x) at rest items h.starts h.goes_on (ap word_of h.spelled ∙
    h.no_keyword) (width_bytes (h.first ∷ h.more) ∙ ap length h.spelled) clear k)
