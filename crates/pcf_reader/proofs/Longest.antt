-- No token of a text is a prefix of a longer one.
use Rattle.std.proofs.Common.{◌≡◌, ℕ, ◌<◌, ◌≤◌, Bool, true, false, ◌||◌, ◌&&◌, List, [], ◌∷◌, ◌++◌}
use Rattle.std.proofs.Common.{Some, None, refl, sym, ap, ◌∙◌, subst, arith}
use Rattle.std.specs.Prelude.{◌==◌, nat_le}
use Rattle.std.specs.Char.{is_ascii_alphabetic}
use Rattle.std.proofs.lemmas.Bool.{ne_eqb, leb-true, lt-leb, and_parts, both_ways}
use Rattle.unicode_ident.specs.Ident.{is_xid_continue}
use Rattle.unicode_ident.proofs.IdentLemmas.{is_xid_start-ascii}
use Rattle.pcf_values.specs.declared.operator.Operator.TheVariants.{Minus}
use Rattle.pcf_reader.specs.Tokens.{Token, Sign}
use Rattle.pcf_reader.specs.Spelling.{is_digit, starts_name, sign_of, AllPass, Spells, sign, arrow, digits, word}
use Rattle.pcf_reader.proofs.Lists.{head_is, tail_is}
use Rattle.pcf_reader.proofs.Spelled.{sign_char}

-- an ASCII character that is no letter and no `_` begins no name
pub not_start : (n : ℕ) → n < 128 → (is_ascii_alphabetic n || (n == 95)) ≡ false → starts_name n ≡ false
not_start n h e = ap (λ b. b || (n == 95)) (is_xid_start-ascii n h) ∙ e

-- a sign begins no name
pub sign_starts : (c : ℕ) (x : Token) → sign_of c ≡ Some x → starts_name c ≡ false
sign_starts c x h =
    sign_char (λ n. starts_name n ≡ false) c x (not_start 40 (omega arith) refl) (not_start 41 (omega arith) refl)
    (not_start 58 (omega arith) refl) (not_start 46 (omega arith) refl)
    (not_start 44 (omega arith) refl) (not_start 43 (omega arith) refl) (not_start 45 (omega arith) refl) (not_start 42 (omega arith) refl)
    h

-- and is no digit
pub sign_digit : (c : ℕ) (x : Token) → sign_of c ≡ Some x → is_digit c ≡ false
sign_digit c x h = sign_char (λ n. is_digit n ≡ false) c x refl refl refl refl refl refl refl refl h

-- a digit is below `:`
pub digit_low : (c : ℕ) → is_digit c ≡ true → c ≤ 57
digit_low c h = leb-true c 57 (and_parts (nat_le 48 c) (nat_le c 57) h).1

-- and begins no name
pub digit_starts : (c : ℕ) → is_digit c ≡ true → starts_name c ≡ false
digit_starts c h = let low : c ≤ 57 = digit_low c h in
    let a : c < 65 = omega arith in
    let b : c < 97 = omega arith in
    let n : c ≡ 95 → ⊥ = λ e. omega arith in
    not_start c (omega arith)
    (ap (λ v. ((v && nat_le c 90) || (nat_le 97 c && nat_le c 122)) || (c == 95)) (lt-leb 65 c a) ∙
    ap (λ v. (v && nat_le c 122) || (c == 95)) (lt-leb 97 c b) ∙ ne_eqb c 95 n)

-- a list with a member is not empty
nil_no : (ds : List ℕ) (d : ℕ) (us : List ℕ) → [] ≡ ds ++ d ∷ us → ⊥
nil_no [] d us e = cc
nil_no (x ∷ ds) d us e = cc

-- what all of a list pass, its member passes
all_at : (p : ℕ → Bool) (ds : List ℕ) (d : ℕ) (us : List ℕ) → AllPass p (ds ++ d ∷ us) → p d ≡ true
all_at p [] d us h = h.0
all_at p (x ∷ ds) d us h = all_at p ds d us h.1

-- no token goes on behind the digits of a number with what is no digit
pub no_longer_number : (c : ℕ) (ds : List ℕ) (d : ℕ) (us l : List ℕ) (x : Token) → is_digit c ≡ true →
    is_digit d ≡ false → Spells l x → l ≡ c ∷ (ds ++ d ∷ us) → ⊥
no_longer_number c ds d us l x first more (sign e y h) q = nil_no ds d us (tail_is e c [] (ds ++ d ∷ us) q)
no_longer_number c ds d us l x first more arrow q =
    both_ways (is_digit c) (ap is_digit (sym (head_is 45 c (62 ∷ []) (ds ++ d ∷ us) q))) first
no_longer_number c ds d us l x first more (digits e es all) q =
    both_ways (is_digit d) more (all_at is_digit ds d us (subst (λ z. AllPass is_digit z) (tail_is e c es (ds ++ d ∷ us) q) all.1))
no_longer_number c ds d us l x first more (word e es start rest) q =
    both_ways (starts_name c) (digit_starts c first) (ap starts_name (sym (head_is e c es (ds ++ d ∷ us) q)) ∙ start)

-- nor behind a word with what goes on with none
pub no_longer_word : (c : ℕ) (ds : List ℕ) (d : ℕ) (us l : List ℕ) (x : Token) → starts_name c ≡ true →
    is_xid_continue d ≡ false → Spells l x → l ≡ c ∷ (ds ++ d ∷ us) → ⊥
no_longer_word c ds d us l x first more (sign e y h) q = nil_no ds d us (tail_is e c [] (ds ++ d ∷ us) q)
no_longer_word c ds d us l x first more arrow q =
    both_ways (starts_name c) (ap starts_name (sym (head_is 45 c (62 ∷ []) (ds ++ d ∷ us) q)) ∙ sign_starts 45 (Sign Minus) refl) first
no_longer_word c ds d us l x first more (digits e es all) q =
    both_ways (starts_name c) (digit_starts c (ap is_digit (sym (head_is e c es (ds ++ d ∷ us) q)) ∙ all.0)) first
no_longer_word c ds d us l x first more (word e es start rest) q =
    both_ways (is_xid_continue d) more (all_at is_xid_continue ds d us
    (subst (λ z. AllPass is_xid_continue z) (tail_is e c es (ds ++ d ∷ us) q) rest))

-- nor behind a sign, but for the arrow
pub no_longer_sign : (c : ℕ) (y : Token) (d : ℕ) (us l : List ℕ) (x : Token) → sign_of c ≡ Some y →
    (c ≡ 45 → d ≡ 62 → ⊥) → Spells l x → l ≡ c ∷ d ∷ us → ⊥
no_longer_sign c y d us l x first more (sign e z h) q = nil_no [] d us (tail_is e c [] (d ∷ us) q)
no_longer_sign c y d us l x first more arrow q =
    more (sym (head_is 45 c (62 ∷ []) (d ∷ us) q)) (sym (head_is 62 d [] us (tail_is 45 c (62 ∷ []) (d ∷ us) q)))
no_longer_sign c y d us l x first more (digits e es all) q =
    both_ways (is_digit c) (sign_digit c y first) (ap is_digit (sym (head_is e c es (d ∷ us) q)) ∙ all.0)
no_longer_sign c y d us l x first more (word e es start rest) q =
    both_ways (starts_name c) (sign_starts c y first) (ap starts_name (sym (head_is e c es (d ∷ us) q)) ∙ start)

-- where no token begins
pub none_begins : (c : ℕ) (cs us vs : List ℕ) (x : Token) → sign_of c ≡ None → is_digit c ≡ false →
    starts_name c ≡ false → Spells us x → c ∷ cs ≡ us ++ vs → ⊥
none_begins c cs us vs x n1 n2 n3 (sign e y h) q = let z : None ≡ Some y = sym n1 ∙ ap sign_of (head_is c e cs vs q) ∙ h in cc
none_begins c cs us vs x n1 n2 n3 arrow q = let z : None ≡ Some (Sign Minus) = sym n1 ∙ ap sign_of (head_is c 45 cs (62 ∷ vs) q) in cc
none_begins c cs us vs x n1 n2 n3 (digits e es all) q = both_ways (is_digit c) n2 (ap is_digit (head_is c e cs (es ++ vs) q) ∙ all.0)
none_begins c cs us vs x n1 n2 n3 (word e es start rest) q =
    both_ways (starts_name c) n3 (ap starts_name (head_is c e cs (es ++ vs) q) ∙ start)

-- nothing is longer than an arrow
pub two_signs : (l : List ℕ) (x : Token) (d : ℕ) (us : List ℕ) → Spells l x → l ≡ 45 ∷ 62 ∷ d ∷ us → ⊥
two_signs l x d us (sign e z h) q = nil_no [] 62 (d ∷ us) (tail_is e 45 [] (62 ∷ d ∷ us) q)
two_signs l x d us arrow q = nil_no [] d us (tail_is 62 62 [] (d ∷ us) (tail_is 45 45 (62 ∷ []) (62 ∷ d ∷ us) q))
two_signs l x d us (digits e es all) q = both_ways (is_digit 45) refl (ap is_digit (sym (head_is e 45 es (62 ∷ d ∷ us) q)) ∙ all.0)
two_signs l x d us (word e es start rest) q = both_ways (starts_name 45) (sign_starts 45 (Sign Minus) refl)
    (ap starts_name (sym (head_is e 45 es (62 ∷ d ∷ us) q)) ∙ start)
