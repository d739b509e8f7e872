-- A split of a text is the one that the machine over characters finds.
use Rattle.std.proofs.Common.{◌≡◌, ℕ, ◌+◌, ◌-◌, ◌*◌, ◌≤◌, ◌<◌, Bool, true, false, not, ◌||◌, List, []}
use Rattle.std.proofs.Common.{◌∷◌, ◌++◌, Option, Some, None, refl, sym, ap, ◌∙◌, subst, if◌then◌else◌, arith}
use Rattle.std.proofs.Common.{add-zero, add_assoc, append-nil, append_assoc}
use Rattle.std.specs.Prelude.{◌==◌, nat_le, encode_utf8, encode_utf8_all}
use Rattle.std.specs.Char.{len_utf8}
use Rattle.std.proofs.lemmas.Bool.{ne_eqb, leb-true, eqb-true, and_parts, false_from_ne_true, both_ways}
use Rattle.unicode_ident.specs.Ident.{is_xid_continue}
use Rattle.pcf_values.specs.declared.operator.Operator.TheVariants.{Minus}
use Rattle.pcf_reader.specs.Tokens.{Token, Sign, Arrow, Number, End, Junk, Placed}
use Rattle.pcf_reader.specs.Spelling.{is_blank, is_digit, starts_name, sign_of, word_of, value_from, AllPass, Spells, sign, arrow, digits}
use Rattle.pcf_reader.specs.Spelling.{word, width, IsLongest, EndsLine, Splits, ends, blank, comment, token, junk}
use Rattle.pcf_reader.specs.Lexing.{Mode, idle, in_comment, after_dash, in_number, in_word, closed, on_sign, opened, lex}
use Rattle.pcf_reader.proofs.LexSteps.{comment_more, comment_line, number_more, number_stop, number_end, word_more, word_stop, word_end}
use Rattle.pcf_reader.proofs.Spelled.{sign_char}
use Rattle.pcf_reader.proofs.Longest.{not_start, sign_starts, sign_digit, digit_starts}
use Rattle.pcf_reader.proofs.Lexed.{Stops, at_place}

-- what is left of the choices at a first character
abbrev rest_5 : ℕ → ℕ → (Mode → List Placed) → List Placed
rest_5 at c go = if starts_name c then go (in_word at (encode_utf8 c)) else on_sign (sign_of c) at go

-- what is asked of a first character behind four, three and two questions
abbrev rest_4 : ℕ → ℕ → (Mode → List Placed) → List Placed
rest_4 at c go = if is_digit c then go (in_number at (c - 48)) else rest_5 at c go

abbrev rest_3 : ℕ → ℕ → (Mode → List Placed) → List Placed
rest_3 at c go = if c == 45 then go (after_dash at) else rest_4 at c go

abbrev rest_2 : ℕ → ℕ → (Mode → List Placed) → List Placed
rest_2 at c go = if c == 35 then go in_comment else rest_3 at c go

-- a character that is no blank and begins no comment and no dash
to_digit : (at c : ℕ) (go : Mode → List Placed) → is_blank c ≡ false → (c == 35) ≡ false → (c == 45) ≡ false →
    opened at c go ≡ rest_4 at c go
to_digit at c go b n d =
    ap (λ v. if v then go idle else rest_2 at c go) b ∙ ap (λ v. if v then go in_comment else rest_3 at c go) n ∙
    ap (λ v. if v then go (after_dash at) else rest_4 at c go) d

-- a character that is none of the four blanks
not_blank : (c : ℕ) → (c == 32) ≡ false → (c == 9) ≡ false → (c == 13) ≡ false → (c == 10) ≡ false →
    is_blank c ≡ false
not_blank c a b d e =
    ap (λ v. ((v || c == 9) || c == 13) || c == 10) a ∙ ap (λ v. (v || c == 13) || c == 10) b ∙ ap (λ v. v || c == 10) d ∙ e

-- what each kind of first character begins
opened_digit : (at c : ℕ) (go : Mode → List Placed) → is_digit c ≡ true → opened at c go ≡ go (in_number at (c - 48))
opened_digit at c go h =
    let low : 48 ≤ c = leb-true 48 c (and_parts (nat_le 48 c) (nat_le c 57) h).0 in
    let ne : (n : ℕ) → n < 48 → (c == n) ≡ false = λ n lt. ne_eqb c n (λ e. let k : ⊥ = omega arith in k) in
    to_digit at c go (not_blank c (ne 32 (omega arith)) (ne 9 (omega arith)) (ne 13 (omega arith)) (ne 10 (omega arith)))
    (ne 35 (omega arith)) (ne 45 (omega arith))
    ∙ ap (λ v. if v then go (in_number at (c - 48)) else rest_5 at c go) h

opened_word : (at c : ℕ) (go : Mode → List Placed) → starts_name c ≡ true → opened at c go ≡ go (in_word at (encode_utf8 c))
opened_word at c go h =
    let ne : (n : ℕ) → starts_name n ≡ false → (c == n) ≡ false =
    λ n s. ne_eqb c n (λ e. both_ways (starts_name n) s (ap starts_name (sym e) ∙ h)) in
    let no_digit : is_digit c ≡ false = false_from_ne_true (is_digit c) (λ d. both_ways (starts_name c) (digit_starts c d) h) in
    to_digit at c go (not_blank c (ne 32 (not_start 32 (omega arith) refl)) (ne 9 (not_start 9 (omega arith) refl))
    (ne 13 (not_start 13 (omega arith) refl)) (ne 10 (not_start 10 (omega arith) refl)))
    (ne 35 (not_start 35 (omega arith) refl)) (ne 45 (not_start 45 (omega arith) refl))
    ∙ ap (λ v. if v then go (in_number at (c - 48)) else rest_5 at c go) no_digit
    ∙ ap (λ v. if v then go (in_word at (encode_utf8 c)) else on_sign (sign_of c) at go) h

opened_sign : (at c : ℕ) (x : Token) (go : Mode → List Placed) → sign_of c ≡ Some x → (c == 45) ≡ false →
    opened at c go ≡ at_place at x ∷ go idle
opened_sign at c x go h d =
    to_digit at c go (sign_char (λ n. is_blank n ≡ false) c x refl refl refl refl refl refl refl refl h)
    (sign_char (λ n. (n == 35) ≡ false) c x refl refl refl refl refl refl refl refl h) d
    ∙ ap (λ v. if v then go (in_number at (c - 48)) else rest_5 at c go) (sign_digit c x h)
    ∙ ap (λ v. if v then go (in_word at (encode_utf8 c)) else on_sign (sign_of c) at go) (sign_starts c x h)
    ∙ ap (λ o. on_sign o at go) h

opened_junk : (at c : ℕ) (go : Mode → List Placed) → is_blank c ≡ false → (c == 35) ≡ false → (c == 45) ≡ false →
    is_digit c ≡ false → starts_name c ≡ false → sign_of c ≡ None → opened at c go ≡ at_place at Junk ∷ []
opened_junk at c go b n d g w s =
    to_digit at c go b n d ∙ ap (λ v. if v then go (in_number at (c - 48)) else rest_5 at c go) g
    ∙ ap (λ v. if v then go (in_word at (encode_utf8 c)) else on_sign (sign_of c) at go) w ∙ ap (λ o. on_sign o at go) s

-- through what goes on with a mode
comment_through : (cs rest : List ℕ) (at : ℕ) → AllPass (λ c. not (c == 10)) cs → EndsLine rest →
    lex (cs ++ rest) at in_comment ≡ lex rest (at + width cs) idle
unfolding lex
comment_through [] [] at all line = ap (λ i. lex [] i idle) (sym (add-zero at))
comment_through [] (c ∷ rest) at all line = comment_line (c ∷ rest) rest at c refl line ∙
    ap (λ i. lex (c ∷ rest) i idle) (sym (add-zero at))
comment_through (c ∷ cs) rest at all line =
    comment_more (c ∷ (cs ++ rest)) (cs ++ rest) at c refl (λ e. let z : false ≡ true = sym (ap (λ v. not (v == 10)) e) ∙ all.0 in
    cc)
    ∙ comment_through cs rest (at + len_utf8 c) all.1 line ∙ ap (λ i. lex rest i idle) (add_assoc at (len_utf8 c) (width cs))

-- a number ends before what is no digit
number_ends : (rest : List ℕ) (at start n : ℕ) → Stops is_digit rest →
    lex rest at (in_number start n) ≡ at_place start (Number n) ∷ lex rest at idle
number_ends [] at start n stops = number_end [] at start n refl
number_ends (c ∷ rest) at start n stops = number_stop (c ∷ rest) rest at c start n refl stops

-- and goes on over digits
number_through : (ds rest : List ℕ) (at start n : ℕ) → AllPass is_digit ds → Stops is_digit rest →
    lex (ds ++ rest) at (in_number start n) ≡ at_place start (Number (value_from n ds)) ∷ lex rest (at + width ds) idle
number_through [] rest at start n all stops = number_ends rest at start n stops ∙
    ap (λ i. at_place start (Number n) ∷ lex rest i idle) (sym (add-zero at))
number_through (c ∷ ds) rest at start n all stops =
    number_more (c ∷ (ds ++ rest)) (ds ++ rest) at c start n refl all.0 ∙
    number_through ds rest (at + len_utf8 c) start (10 * n + (c - 48)) all.1 stops
    ∙ ap (λ i. at_place start (Number (value_from (10 * n + (c - 48)) ds)) ∷ lex rest i idle) (add_assoc at (len_utf8 c) (width ds))

-- a word ends before what goes on with none
word_ends : (rest : List ℕ) (at start : ℕ) (w : List ℕ) → Stops is_xid_continue rest →
    lex rest at (in_word start w) ≡ at_place start (word_of w) ∷ lex rest at idle
word_ends [] at start w stops = word_end [] at start w refl
word_ends (c ∷ rest) at start w stops = word_stop (c ∷ rest) rest at c start w refl stops

-- and goes on over what does
word_through : (ds rest : List ℕ) (at start : ℕ) (w : List ℕ) → AllPass is_xid_continue ds → Stops is_xid_continue rest →
    lex (ds ++ rest) at (in_word start w) ≡ at_place start (word_of (w ++ encode_utf8_all ds)) ∷ lex rest (at + width ds) idle
word_through [] rest at start w all stops =
    word_ends rest at start w stops ∙ ap (λ i. at_place start (word_of w) ∷ lex rest i idle) (sym (add-zero at)) ∙
    ap (λ z. at_place start (word_of z) ∷ lex rest (at + 0) idle) (sym (append-nil w))
word_through (c ∷ ds) rest at start w all stops =
    word_more (c ∷ (ds ++ rest)) (ds ++ rest) at c start w refl all.0 ∙
    word_through ds rest (at + len_utf8 c) start (w ++ encode_utf8 c) all.1 stops
    ∙ ap (λ i. at_place start (word_of ((w ++ encode_utf8 c) ++ encode_utf8_all ds)) ∷
    lex rest i idle) (add_assoc at (len_utf8 c) (width ds))
    ∙ ap (λ z. at_place start (word_of z) ∷ lex rest (at + (len_utf8 c + width ds)) idle)
    (append_assoc w (encode_utf8 c) (encode_utf8_all ds))

-- a list and one member more that pass
pass_end : (p : ℕ → Bool) (ds : List ℕ) (r : ℕ) → AllPass p ds → p r ≡ true → AllPass p (ds ++ r ∷ [])
pass_end p [] r all h = (h, tt)
pass_end p (d ∷ ds) r all h = (all.0, pass_end p ds r all.1 h)

-- what is never some is none
not_some : (o : Option Token) → ((x : Token) → o ≡ Some x → ⊥) → o ≡ None
not_some None h = refl
not_some (Some x) h = absurd (h x refl)

-- the tokens of nothing
none_is : (at : ℕ) → lex [] at idle ≡ at_place at End ∷ []
unfolding lex
none_is at = refl

-- a longest token stops
stops_number : (c : ℕ) (ds rest : List ℕ) → AllPass is_digit (c ∷ ds) → IsLongest (c ∷ ds) rest → Stops is_digit rest
stops_number c ds [] all long = tt
stops_number c ds (r ∷ rest) all long = false_from_ne_true (is_digit r)
    (λ e. long [] rest r _ refl (digits c (ds ++ r ∷ []) (all.0, pass_end is_digit ds r all.1 e)))

-- behind the longest word stands what goes on with none
stops_word : (c : ℕ) (ds rest : List ℕ) → starts_name c ≡ true → AllPass is_xid_continue ds → IsLongest (c ∷ ds) rest →
    Stops is_xid_continue rest
stops_word c ds [] first all long = tt
stops_word c ds (r ∷ rest) first all long = false_from_ne_true (is_xid_continue r)
    (λ e. long [] rest r _ refl (word c (ds ++ r ∷ []) first (pass_end is_xid_continue ds r all e)))

-- and behind a dash that is the longest sign no `>`
dash_stops : (rest : List ℕ) (at start : ℕ) → IsLongest (45 ∷ []) rest →
    lex rest at (after_dash start) ≡ at_place start (Sign Minus) ∷ lex rest at idle
unfolding lex
dash_stops [] at start long = refl
dash_stops (r ∷ rest) at start long =
    let no : (r == 62) ≡ false = false_from_ne_true (r == 62) (λ e. long [] rest 62 Arrow (ap (λ z. z ∷ rest) (eqb-true r 62 e)) arrow) in
    ap (λ v. if v then at_place start Arrow ∷ lex rest (at + len_utf8 r) idle else closed (after_dash start)
    (opened at r (λ m. lex rest (at + len_utf8 r) m))) no

-- the tokens by their first character
first_is : (c : ℕ) (t : List ℕ) (at : ℕ) → lex (c ∷ t) at idle ≡ opened at c (λ m. lex t (at + len_utf8 c) m)
unfolding lex
first_is c t at = refl

dash_first : (t : List ℕ) (at : ℕ) → lex (45 ∷ t) at idle ≡ lex t (at + 1) (after_dash at)
unfolding lex
dash_first t at = refl

arrow_first : (t : List ℕ) (at start : ℕ) → lex (62 ∷ t) at (after_dash start) ≡ at_place start Arrow ∷ lex t (at + 1) idle
unfolding lex
arrow_first t at start = refl

comment_first : (t : List ℕ) (at : ℕ) → lex (35 ∷ t) at idle ≡ lex t (at + 1) in_comment
unfolding lex
comment_first t at = refl

-- a dash
dash_token : (rest : List ℕ) (at : ℕ) → IsLongest (45 ∷ []) rest → lex (45 ∷ rest) at idle ≡ at_place at (Sign Minus) ∷
    lex rest (at + width (45 ∷ [])) idle
dash_token rest at long = dash_first rest at ∙ dash_stops rest (at + 1) at long

-- a sign
sign_token : (c : ℕ) (x : Token) (rest : List ℕ) (at : ℕ) (b : Bool) → (c == 45) ≡ b → sign_of c ≡ Some x →
    IsLongest (c ∷ []) rest → lex (c ∷ rest) at idle ≡ at_place at x ∷ lex rest (at + width (c ∷ [])) idle
sign_token c x rest at true e h long =
    let is : c ≡ 45 = eqb-true c 45 e in
    let y : Some (Sign Minus) ≡ Some x = sym (ap sign_of is) ∙ h in
    let z : (Sign Minus) ≡ x = cc in
    ap (λ c. lex (c ∷ rest) at idle) is ∙ dash_token rest at (subst (λ c. IsLongest (c ∷ []) rest) is long)
    ∙ ap (λ t. at_place at t ∷ lex rest (at + width (45 ∷ [])) idle) z ∙
    ap (λ c. at_place at x ∷ lex rest (at + width (c ∷ [])) idle) (sym is)
sign_token c x rest at false e h long =
    first_is c rest at ∙ opened_sign at c x (λ m. lex rest (at + len_utf8 c) m) h e ∙
    ap (λ i. at_place at x ∷ lex rest i idle) (ap (λ n. at + n) (sym (add-zero (len_utf8 c))))

-- what characters spell, and no longer prefix does, is the first token
spelled : (cs : List ℕ) (x : Token) (rest : List ℕ) (at : ℕ) → Spells cs x → IsLongest cs rest →
    lex (cs ++ rest) at idle ≡ at_place at x ∷ lex rest (at + width cs) idle
spelled cs x rest at (sign c y h) long = sign_token c y rest at (c == 45) refl h long
spelled cs x rest at arrow long = dash_first (62 ∷ rest) at ∙ arrow_first rest (at + 1) at ∙
    ap (λ i. at_place at Arrow ∷ lex rest i idle) (add_assoc at 1 1)
spelled cs x rest at (digits c ds all) long =
    let v : value_from (c - 48) ds ≡ value_from 0 (c ∷ ds) = ap (λ n. value_from n ds) (omega arith) in
    first_is c (ds ++ rest) at ∙ opened_digit at c (λ m. lex (ds ++ rest) (at + len_utf8 c) m) all.0
    ∙ number_through ds rest (at + len_utf8 c) at (c - 48) all.1 (stops_number c ds rest all long)
    ∙ ap (λ i. at_place at (Number (value_from (c - 48) ds)) ∷ lex rest i idle) (add_assoc at (len_utf8 c) (width ds))
    ∙ ap (λ n. at_place at (Number n) ∷ lex rest (at + (len_utf8 c + width ds)) idle) v
spelled cs x rest at (word c ds first all) long =
    first_is c (ds ++ rest) at ∙ opened_word at c (λ m. lex (ds ++ rest) (at + len_utf8 c) m) first
    ∙ word_through ds rest (at + len_utf8 c) at (encode_utf8 c) all (stops_word c ds rest first all long)
    ∙ ap (λ i. at_place at (word_of (encode_utf8 c ++ encode_utf8_all ds)) ∷ lex rest i idle) (add_assoc at (len_utf8 c) (width ds))

-- The split of a text is what lex gives.
pub splits_lex : (at : ℕ) (cs : List ℕ) (items : List Placed) → Splits at cs items → lex cs at idle ≡ items
splits_lex at cs items (ends i) = none_is i
splits_lex at cs items (blank i c ds xs e h) = first_is c ds i ∙
    ap (λ v. if v then lex ds (i + len_utf8 c) idle else rest_2 i c (λ m. lex ds (i + len_utf8 c) m)) e ∙ splits_lex _ _ _ h
splits_lex at cs items (comment i text ds rest xs e all line h) =
    ap (λ z. lex z i idle) e ∙ comment_first (ds ++ rest) i ∙ comment_through ds rest (i + 1) all line ∙
    ap (λ n. lex rest n idle) (add_assoc i 1 (width ds)) ∙ splits_lex _ _ _ h
splits_lex at cs items (token i text ds rest x xs e spells long h) =
    ap (λ z. lex z i idle) e ∙ spelled ds x rest i spells long ∙ ap (λ z. at_place i x ∷ z) (splits_lex _ _ _ h)
splits_lex at cs items (junk i c ds nb nc none) =
    let go : Mode → List Placed = λ m. lex ds (i + len_utf8 c) m in
    let no_sign : sign_of c ≡ None = not_some (sign_of c) (λ x e. none (c ∷ []) ds x refl (sign c x e)) in
    let no_dash : (c == 45) ≡ false = false_from_ne_true (c == 45)
    (λ e. let z : None ≡ Some (Sign Minus) = sym no_sign ∙ ap sign_of (eqb-true c 45 e) in let k : ⊥ = cc in k) in
    first_is c ds i ∙ opened_junk i c go nb nc no_dash
    (false_from_ne_true (is_digit c) (λ e. none (c ∷ []) ds _ refl (digits c [] (e, tt))))
    (false_from_ne_true (starts_name c) (λ e. none (c ∷ []) ds _ refl (word c [] e tt))) no_sign
