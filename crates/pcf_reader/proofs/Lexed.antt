-- The machine over characters splits a text by the longest match.
use Rattle.std.proofs.Common.{◌≡◌, ◌⊎◌, ℕ, ◌+◌, ◌-◌, ◌*◌, Bool, true, false, not, List, [], ◌∷◌, ◌++◌}
use Rattle.std.proofs.Common.{Option, Some, None, refl, sym, ap, ◌∙◌, subst, if◌then◌else◌, inl, inr, arith, add-zero}
use Rattle.std.proofs.Common.{add_assoc, append-nil, append_assoc}
use Rattle.std.specs.Prelude.{◌==◌, encode_utf8, encode_utf8_all}
use Rattle.std.specs.Char.{len_utf8}
use Rattle.std.proofs.lemmas.Bool.{cond_both, eqb-true}
use Rattle.unicode_ident.specs.Ident.{is_xid_continue}
use Rattle.pcf_values.specs.declared.operator.Operator.TheVariants.{Minus}
use Rattle.pcf_reader.specs.Tokens.{Token, Sign, Arrow, Number, End, Placed}
use Rattle.pcf_reader.specs.Spelling.{is_blank, is_digit, starts_name, sign_of, word_of, value_from, AllPass, sign, arrow, digits, word}
use Rattle.pcf_reader.specs.Spelling.{width, IsLongest, EndsLine, Splits, ends, blank, comment, token, junk}
use Rattle.pcf_reader.specs.Lexing.{Mode, idle, in_comment, after_dash, in_number, in_word, closed, on_sign, opened, turned, lex}
use Rattle.pcf_reader.proofs.Longest.{no_longer_number, no_longer_word, no_longer_sign, none_begins, two_signs}

abbrev pub Stops : (ℕ → Bool) → List ℕ → Type 0
Stops p [] = Unit {0}
Stops p (c ∷ cs) = p c ≡ false

abbrev pub at_place : ℕ → Token → Placed
at_place at x = record { at = at; token = x }

abbrev pub Idle : List ℕ → Type 0
Idle cs = (at : ℕ) → Splits at cs (lex cs at idle)

abbrev pub Commented : List ℕ → Type 0
Commented cs = (at : ℕ) → (ds : List ℕ) × (rest : List ℕ) × (cs ≡ ds ++ rest) × AllPass (λ c. not (c == 10)) ds ×
    EndsLine rest × Splits (at + width ds) rest (lex cs at in_comment)

abbrev pub Numbered : List ℕ → Type 0
Numbered cs = (at start n : ℕ) → (ds : List ℕ) × (rest : List ℕ) × (items : List Placed) × (cs ≡ ds ++ rest) ×
    AllPass is_digit ds × Stops is_digit rest
    × (lex cs at (in_number start n) ≡ at_place start (Number (value_from n ds)) ∷ items) × Splits (at + width ds) rest items

abbrev pub Worded : List ℕ → Type 0
Worded cs = (at start : ℕ) (w : List ℕ) → (ds : List ℕ) × (rest : List ℕ) × (items : List Placed) × (cs ≡ ds ++ rest) ×
    AllPass is_xid_continue ds × Stops is_xid_continue rest
    × (lex cs at (in_word start w) ≡ at_place start (word_of (w ++ encode_utf8_all ds)) ∷ items) × Splits (at + width ds) rest items

abbrev pub Dashed : List ℕ → Type 0
Dashed cs = (at start : ℕ) →
    ((rest : List ℕ) × (items : List Placed) × (cs ≡ 62 ∷ rest) ×
    (lex cs at (after_dash start) ≡ at_place start Arrow ∷ items) × Splits (at + 1) rest items)
    ⊎ (Stops (λ c. c == 62) cs × (lex cs at (after_dash start) ≡ at_place start (Sign Minus) ∷ lex cs at idle))

pub record Lexed (cs : List ℕ) : Type 0 where
  pub idles : Idle cs
  pub comments : Commented cs
  pub numbers : Numbered cs
  pub words : Worded cs
  pub dashes : Dashed cs

pub longest_number : (c : ℕ) (ds rest : List ℕ) → is_digit c ≡ true → Stops is_digit rest → IsLongest (c ∷ ds) rest
longest_number c ds [] first stops us vs d x e h = let z : ⊥ = cc in absurd z
longest_number c ds (r ∷ rest) first stops us vs d x e h =
    let is : r ≡ d = cc in
    no_longer_number c ds d us ((c ∷ ds) ++ d ∷ us) x first (ap is_digit (sym is) ∙ stops) h refl

pub longest_word : (c : ℕ) (ds rest : List ℕ) → starts_name c ≡ true → Stops is_xid_continue rest → IsLongest (c ∷ ds) rest
longest_word c ds [] first stops us vs d x e h = let z : ⊥ = cc in absurd z
longest_word c ds (r ∷ rest) first stops us vs d x e h =
    let is : r ≡ d = cc in
    no_longer_word c ds d us ((c ∷ ds) ++ d ∷ us) x first (ap is_xid_continue (sym is) ∙ stops) h refl

shifted : (at n m : ℕ) (rest : List ℕ) (items : List Placed) → Splits ((at + n) + m) rest items → Splits (at + (n + m)) rest items
shifted at n m rest items h = subst (λ i. Splits i rest items) (add_assoc at n m) h

to : (at : ℕ) (cs : List ℕ) (a b : List Placed) → a ≡ b → Splits at cs b → Splits at cs a
to at cs a b e h = subst (λ z. Splits at cs z) (sym e) h

number_splits : (c : ℕ) (cs : List ℕ) (at : ℕ) → Numbered cs → is_digit c ≡ true →
    Splits at (c ∷ cs) (lex cs (at + len_utf8 c) (in_number at (c - 48)))
number_splits c cs at h first =
    let (ds, rest, items, split, all, stops, is, more) = h (at + len_utf8 c) at (c - 48) in
    let v : value_from 0 (c ∷ ds) ≡ value_from (c - 48) ds = ap (λ n. value_from n ds) (omega arith) in
    to at (c ∷ cs) (lex cs (at + len_utf8 c) (in_number at (c - 48))) (at_place at (Number (value_from 0 (c ∷ ds))) ∷ items) (is ∙
    ap (λ n. at_place at (Number n) ∷ items) (sym v))
    (token at (c ∷ cs) (c ∷ ds) rest (Number (value_from 0 (c ∷ ds))) items (ap (λ z. c ∷ z) split) (digits c ds (first, all))
    (longest_number c ds rest first stops)
    (shifted at (len_utf8 c) (width ds) rest items more))

word_splits : (c : ℕ) (cs : List ℕ) (at : ℕ) → Worded cs → starts_name c ≡ true →
    Splits at (c ∷ cs) (lex cs (at + len_utf8 c) (in_word at (encode_utf8 c)))
word_splits c cs at h first =
    let (ds, rest, items, split, all, stops, is, more) = h (at + len_utf8 c) at (encode_utf8 c) in
    to at (c ∷ cs) (lex cs (at + len_utf8 c) (in_word at (encode_utf8 c))) (at_place at (word_of (encode_utf8_all (c ∷ ds))) ∷
    items) is
    (token at (c ∷ cs) (c ∷ ds) rest (word_of (encode_utf8_all (c ∷ ds))) items (ap (λ z. c ∷ z) split) (word c ds first all)
    (longest_word c ds rest first stops)
    (shifted at (len_utf8 c) (width ds) rest items more))

pub longest_sign : (c : ℕ) (y : Token) (rest : List ℕ) → sign_of c ≡ Some y → (c ≡ 45 → Stops (λ d. d == 62) rest) →
    IsLongest (c ∷ []) rest
longest_sign c y [] first stops us vs d x e h = let z : ⊥ = cc in absurd z
longest_sign c y (r ∷ rest) first stops us vs d x e h =
    let is : r ≡ d = cc in
    no_longer_sign c y d us (c ∷ d ∷ us) x first (λ dash gt. let n : (r == 62) ≡ false = stops dash in
    let m : (r == 62) ≡ true = ap (λ v. v == 62) (is ∙ gt) in let z : false ≡ true = sym n ∙ m in cc) h refl

sign_splits : (c : ℕ) (cs : List ℕ) (at : ℕ) (y : Token) → sign_of c ≡ Some y → (c ≡ 45 → Stops (λ d. d == 62) cs) →
    Splits (at + len_utf8 c) cs (lex cs (at + len_utf8 c) idle)
    → Splits at (c ∷ cs) (at_place at y ∷ lex cs (at + len_utf8 c) idle)
sign_splits c cs at y first stops h =
    token at (c ∷ cs) (c ∷ []) cs y (lex cs (at + len_utf8 c) idle) refl (sign c y first) (longest_sign c y cs first stops)
    (subst (λ i. Splits i cs (lex cs (at + len_utf8 c) idle)) (ap (λ n. at + n) (sym (add-zero (len_utf8 c)))) h)

pub arrow_longest : (rest : List ℕ) → IsLongest (45 ∷ 62 ∷ []) rest
arrow_longest rest us vs d x e h = two_signs (45 ∷ 62 ∷ d ∷ us) x d us h refl

-- the place behind a character of one byte
one_byte : (c n at m : ℕ) → c ≡ n → len_utf8 n ≡ 1 → (at + len_utf8 c) + m ≡ at + (1 + m)
one_byte c n at m e h = let k : len_utf8 c ≡ 1 = ap len_utf8 e ∙ h in omega arith

comment_splits : (c : ℕ) (cs : List ℕ) (at : ℕ) → Commented cs → c ≡ 35 →
    Splits at (c ∷ cs) (lex cs (at + len_utf8 c) in_comment)
comment_splits c cs at h e =
    let (ds, rest, split, all, line, more) = h (at + len_utf8 c) in
    comment at (c ∷ cs) ds rest (lex cs (at + len_utf8 c) in_comment) (ap (λ z. z ∷ cs) e ∙ ap (λ z. 35 ∷ z) split) all line
    (subst (λ i. Splits i rest (lex cs (at + len_utf8 c) in_comment)) (one_byte c 35 at (width ds) e refl) more)

-- a text that begins with a dash splits into an arrow or a minus, by the character behind it
dash_splits : (c : ℕ) (cs : List ℕ) (at : ℕ) → Lexed cs → c ≡ 45 →
    Splits at (c ∷ cs) (lex cs (at + len_utf8 c) (after_dash at))
dash_splits c cs at h e =
    elim (h.dashes (at + len_utf8 c) at) [
      | inl (rest, items, split, is, more) ↦
          to at (c ∷ cs) (lex cs (at + len_utf8 c) (after_dash at)) (at_place at Arrow ∷ items) is
          (token at (c ∷ cs) (45 ∷ 62 ∷ []) rest Arrow items (ap (λ z. z ∷ cs) e ∙
          ap (λ z. 45 ∷ z) split) arrow (arrow_longest rest)
          (subst (λ i. Splits i rest items) (one_byte c 45 at 1 e refl) more))
      | inr (stops, is) ↦
          to at (c ∷ cs) (lex cs (at + len_utf8 c) (after_dash at)) (at_place at (Sign Minus) ∷ lex cs (at + len_utf8 c) idle) is
          (sign_splits c cs at (Sign Minus) (ap sign_of e) (λ _. stops) (h.idles (at + len_utf8 c)))
    ]

sign_or_junk : (c : ℕ) (cs : List ℕ) (at : ℕ) → Lexed cs → is_blank c ≡ false → (c == 35) ≡ false →
    (c == 45) ≡ false → is_digit c ≡ false → starts_name c ≡ false
    → (o : Option Token) → sign_of c ≡ o → Splits at (c ∷ cs) (on_sign o at (λ m. lex cs (at + len_utf8 c) m))
sign_or_junk c cs at h nb nc nd ng nw None e = junk at c cs nb nc (λ us vs x q s. none_begins c cs us vs x e ng nw s q)
sign_or_junk c cs at h nb nc nd ng nw (Some y) e =
    sign_splits c cs at y e (λ dash. let z : false ≡ true = sym nd ∙ ap (λ v. v == 45) dash in let k : ⊥ = cc in
    absurd k) (h.idles (at + len_utf8 c))

-- a text splits as the machine says that goes on from its first character, whatever that is
pub begins : (c : ℕ) (cs : List ℕ) (at : ℕ) → Lexed cs → Splits at (c ∷ cs) (opened at c (λ m. lex cs (at + len_utf8 c) m))
begins c cs at h =
    let go : Mode → List Placed = λ m. lex cs (at + len_utf8 c) m in
    let P : List Placed → Type 0 = λ r. Splits at (c ∷ cs) r in
    let r5 : List Placed = on_sign (sign_of c) at go in
    let r4 : List Placed = if starts_name c then go (in_word at (encode_utf8 c)) else r5 in
    let r3 : List Placed = if is_digit c then go (in_number at (c - 48)) else r4 in
    let r2 : List Placed = if c == 45 then go (after_dash at) else r3 in
    let r1 : List Placed = if c == 35 then go in_comment else r2 in
    cond_both (is_blank c) (go idle) r1 P (λ e. blank at c cs (go idle) e (h.idles (at + len_utf8 c))) (λ nb.
    cond_both (c == 35) (go in_comment) r2 P (λ e. comment_splits c cs at h.comments (eqb-true c 35 e)) (λ nc.
    cond_both (c == 45) (go (after_dash at)) r3 P (λ e. dash_splits c cs at h (eqb-true c 45 e)) (λ nd.
    cond_both (is_digit c) (go (in_number at (c - 48))) r4 P (λ e. number_splits c cs at h.numbers e) (λ ng.
    cond_both (starts_name c) (go (in_word at (encode_utf8 c))) r5 P (λ e. word_splits c cs at h.words e) (λ nw.
    sign_or_junk c cs at h nb nc nd ng nw (sign_of c) refl)))))

zero_on : (at : ℕ) (cs : List ℕ) (items : List Placed) → Splits at cs items → Splits (at + 0) cs items
zero_on at cs items h = subst (λ i. Splits i cs items) (sym (add-zero at)) h

-- the claims at one character more, by whether it goes on with what is before it
module _ (c : ℕ) (cs : List ℕ) (h : Lexed cs) where
  comment_on : (at : ℕ) (b : Bool) → (c == 10) ≡ b → (ds : List ℕ) × (rest : List ℕ) × (c ∷ cs ≡ ds ++ rest) ×
      AllPass (λ c. not (c == 10)) ds × EndsLine rest
      × Splits (at + width ds) rest (turned (if b then None else Some in_comment) in_comment at c (λ m. lex cs (at + len_utf8 c) m))
  comment_on at true e =
      ([], c ∷ cs, refl, tt, eqb-true c 10 e, zero_on at (c ∷ cs) (opened at c (λ m. lex cs (at + len_utf8 c) m)) (begins c cs at h))
  comment_on at false e =
      let (ds, rest, split, all, line, more) = h.comments (at + len_utf8 c) in (
        c ∷ ds,
        rest,
        ap (λ z. c ∷ z) split,
        (ap not e, all),
        line,
        shifted at (len_utf8 c) (width ds) rest (lex cs (at + len_utf8 c) in_comment) more,
      )

  number_on : (at start n : ℕ) (b : Bool) → is_digit c ≡ b → (ds : List ℕ) × (rest : List ℕ) × (items : List Placed) ×
      (c ∷ cs ≡ ds ++ rest) × AllPass is_digit ds × Stops is_digit rest
      × (turned (if b then Some (in_number start (10 * n + (c - 48))) else None) (in_number start n) at c
      (λ m. lex cs (at + len_utf8 c) m) ≡ at_place start (Number (value_from n ds)) ∷ items)
      × Splits (at + width ds) rest items
  number_on at start n true e =
      let (ds, rest, items, split, all, stops, is, more) = h.numbers (at + len_utf8 c) start (10 * n + (c - 48)) in
      (c ∷ ds, rest, items, ap (λ z. c ∷ z) split, (e, all), stops, is, shifted at (len_utf8 c) (width ds) rest items more)
  number_on at start n false e =
      let items : List Placed = opened at c (λ m. lex cs (at + len_utf8 c) m) in
      ([], c ∷ cs, items, refl, tt, e, refl, zero_on at (c ∷ cs) items (begins c cs at h))

  word_on : (at start : ℕ) (w : List ℕ) (b : Bool) → is_xid_continue c ≡ b → (ds : List ℕ) × (rest : List ℕ) ×
      (items : List Placed) × (c ∷ cs ≡ ds ++ rest) × AllPass is_xid_continue ds × Stops is_xid_continue rest
      × (turned (if b then Some (in_word start (w ++ encode_utf8 c)) else None) (in_word start w) at c (λ m. lex cs (at + len_utf8 c) m)
      ≡ at_place start (word_of (w ++ encode_utf8_all ds)) ∷ items)
      × Splits (at + width ds) rest items
  word_on at start w true e =
      let (ds, rest, items, split, all, stops, is, more) = h.words (at + len_utf8 c) start (w ++ encode_utf8 c) in (
        c ∷ ds,
        rest,
        items,
        ap (λ z. c ∷ z) split,
        (e, all),
        stops,
        is ∙ ap (λ z. at_place start (word_of z) ∷ items) (append_assoc w (encode_utf8 c) (encode_utf8_all ds)),
        shifted at (len_utf8 c) (width ds) rest items more,
      )
  word_on at start w false e =
      let items : List Placed = opened at c (λ m. lex cs (at + len_utf8 c) m) in (
        [],
        c ∷ cs,
        items,
        refl,
        tt,
        e,
        ap (λ z. at_place start (word_of z) ∷ items) (sym (append-nil w)),
        zero_on at (c ∷ cs) items (begins c cs at h),
      )

  dash_on : (at start : ℕ) (b : Bool) → (c == 62) ≡ b →
      ((rest : List ℕ) × (items : List Placed) × (c ∷ cs ≡ 62 ∷ rest)
      × ((if b then at_place start Arrow ∷ lex cs (at + len_utf8 c) idle else closed (after_dash start)
      (opened at c (λ m. lex cs (at + len_utf8 c) m))) ≡ at_place start Arrow ∷ items) × Splits (at + 1) rest items)
      ⊎ (((c == 62) ≡ false) ×
      ((if b then at_place start Arrow ∷ lex cs (at + len_utf8 c) idle else closed (after_dash start)
      (opened at c (λ m. lex cs (at + len_utf8 c) m)))
      ≡ at_place start (Sign Minus) ∷ opened at c (λ m. lex cs (at + len_utf8 c) m)))
  dash_on at start true e =
      let is : c ≡ 62 = eqb-true c 62 e in
      inl (
        cs,
        lex cs (at + len_utf8 c) idle,
        ap (λ z. z ∷ cs) is,
        refl,
        subst (λ i. Splits i cs (lex cs (at + len_utf8 c) idle)) (ap (λ n. at + n) (ap len_utf8 is)) (h.idles (at + len_utf8 c)),
      )
  dash_on at start false e = inr (e, refl)

lexed_more : (c : ℕ) (cs : List ℕ) → Lexed cs → Lexed (c ∷ cs)
unfolding lex
lexed_more c cs h = record {
  idles = λ at. begins c cs at h;
  comments = λ at. comment_on c cs h at (c == 10) refl;
  numbers = λ at start n. number_on c cs h at start n (is_digit c) refl;
  words = λ at start w. word_on c cs h at start w (is_xid_continue c) refl;
  dashes = λ at start. dash_on c cs h at start (c == 62) refl;
}

-- the empty text splits, in every mode
lexed_none : Lexed []
unfolding lex
lexed_none = record {
  idles = λ at. ends at;
  comments = λ at. ([], [], refl, tt, tt, zero_on at [] (at_place at End ∷ []) (ends at));
  numbers = λ at start n. ([], [], at_place at End ∷ [], refl, tt, tt, refl, zero_on at [] (at_place at End ∷ []) (ends at));
  words = λ at start w. (
    [],
    [],
    at_place at End ∷ [],
    refl,
    tt,
    tt,
    ap (λ z. at_place start (word_of z) ∷ at_place at End ∷ [])
        (sym (append-nil w)),
    zero_on at [] (at_place at End ∷ []) (ends at),
  );
  dashes = λ at start. inr (tt, refl);
}

pub lexed : (cs : List ℕ) → Lexed cs
lexed [] = lexed_none
lexed (c ∷ cs) = lexed_more c cs (lexed cs)
