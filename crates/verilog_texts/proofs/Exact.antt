-- The reader reads what is printed: so no two expressions print alike.
use Rattle.std.proofs.Common.{◌≡◌, ◌⊎◌, ℕ, zero, suc, ◌+◌, ◌^◌, ◌<◌, ◌≤◌, Bool, true, false, cond, List, [], ◌∷◌, ◌++◌, Some}
use Rattle.std.proofs.Common.{None, refl, sym, ap, ◌∙◌, subst, codes, inl, inr, append_assoc, arith}
use Rattle.std.specs.Prelude.{◌&&◌, ◌||◌, nat_eq, decimal}
use Rattle.std.proofs.lemmas.Bool.{and_parts, or_left, or_right, or_parts}
use Rattle.std.specs.Str.Parse.{digits_value}
use Rattle.std.proofs.lemmas.Fmt.{decimal_is_IsNumeral_wide}
use Prim.Native.String.{String}
use lib.Chars.{text_of, text_codes}
use Rattle.verilog_tree.specs.Tree.{Size, count, named, more, less, Two, plus, minus, times, Way, left, right, Test, same, below, Logic}
use Rattle.verilog_tree.specs.Tree.{both, one_of, Expr, num, sized, const, name, bit, part, word, cat, inverse, two, shift, test, logic}
use Rattle.verilog_tree.specs.Tree.{none, any, every, pick}
use Rattle.verilog_tree.specs.Print.{opening, closing, size_text, two_sign, shift_sign, test_sign, logic_sign, expr_text}
use Rattle.verilog_tree.specs.WellFormed.{Kind, a_size, a_constant, an_input, a_register, a_wire, a_bit_input, a_bit_register}
use Rattle.verilog_tree.specs.WellFormed.{a_bit_wire, a_clock, a_memory, Entry, is_size, parameter, selects, vector, is_memory, of_kind}
use Rattle.verilog_tree.specs.WellFormed.{letter, spelt, has_width, size_ok, expr_ok}
use Rattle.verilog_texts.specs.Small.{names_ok, SmallSize, Small}
use Rattle.verilog_texts.proofs.Pieces.{front, rest, starts, front_of, rest_of, starts_more, behind, behind_not, digit}
use Rattle.verilog_texts.proofs.Pieces.{digits_of, digit_no_letter, in_name, spelt_starts, spelt_all, declared_name, one_kind}
use Rattle.verilog_texts.proofs.Reader.{Got, go_on, when, closed, more_size, read_size, Sign, s_two, s_shift, s_test, s_logic}
use Rattle.verilog_texts.proofs.Reader.{read_sign, read_more, primary, read_top, read_part, read_index}
use Rattle.verilog_texts.proofs.Reader.{read}

abbrev first_of : Expr → Got Expr → Expr
first_of a None = a
first_of a (Some p) = p.0

same_first : {a b : Expr} → ◌≡◌ {A = Got Expr} (Some (a, [])) (Some (b, [])) → a ≡ b
same_first {a} e = ap (first_of a) e

-- what may stand behind an operand: it doesn't go on with it
pub record Ends (r : List ℕ) : Type 0 where
  pub no_name : starts in_name r ≡ false
  pub no_quote : starts (nat_eq 39) r ≡ false
  pub no_index : starts (nat_eq 91) r ≡ false

-- what may stand behind an expression that is no operand
pub record Stops (r : List ℕ) : Type 0 where
  pub ends : Ends r
  pub no_blank : starts (nat_eq 32) r ≡ false

abbrev pub Fine : Bool → List ℕ → Type 0
Fine true r = Ends r
Fine false r = Stops r

fine_ends : (c : Bool) (r : List ℕ) → Fine c r → Ends r
fine_ends true r f = f
fine_ends false r f = f.ends

pub ends_at : (c : ℕ) (r : List ℕ) → in_name c ≡ false → nat_eq 39 c ≡ false → nat_eq 91 c ≡ false → Ends (c ∷ r)
ends_at c r h i j = record { no_name = h; no_quote = i; no_index = j }

pub stops_at : (c : ℕ) (r : List ℕ) → in_name c ≡ false → nat_eq 39 c ≡ false → nat_eq 91 c ≡ false → nat_eq 32 c ≡ false → Stops (c ∷ r)
stops_at c r h i j k = record { ends = ends_at c r h i j; no_blank = k }

stops_nothing : Stops []
stops_nothing = record { ends = record { no_name = refl; no_quote = refl; no_index = refl }; no_blank = refl }

pub no_digit : (r : List ℕ) → starts in_name r ≡ false → starts digit r ≡ false
no_digit [] h = refl
no_digit (c ∷ r) h = (or_parts (letter c) (digit c) h).1

no_sign : (r : List ℕ) → starts (nat_eq 32) r ≡ false → read_sign r ≡ None
no_sign [] h = refl
no_sign (c ∷ r) h = rw h refl

-- a number is read
pub number_front : (n : ℕ) (r : List ℕ) → n < 10 ^ 64 → starts digit r ≡ false → digits_value 10 (front digit (decimal n ++ r)) ≡ n
number_front n r h e = ap (digits_value 10) (front_of digit (decimal n) r (digits_of n h).each e) ∙ (decimal_is_IsNumeral_wide n h).1

pub number_rest : (n : ℕ) (r : List ℕ) → n < 10 ^ 64 → starts digit r ≡ false → rest digit (decimal n ++ r) ≡ r
number_rest n r h e = rest_of digit (decimal n) r (digits_of n h).each e

pub number_starts : (n : ℕ) (r : List ℕ) → n < 10 ^ 64 → starts digit (decimal n ++ r) ≡ true
number_starts n r h = starts_more digit (decimal n) r (digits_of n h).some

-- and a name
pub name_front : (x : String) (r : List ℕ) → spelt (codes x) ≡ true → starts in_name r ≡ false →
    text_of (front in_name (codes x ++ r)) ≡ x
name_front x r h e = ap text_of (front_of in_name (codes x) r (spelt_all (codes x) h) e) ∙ text_codes x

pub name_rest : (x : String) (r : List ℕ) → spelt (codes x) ≡ true → starts in_name r ≡ false → rest in_name (codes x ++ r) ≡ r
name_rest x r h e = rest_of in_name (codes x) r (spelt_all (codes x) h) e

pub name_starts : (x : String) (r : List ℕ) → spelt (codes x) ≡ true → starts letter (codes x ++ r) ≡ true
name_starts x r h = starts_more letter (codes x) r (spelt_starts (codes x) h)

letter_primary : (cs : List ℕ) → starts letter cs ≡ true → starts primary cs ≡ true
letter_primary [] e = cc
letter_primary (c ∷ cs) e = or_left (letter c) (digit c || (nat_eq 123 c || nat_eq 40 c)) e

pub name_primary : (x : String) (r : List ℕ) → spelt (codes x) ≡ true → starts primary (codes x ++ r) ≡ true
name_primary x r s = letter_primary (codes x ++ r) (name_starts x r s)

digit_primary : (cs : List ℕ) → starts digit cs ≡ true → starts primary cs ≡ true
digit_primary [] e = cc
digit_primary (c ∷ cs) e =
    or_right (letter c) (digit c || (nat_eq 123 c || nat_eq 40 c)) (or_left (digit c) (nat_eq 123 c || nat_eq 40 c) e)

-- what is one kind isn't another
size_kind : (k : Kind) → vector k ≡ true → parameter k ≡ false
size_kind an_input e = refl
size_kind a_register e = refl
size_kind a_wire e = refl
size_kind a_bit_input e = refl
size_kind a_bit_register e = refl
size_kind a_bit_wire e = refl
size_kind a_size e = cc
size_kind a_constant e = cc
size_kind a_clock e = cc
size_kind a_memory e = cc

-- and what is selected of is no memory
select_kind : (k : Kind) → selects k ≡ true → is_memory k ≡ false
select_kind an_input e = refl
select_kind a_register e = refl
select_kind a_wire e = refl
select_kind a_bit_input e = cc
select_kind a_bit_register e = cc
select_kind a_bit_wire e = cc
select_kind a_size e = cc
select_kind a_constant e = cc
select_kind a_clock e = cc
select_kind a_memory e = cc

-- how far the reader has to go
abbrev pub size_depth : Size → ℕ
size_depth (count n) = 1
size_depth (named x) = 1
size_depth (more a b) = suc (size_depth a + size_depth b)
size_depth (less a b) = suc (size_depth a + size_depth b)

abbrev pub depth : Expr → ℕ
depth (num n) = 2
depth (sized w n) = 2
depth (const x) = 2
depth (name x) = 2
depth (bit x e) = suc (suc (depth e))
depth (part x h l) = suc (suc (size_depth h + size_depth l))
depth (word m e) = suc (suc (depth e))
depth (cat a b) = suc (suc (depth a + depth b))
depth (inverse a) = suc (suc (depth a))
depth (two o a b) = suc (suc (depth a + depth b))
depth (shift o a b) = suc (suc (depth a + depth b))
depth (test o a b) = suc (suc (depth a + depth b))
depth (logic o a b) = suc (suc (depth a + depth b))
depth (none a) = suc (suc (depth a))
depth (any a) = suc (suc (depth a))
depth (every a) = suc (suc (depth a))
depth (pick c a b) = suc (suc (depth c + depth a + depth b))

-- texts that are put together
pub spread : (a s b z r : List ℕ) → (a ++ (s ++ (b ++ z))) ++ r ≡ a ++ (s ++ (b ++ (z ++ r)))
spread a s b z r =
    append_assoc a (s ++ (b ++ z)) r ∙ ap (λ t. a ++ t) (append_assoc s (b ++ z) r ∙ ap (λ t. s ++ t) (append_assoc b z r))

module _ (env : List Entry) (names : names_ok env ≡ true) where
  -- a size is read
  size_sum : (k : ℕ) (a b : Size) (r : List ℕ) → read_size k (size_text a ++ (43 ∷ (size_text b ++ (41 ∷ r)))) ≡
      Some (a, 43 ∷ (size_text b ++ (41 ∷ r))) → read_size k (size_text b ++ (41 ∷ r)) ≡ Some (b, 41 ∷ r) →
      read_size (suc k) (size_text (more a b) ++ r) ≡ Some (more a b, r)
  size_sum k a b r h i =
      ap (λ t. read_size (suc k) (40 ∷ t)) (spread (size_text a) (43 ∷ []) (size_text b) (41 ∷ []) r)
      ∙ ap (λ o. go_on o (λ a r. more_size (read_size k) a r)) h
      ∙ ap (λ o. closed 41 (go_on o (λ b t. Some (more a b, t)))) i

  size_difference : (k : ℕ) (a b : Size) (r : List ℕ) → read_size k (size_text a ++ (45 ∷ (size_text b ++ (41 ∷ r)))) ≡
      Some (a, 45 ∷ (size_text b ++ (41 ∷ r))) → read_size k (size_text b ++ (41 ∷ r)) ≡ Some (b, 41 ∷ r) →
      read_size (suc k) (size_text (less a b) ++ r) ≡ Some (less a b, r)
  size_difference k a b r h i =
      ap (λ t. read_size (suc k) (40 ∷ t)) (spread (size_text a) (45 ∷ []) (size_text b) (41 ∷ []) r)
      ∙ ap (λ o. go_on o (λ a r. more_size (read_size k) a r)) h
      ∙ ap (λ o. closed 41 (go_on o (λ b t. Some (less a b, t)))) i

  pub sizes : (s : Size) (k : ℕ) (r : List ℕ) → size_depth s ≤ k → starts in_name r ≡ false → size_ok env s ≡ true → SmallSize s →
      read_size k (size_text s ++ r) ≡ Some (s, r)
  sizes s zero r l f ok small = absurd (none s l)
    where
      none : (s : Size) → size_depth s ≤ 0 → ⊥
      none (count n) l = omega (arith, l)
      none (named x) l = omega (arith, l)
      none (more a b) l = omega (arith, l)
      none (less a b) l = omega (arith, l)
  sizes (count n) (suc k) r l f ok small =
      let d = no_digit r f in
      rw (
        digit_no_letter (decimal n ++ r) (number_starts n r small),
        number_starts n r small,
        number_front n r small d,
        number_rest n r small d,
      ) refl
  sizes (named x) (suc k) r l f ok small =
      let s = declared_name is_size env x names ok in
      rw (name_starts x r s, name_front x r s f, name_rest x r s f) refl
  sizes (more a b) (suc k) r l f ok small =
      let (p, q) = and_parts (size_ok env a) (size_ok env b) ok in
      size_sum k a b r (sizes a k (43 ∷ (size_text b ++ (41 ∷ r))) (omega (arith, l)) refl p small.0)
      (sizes b k (41 ∷ r) (omega (arith, l)) refl q small.1)
  sizes (less a b) (suc k) r l f ok small =
      let (p, q) = and_parts (size_ok env a) (size_ok env b) ok in
      size_difference k a b r (sizes a k (45 ∷ (size_text b ++ (41 ∷ r))) (omega (arith, l)) refl p small.0)
      (sizes b k (41 ∷ r) (omega (arith, l)) refl q small.1)

  -- an operand that ends is an expression
  top_of : (k : ℕ) (e : Expr) (cs r : List ℕ) → starts primary cs ≡ true → read true env k cs ≡ Some (e, r) → Stops r →
      read false env (suc k) cs ≡ Some (e, r)
  top_of k e cs r s h f = rw (s, h, no_sign r f.no_blank) refl

  pub atom : (c : Bool) (k : ℕ) (e : Expr) (cs r : List ℕ) → 2 ≤ k → starts primary cs ≡ true →
      ((j : ℕ) → k ≤ suc j → read true env j cs ≡ Some (e, r)) → Fine c r → read c env k cs ≡ Some (e, r)
  atom true k e cs r l s h f = h k (omega arith)
  atom false zero e cs r l s h f = absurd (omega (arith, l))
  atom false (suc k) e cs r l s h f = top_of k e cs r s (h k (omega arith)) f

  -- an expression stands in parentheses where it is an operand
  wrap : (c : Bool) (k : ℕ) (e : Expr) (body : List ℕ → List ℕ) (r : List ℕ) → 1 ≤ k →
      ((j : ℕ) (z : List ℕ) → k ≤ suc j → Stops z → read false env j (body z) ≡ Some (e, z)) → Fine c r →
      read c env k (opening c ++ body (closing c ++ r)) ≡ Some (e, r)
  wrap true zero e body r l h f = absurd (omega (arith, l))
  wrap true (suc k) e body r l h f = ap (closed 41) (h k (41 ∷ r) (omega arith) (stops_at 41 r refl refl refl refl))
  wrap false k e body r l h f = h k r (omega arith) f

  -- a number
  number_reads : (j n : ℕ) (r : List ℕ) → n < 10 ^ 64 → Ends r → read true env (suc j) (decimal n ++ r) ≡ Some (num n, r)
  number_reads j n r h f =
      let d = no_digit r f.no_name in
      rw (
        digit_no_letter (decimal n ++ r) (number_starts n r h),
        number_starts n r h,
        number_front n r h d,
        number_rest n r h d,
        behind_not 39 (100 ∷ []) r f.no_quote,
      ) refl

  sized_reads : (j w n : ℕ) (r : List ℕ) → w < 10 ^ 64 → n < 10 ^ 64 → Ends r →
      read true env (suc j) (decimal w ++ (39 ∷ 100 ∷ (decimal n ++ r))) ≡ Some (sized w n, r)
  sized_reads j w n r g h f =
      let d = no_digit r f.no_name in
      let t = 39 ∷ 100 ∷ (decimal n ++ r) in
      rw (
        digit_no_letter (decimal w ++ t) (number_starts w t g),
        number_starts w t g,
        number_front w t g refl,
        number_rest w t g refl,
        number_front n r h d,
        number_rest n r h d,
      ) refl

  -- a name
  pub name_reads : (j : ℕ) (x : String) (r : List ℕ) → spelt (codes x) ≡ true → Ends r →
      read true env (suc j) (codes x ++ r) ≡ Some (cond (of_kind parameter env x) (const x) (name x), r)
  name_reads j x r s f =
      rw (name_starts x r s, name_front x r s f.no_name, name_rest x r s f.no_name, behind_not 91 [] r f.no_index) refl

  -- what is selected
  index_reads : (j : ℕ) (x : String) (t : List ℕ) → spelt (codes x) ≡ true →
      read true env (suc j) (codes x ++ (91 ∷ t)) ≡ read_index env j x t (read false env j t)
  index_reads j x t s = rw (name_starts x (91 ∷ t) s, name_front x (91 ∷ t) s refl, name_rest x (91 ∷ t) s refl) refl

  -- what a size would be as an expression: nothing, or something with the same behind it
  abbrev Outcome : Got Expr → List ℕ → Type 0
  Outcome o r = (o ≡ None) ⊎ ((e : Expr) × (o ≡ Some (e, r)))

  top_outcome : (k : ℕ) (cs r : List ℕ) → starts primary cs ≡ true → Outcome (read true env k cs) r → Stops r →
      Outcome (read false env (suc k) cs) r
  top_outcome k cs r s (inl h) f = inl (rw (s, h) refl)
  top_outcome k cs r s (inr (e, h)) f = inr (e, rw (s, h, no_sign r f.no_blank) refl)

  size_primary : (s : Size) (r : List ℕ) → size_ok env s ≡ true → SmallSize s → starts primary (size_text s ++ r) ≡ true
  size_primary (count n) r ok small = digit_primary (decimal n ++ r) (number_starts n r small)
  size_primary (named x) r ok small = name_primary x r (declared_name is_size env x names ok)
  size_primary (more a b) r ok small = refl
  size_primary (less a b) r ok small = refl

  closed_outcome : (o : Got Expr) (c : ℕ) (r : List ℕ) → nat_eq 41 c ≡ false → Outcome o (c ∷ r) → closed 41 o ≡ None
  closed_outcome o c r q (inl h) = ap (closed 41) h
  closed_outcome o c r q (inr (e, h)) = ap (closed 41) h ∙ ap (λ b. when (cond b (Some r) None) (λ t. Some (e, t))) q

  size_top : (s : Size) (k : ℕ) (r : List ℕ) → size_ok env s ≡ true → SmallSize s → Stops r →
      ((j : ℕ) → Outcome (read true env j (size_text s ++ r)) r) → Outcome (read false env k (size_text s ++ r)) r
  size_top s zero r ok small f h = inl refl
  size_top s (suc k) r ok small f h = top_outcome k (size_text s ++ r) r (size_primary s r ok small) (h k) f

  size_outcome : (s : Size) (k : ℕ) (r : List ℕ) → size_ok env s ≡ true → SmallSize s → Ends r →
      Outcome (read true env k (size_text s ++ r)) r
  size_outcome s zero r ok small f = inl refl
  size_outcome (count n) (suc k) r ok small f = inr (num n, number_reads k n r small f)
  size_outcome (named x) (suc k) r ok small f = inr (_, name_reads k x r (declared_name is_size env x names ok) f)
  size_outcome (more a b) (suc k) r ok small f =
      let t = 43 ∷ (size_text b ++ (41 ∷ r)) in
      let p = (and_parts (size_ok env a) (size_ok env b) ok).0 in
      let g : Stops t = stops_at 43 _ refl refl refl refl in
      inl (ap (λ t. read true env (suc k) (40 ∷ t)) (spread (size_text a) (43 ∷ []) (size_text b) (41 ∷ []) r)
      ∙ closed_outcome (read false env k (size_text a ++ t)) 43 (size_text b ++ (41 ∷ r)) refl
      (size_top a k t p small.0 g (λ j. size_outcome a j t p small.0 g.ends)))
  size_outcome (less a b) (suc k) r ok small f =
      let t = 45 ∷ (size_text b ++ (41 ∷ r)) in
      let p = (and_parts (size_ok env a) (size_ok env b) ok).0 in
      let g : Stops t = stops_at 45 _ refl refl refl refl in
      inl (ap (λ t. read true env (suc k) (40 ∷ t)) (spread (size_text a) (45 ∷ []) (size_text b) (41 ∷ []) r)
      ∙ closed_outcome (read false env k (size_text a ++ t)) 45 (size_text b ++ (41 ∷ r)) refl
      (size_top a k t p small.0 g (λ j. size_outcome a j t p small.0 g.ends)))

  -- so a part is read as one
  index_not : (k : ℕ) (x : String) (cs r : List ℕ) (o : Got Expr) → Outcome o (58 ∷ r) → read_index env k x cs o ≡ read_part k x cs
  index_not k x cs r o (inl h) = ap (read_index env k x cs) h
  index_not k x cs r o (inr (e, h)) = ap (read_index env k x cs) h

  part_reads : (k : ℕ) (x : String) (h l : Size) (r : List ℕ) → size_depth h + size_depth l ≤ k → size_ok env h ≡ true →
      size_ok env l ≡ true → SmallSize h → SmallSize l →
      read_part k x (size_text h ++ (58 ∷ (size_text l ++ (93 ∷ r)))) ≡ Some (part x h l, r)
  part_reads k x h l r d p q i j =
      rw (sizes h k (58 ∷ (size_text l ++ (93 ∷ r))) (omega (arith, d)) refl p i, sizes l k (93 ∷ r) (omega (arith, d)) refl q j) refl

  -- two operands with a sign between them
  between : (k : ℕ) (ta tb s r : List ℕ) (a b : Expr) (g : Sign) (f : Expr → Expr → Expr) → starts primary (ta ++ (s ++ (tb ++ r))) ≡ true →
      read true env k (ta ++ (s ++ (tb ++ r))) ≡ Some (a, s ++ (tb ++ r)) → read_sign (s ++ (tb ++ r)) ≡ Some (g, tb ++ r) →
      ((go : List ℕ → Got Expr) (t u : List ℕ) → read_more go a t (Some (g, u)) ≡ go_on (go u) (λ b v. Some (f a b, v))) →
      read true env k (tb ++ r) ≡ Some (b, r) → read false env (suc k) (ta ++ (s ++ (tb ++ r))) ≡ Some (f a b, r)
  between k ta tb s r a b g f begins first sign goes second =
      rw (begins, first, sign)
      (goes (read true env k) (s ++ (tb ++ r)) (tb ++ r) ∙ ap (λ o. go_on o (λ b v. Some (f a b, v))) second)

  two_reads : (o : Two) (t : List ℕ) → read_sign (two_sign o ++ t) ≡ Some (s_two o, t)
  two_reads plus t = refl
  two_reads minus t = refl
  two_reads times t = refl

  two_ends : (o : Two) (t : List ℕ) → Ends (two_sign o ++ t)
  two_ends plus t = ends_at 32 _ refl refl refl
  two_ends minus t = ends_at 32 _ refl refl refl
  two_ends times t = ends_at 32 _ refl refl refl

  shift_reads : (o : Way) (t : List ℕ) → read_sign (shift_sign o ++ t) ≡ Some (s_shift o, t)
  shift_reads left t = refl
  shift_reads right t = refl

  shift_ends : (o : Way) (t : List ℕ) → Ends (shift_sign o ++ t)
  shift_ends left t = ends_at 32 _ refl refl refl
  shift_ends right t = ends_at 32 _ refl refl refl

  test_reads : (o : Test) (t : List ℕ) → read_sign (test_sign o ++ t) ≡ Some (s_test o, t)
  test_reads same t = refl
  test_reads below t = refl

  test_ends : (o : Test) (t : List ℕ) → Ends (test_sign o ++ t)
  test_ends same t = ends_at 32 _ refl refl refl
  test_ends below t = ends_at 32 _ refl refl refl

  logic_reads : (o : Logic) (t : List ℕ) → read_sign (logic_sign o ++ t) ≡ Some (s_logic o, t)
  logic_reads both t = refl
  logic_reads one_of t = refl

  logic_ends : (o : Logic) (t : List ℕ) → Ends (logic_sign o ++ t)
  logic_ends both t = ends_at 32 _ refl refl refl
  logic_ends one_of t = ends_at 32 _ refl refl refl

  -- an operand begins as one does
  pub operand_starts : (e : Expr) (r : List ℕ) → expr_ok env e ≡ true → Small e → starts primary (expr_text true e ++ r) ≡ true
  operand_starts (num n) r ok small = digit_primary (decimal n ++ r) (number_starts n r small)
  operand_starts (sized w n) r ok small =
      digit_primary ((decimal w ++ (39 ∷ 100 ∷ decimal n)) ++ r)
      (subst (λ t. starts digit t ≡ true) (sym (append_assoc (decimal w) (39 ∷ 100 ∷ decimal n) r))
      (number_starts w (39 ∷ 100 ∷ (decimal n ++ r)) small.0))
  operand_starts (const x) r ok small = name_primary x r (declared_name parameter env x names ok)
  operand_starts (name x) r ok small = name_primary x r (declared_name vector env x names ok)
  operand_starts (bit x e) r ok small =
      let s = declared_name selects env x names (and_parts (of_kind selects env x) (expr_ok env e) ok).0 in
      letter_primary ((codes x ++ (91 ∷ (expr_text false e ++ (93 ∷ [])))) ++ r)
      (starts_more letter (codes x ++ (91 ∷ (expr_text false e ++ (93 ∷ [])))) r (name_starts x _ s))
  operand_starts (part x h l) r ok small =
      let s = declared_name selects env x names (and_parts (of_kind selects env x) (size_ok env h && size_ok env l) ok).0 in
      letter_primary ((codes x ++ (91 ∷ (size_text h ++ (58 ∷ (size_text l ++ (93 ∷ [])))))) ++ r)
      (starts_more letter (codes x ++ (91 ∷ (size_text h ++ (58 ∷ (size_text l ++ (93 ∷ [])))))) r (name_starts x _ s))
  operand_starts (word m e) r ok small =
      let s = declared_name is_memory env m names (and_parts (of_kind is_memory env m) (expr_ok env e) ok).0 in
      letter_primary ((codes m ++ (91 ∷ (expr_text false e ++ (93 ∷ [])))) ++ r)
      (starts_more letter (codes m ++ (91 ∷ (expr_text false e ++ (93 ∷ [])))) r (name_starts m _ s))
  operand_starts (cat a b) r ok small = refl
  operand_starts (inverse a) r ok small = refl
  operand_starts (two o a b) r ok small = refl
  operand_starts (shift o a b) r ok small = refl
  operand_starts (test o a b) r ok small = refl
  operand_starts (logic o a b) r ok small = refl
  operand_starts (none a) r ok small = refl
  operand_starts (any a) r ok small = refl
  operand_starts (every a) r ok small = refl
  operand_starts (pick c a b) r ok small = refl

  -- the reader reads an expression, behind which nothing goes on with it
  abbrev pub Reads : Bool → Expr → Type 0
  Reads c e = (k : ℕ) (r : List ℕ) → depth e ≤ k → Fine c r → read c env k (expr_text c e ++ r) ≡ Some (e, r)

  -- one operand behind a sign
  unary : (c : Bool) (p : ℕ) (a : Expr) (f : Expr → Expr) (k : ℕ) (r : List ℕ) → starts primary (p ∷ []) ≡ false →
      ((go : List ℕ → Got Expr) (t : List ℕ) → starts primary (p ∷ t) ≡ false →
      read_top go (p ∷ t) ≡ go_on (go t) (λ a r. Some (f a, r))) → suc (suc (depth a)) ≤ k → Reads true a → Fine c r →
      read c env k ((opening c ++ (p ∷ (expr_text true a ++ closing c))) ++ r) ≡ Some (f a, r)
  unary c p a f k r s h l ih fine =
      ap (read c env k) (spread (opening c) (p ∷ []) (expr_text true a) (closing c) r)
      ∙ wrap c k (f a) (λ z. p ∷ (expr_text true a ++ z)) r (omega (arith, l)) inner fine
    where
      inner : (j : ℕ) (z : List ℕ) → k ≤ suc j → Stops z → read false env j (p ∷ (expr_text true a ++ z)) ≡ Some (f a, z)
      inner zero z m t = absurd (omega (arith, l, m))
      inner (suc j) z m t =
          h (read true env j) (expr_text true a ++ z) s ∙ ap (λ o. go_on o (λ a r. Some (f a, r))) (ih j z (omega (arith, l, m)) t.ends)

  -- two operands
  double : (c : Bool) (s : List ℕ) (g : Sign) (a b : Expr) (f : Expr → Expr → Expr) (k : ℕ) (r : List ℕ) →
      ((t : List ℕ) → starts primary (expr_text true a ++ t) ≡ true) → ((t : List ℕ) → Ends (s ++ t)) →
      ((t : List ℕ) → read_sign (s ++ t) ≡ Some (g, t)) →
      ((go : List ℕ → Got Expr) (t u : List ℕ) → read_more go a t (Some (g, u)) ≡ go_on (go u) (λ b v. Some (f a b, v))) →
      suc (suc (depth a + depth b)) ≤ k → Reads true a → Reads true b → Fine c r →
      read c env k ((opening c ++ (expr_text true a ++ (s ++ (expr_text true b ++ closing c)))) ++ r) ≡ Some (f a b, r)
  double c s g a b f k r front_is ends sign goes l ia ib fine =
      ap (read c env k) (append_assoc (opening c) (expr_text true a ++ (s ++ (expr_text true b ++ closing c))) r
      ∙ ap (λ t. opening c ++ t) (spread (expr_text true a) s (expr_text true b) (closing c) r))
      ∙ wrap c k (f a b) (λ z. expr_text true a ++ (s ++ (expr_text true b ++ z))) r (omega (arith, l)) inner fine
    where
      inner : (j : ℕ) (z : List ℕ) → k ≤ suc j → Stops z →
          read false env j (expr_text true a ++ (s ++ (expr_text true b ++ z))) ≡ Some (f a b, z)
      inner zero z m t = absurd (omega (arith, l, m))
      inner (suc j) z m t =
          between j (expr_text true a) (expr_text true b) s z a b g f (front_is (s ++ (expr_text true b ++ z)))
          (ia j (s ++ (expr_text true b ++ z)) (omega (arith, l, m)) (ends (expr_text true b ++ z))) (sign (expr_text true b ++ z)) goes
          (ib j z (omega (arith, l, m)) t.ends)

  -- an index
  indexed : (c : Bool) (x : String) (e : Expr) (f : Expr) (k : ℕ) (r : List ℕ) → spelt (codes x) ≡ true → suc (suc (depth e)) ≤ k →
      Reads false e → cond (of_kind is_memory env x) (word x e) (bit x e) ≡ f → Fine c r →
      read c env k ((codes x ++ (91 ∷ (expr_text false e ++ (93 ∷ [])))) ++ r) ≡ Some (f, r)
  indexed c x e f k r s l ih is fine =
      ap (read c env k) (spread (codes x) (91 ∷ []) (expr_text false e) (93 ∷ []) r)
      ∙ atom c k f (codes x ++ (91 ∷ (expr_text false e ++ (93 ∷ r)))) r (omega (arith, l))
      (name_primary x (91 ∷ (expr_text false e ++ (93 ∷ r))) s) inner fine
    where
      inner : (j : ℕ) → k ≤ suc j → read true env j (codes x ++ (91 ∷ (expr_text false e ++ (93 ∷ r)))) ≡ Some (f, r)
      inner zero m = absurd (omega (arith, l, m))
      inner (suc j) m =
          index_reads j x (expr_text false e ++ (93 ∷ r)) s
          ∙ ap (read_index env j x (expr_text false e ++ (93 ∷ r)))
          (ih j (93 ∷ r) (omega (arith, l, m)) (stops_at 93 r refl refl refl refl))
          ∙ ap (λ e. Some (e, r)) is

  -- a part of a vector
  part_whole : (c : Bool) (x : String) (h i : Size) (k : ℕ) (r : List ℕ) → spelt (codes x) ≡ true → size_ok env h ≡ true →
      size_ok env i ≡ true → SmallSize h → SmallSize i → suc (suc (size_depth h + size_depth i)) ≤ k → Fine c r →
      read c env k ((codes x ++ (91 ∷ (size_text h ++ (58 ∷ (size_text i ++ (93 ∷ [])))))) ++ r) ≡ Some (part x h i, r)
  part_whole c x h i k r s p q u v l f =
      ap (read c env k) (spread (codes x) (91 ∷ []) (size_text h) (58 ∷ (size_text i ++ (93 ∷ []))) r
      ∙ ap (λ t. codes x ++ (91 ∷ (size_text h ++ (58 ∷ t)))) (append_assoc (size_text i) (93 ∷ []) r))
      ∙ atom c k (part x h i) (codes x ++ (91 ∷ inside)) r (omega (arith, l)) (name_primary x (91 ∷ inside) s) inner f
    where
      inside : List ℕ
      inside = size_text h ++ (58 ∷ (size_text i ++ (93 ∷ r)))

      colon : Stops (58 ∷ (size_text i ++ (93 ∷ r)))
      colon = stops_at 58 _ refl refl refl refl

      inner : (j : ℕ) → k ≤ suc j → read true env j (codes x ++ (91 ∷ inside)) ≡ Some (part x h i, r)
      inner zero m = absurd (omega (arith, l, m))
      inner (suc j) m =
          index_reads j x inside s
          ∙ index_not j x inside (size_text i ++ (93 ∷ r)) (read false env j inside)
          (size_top h j (58 ∷ (size_text i ++ (93 ∷ r))) p u colon (λ k. size_outcome h k (58 ∷ (size_text i ++ (93 ∷ r))) p u colon.ends))
          ∙ part_reads j x h i r (omega (arith, l, m)) p q u v

  -- a concatenation
  cat_whole : (c : Bool) (a b : Expr) (k : ℕ) (r : List ℕ) → suc (suc (depth a + depth b)) ≤ k → Reads false a → Reads false b →
      Fine c r → read c env k ((123 ∷ (expr_text false a ++ (44 ∷ 32 ∷ (expr_text false b ++ (125 ∷ []))))) ++ r) ≡ Some (cat a b, r)
  cat_whole c a b k r l ia ib f =
      ap (λ t. read c env k (123 ∷ t)) (spread (expr_text false a) (44 ∷ 32 ∷ []) (expr_text false b) (125 ∷ []) r)
      ∙ atom c k (cat a b) (123 ∷ inside) r (omega (arith, l)) refl inner f
    where
      behind_first : List ℕ
      behind_first = 44 ∷ 32 ∷ (expr_text false b ++ (125 ∷ r))

      inside : List ℕ
      inside = expr_text false a ++ behind_first

      inner : (j : ℕ) → k ≤ suc j → read true env j (123 ∷ inside) ≡ Some (cat a b, r)
      inner zero m = absurd (omega (arith, l, m))
      inner (suc j) m =
          ap (λ o. go_on o (λ a r. when (behind (codes ", ") r) (λ t. closed 125 (go_on (read false env j t) (λ b u. Some (cat a b, u))))))
          (ia j behind_first (omega (arith, l, m)) (stops_at 44 _ refl refl refl refl))
          ∙ ap (λ o. closed 125 (go_on o (λ b u. Some (cat a b, u))))
          (ib j (125 ∷ r) (omega (arith, l, m)) (stops_at 125 r refl refl refl refl))

  -- a choice
  pick_whole : (c : Bool) (d a b : Expr) (k : ℕ) (r : List ℕ) → ((t : List ℕ) → starts primary (expr_text true d ++ t) ≡ true) →
      suc (suc (depth d + depth a + depth b)) ≤ k → Reads true d → Reads true a → Reads true b → Fine c r →
      read c env k ((opening c ++ (expr_text true d ++ (codes " ? " ++ (expr_text true a ++ (codes " : " ++
      (expr_text true b ++ closing c)))))) ++ r) ≡ Some (pick d a b, r)
  pick_whole c d a b k r front_is l id ia ib f =
      ap (read c env k) (append_assoc (opening c) _ r ∙ ap (λ t. opening c ++ t) joined)
      ∙ wrap c k (pick d a b) body r (omega (arith, l)) inner f
    where
      joined : (expr_text true d ++ (codes " ? " ++ (expr_text true a ++ (codes " : " ++ (expr_text true b ++ closing c))))) ++ r ≡
          expr_text true d ++ (codes " ? " ++ (expr_text true a ++ (codes " : " ++ (expr_text true b ++ (closing c ++ r)))))
      joined =
          spread (expr_text true d) (codes " ? ") (expr_text true a) (codes " : " ++ (expr_text true b ++ closing c)) r
          ∙ ap (λ t. expr_text true d ++ (codes " ? " ++ (expr_text true a ++ (codes " : " ++ t))))
          (append_assoc (expr_text true b) (closing c) r)

      third : List ℕ → List ℕ
      third z = codes " : " ++ (expr_text true b ++ z)

      second : List ℕ → List ℕ
      second z = codes " ? " ++ (expr_text true a ++ third z)

      body : List ℕ → List ℕ
      body z = expr_text true d ++ second z

      inner : (j : ℕ) (z : List ℕ) → k ≤ suc j → Stops z → read false env j (body z) ≡ Some (pick d a b, z)
      inner zero z m t = absurd (omega (arith, l, m))
      inner (suc j) z m t =
          rw (front_is (second z), id j (second z) (omega (arith, l, m)) (ends_at 32 _ refl refl refl))
          (ap (λ o. go_on o (λ b u. when (behind (codes " : ") u) (λ v. go_on (read true env j v) (λ c w. Some (pick d b c, w)))))
          (ia j (third z) (omega (arith, l, m)) (ends_at 32 _ refl refl refl))
          ∙ ap (λ o. go_on o (λ c w. Some (pick d a c, w))) (ib j z (omega (arith, l, m)) t.ends))

  -- each expression is read
  pub reads : (e : Expr) (c : Bool) → expr_ok env e ≡ true → Small e → Reads c e
  reads (num n) c ok small k r l f =
      atom c k (num n) (decimal n ++ r) r l (digit_primary (decimal n ++ r) (number_starts n r small)) inner f
    where
      inner : (j : ℕ) → k ≤ suc j → read true env j (decimal n ++ r) ≡ Some (num n, r)
      inner zero m = absurd (omega (arith, l, m))
      inner (suc j) m = number_reads j n r small (fine_ends c r f)
  reads (sized w n) c ok small k r l f =
      ap (read c env k) (append_assoc (decimal w) (39 ∷ 100 ∷ decimal n) r)
      ∙ atom c k (sized w n) (decimal w ++ (39 ∷ 100 ∷ (decimal n ++ r))) r l
      (digit_primary (decimal w ++ (39 ∷ 100 ∷ (decimal n ++ r))) (number_starts w (39 ∷ 100 ∷ (decimal n ++ r)) small.0)) inner f
    where
      inner : (j : ℕ) → k ≤ suc j → read true env j (decimal w ++ (39 ∷ 100 ∷ (decimal n ++ r))) ≡ Some (sized w n, r)
      inner zero m = absurd (omega (arith, l, m))
      inner (suc j) m = sized_reads j w n r small.0 small.1 (fine_ends c r f)
  reads (const x) c ok small k r l f =
      atom c k (const x) (codes x ++ r) r l (name_primary x r spelling) inner f
    where
      spelling : spelt (codes x) ≡ true
      spelling = declared_name parameter env x names ok

      inner : (j : ℕ) → k ≤ suc j → read true env j (codes x ++ r) ≡ Some (const x, r)
      inner zero m = absurd (omega (arith, l, m))
      inner (suc j) m =
          name_reads j x r spelling (fine_ends c r f) ∙ ap (λ b. Some (cond b (const x) (name x), r)) ok
  reads (name x) c ok small k r l f =
      atom c k (name x) (codes x ++ r) r l (name_primary x r spelling) inner f
    where
      spelling : spelt (codes x) ≡ true
      spelling = declared_name vector env x names ok

      inner : (j : ℕ) → k ≤ suc j → read true env j (codes x ++ r) ≡ Some (name x, r)
      inner zero m = absurd (omega (arith, l, m))
      inner (suc j) m =
          name_reads j x r spelling (fine_ends c r f)
          ∙ ap (λ b. Some (cond b (const x) (name x), r)) (one_kind vector parameter size_kind env x ok)
  reads (bit x e) c ok small k r l f =
      let (p, q) = and_parts (of_kind selects env x) (expr_ok env e) ok in
      indexed c x e (bit x e) k r (declared_name selects env x names p) l (reads e false q small)
      (ap (λ b. cond b (word x e) (bit x e)) (one_kind selects is_memory select_kind env x p)) f
  reads (word x e) c ok small k r l f =
      let (p, q) = and_parts (of_kind is_memory env x) (expr_ok env e) ok in
      indexed c x e (word x e) k r (declared_name is_memory env x names p) l (reads e false q small)
      (ap (λ b. cond b (word x e) (bit x e)) p) f
  reads (part x h i) c ok small k r l f =
      let (p, q) = and_parts (of_kind selects env x) (size_ok env h && size_ok env i) ok in
      let (u, v) = and_parts (size_ok env h) (size_ok env i) q in
      part_whole c x h i k r (declared_name selects env x names p) u v small.0 small.1 l f
  reads (cat a b) c ok small k r l f =
      let q = (and_parts (has_width a && has_width b) (expr_ok env a && expr_ok env b) ok).1 in
      let (u, v) = and_parts (expr_ok env a) (expr_ok env b) q in
      cat_whole c a b k r l (reads a false u small.0) (reads b false v small.1) f
  reads (inverse a) c ok small k r l f = unary c 126 a inverse k r refl (λ go t s. refl) l (reads a true ok small) f
  reads (none a) c ok small k r l f = unary c 33 a none k r refl (λ go t s. refl) l (reads a true ok small) f
  reads (any a) c ok small k r l f = unary c 124 a any k r refl (λ go t s. refl) l (reads a true ok small) f
  reads (every a) c ok small k r l f = unary c 38 a every k r refl (λ go t s. refl) l (reads a true ok small) f
  reads (two o a b) c ok small k r l f =
      let (u, v) = and_parts (expr_ok env a) (expr_ok env b) ok in
      double c (two_sign o) (s_two o) a b (two o) k r (λ t. operand_starts a t u small.0) (two_ends o) (two_reads o)
      (λ go t w. refl) l (reads a true u small.0) (reads b true v small.1) f
  reads (shift o a b) c ok small k r l f =
      let (u, v) = and_parts (expr_ok env a) (expr_ok env b) ok in
      double c (shift_sign o) (s_shift o) a b (shift o) k r (λ t. operand_starts a t u small.0) (shift_ends o) (shift_reads o)
      (λ go t w. refl) l (reads a true u small.0) (reads b true v small.1) f
  reads (test o a b) c ok small k r l f =
      let (u, v) = and_parts (expr_ok env a) (expr_ok env b) ok in
      double c (test_sign o) (s_test o) a b (test o) k r (λ t. operand_starts a t u small.0) (test_ends o) (test_reads o)
      (λ go t w. refl) l (reads a true u small.0) (reads b true v small.1) f
  reads (logic o a b) c ok small k r l f =
      let (u, v) = and_parts (expr_ok env a) (expr_ok env b) ok in
      double c (logic_sign o) (s_logic o) a b (logic o) k r (λ t. operand_starts a t u small.0) (logic_ends o) (logic_reads o)
      (λ go t w. refl) l (reads a true u small.0) (reads b true v small.1) f
  reads (pick d a b) c ok small k r l f =
      let (p, q) = and_parts (expr_ok env d) (expr_ok env a && expr_ok env b) ok in
      let (u, v) = and_parts (expr_ok env a) (expr_ok env b) q in
      pick_whole c d a b k r (λ t. operand_starts d t p small.0) l (reads d true p small.0) (reads a true u small.1)
      (reads b true v small.2) f

-- so two expressions with one text are one
fine_nothing : (c : Bool) → Fine c []
fine_nothing true = stops_nothing.ends
fine_nothing false = stops_nothing

pub one_expression : (env : List Entry) → names_ok env ≡ true → (c : Bool) (a b : Expr) → expr_ok env a ≡ true →
    expr_ok env b ≡ true → Small a → Small b → expr_text c a ≡ expr_text c b → a ≡ b
one_expression env names c a b p q u v e =
    let k = depth a + depth b in
    let i = reads env names a c p u k [] (omega arith) (fine_nothing c) in
    let j = reads env names b c q v k [] (omega arith) (fine_nothing c) in
    same_first (sym i ∙ ap (λ t. read c env k (t ++ [])) e ∙ j)
