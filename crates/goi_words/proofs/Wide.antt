-- Numbers of 64 bits, as `clap` and the definitions read them.
use Rattle.std.proofs.Common.{◌≡◌, ◌∙◌, ◌&&◌, ◌∷◌, ◌++◌, ◌<◌, ◌^◌, ap, refl, sym, subst, cond, map, take, get_or, length}
use Rattle.std.proofs.Common.{ℕ, Bool, true, false, List, [], Option}
use Rattle.std.proofs.Common.{Some, None, Result, Ok, Err, nat_lt, arith}
use Rattle.std.proofs.Common.{zero, suc, ◌+◌, unwrap_or, option_map, Bor}
use Rattle.std.specs.Prelude.{nat_le}
use Rattle.std.proofs.lemmas.List.{map_more}
use Rattle.std.proofs.lemmas.Bool.{le-leb, lt-ltb, ltb-true}
use Rattle.std.proofs.lemmas.Fmt.{decimal_is_IsNumeral}
use Rattle.std.specs.List.{AllByRecursion}
use Rattle.std.specs.Fmt.{decimal}
use Rattle.std.specs.Str.Parse.{IsNumeral, ParsesUnsigned, digits_value, without_leading_plus}
use Rattle.clap.specs.ValueTests.{accepts, is_numeral}
use Rattle.clap.specs.Walk.{Row, Text, all_of}
use Rattle.clap.specs.declared.builder.value_parser.ValueParser.TheVariants as parser
use Rattle.goi_words.specs.Findings.{◌>>=◌}
use Rattle.goi_words.specs.Asked.{numbers_of, wide_number_in, wide_numbers_in}
use Rattle.goi_words.proofs.Decimals.{unsigned}
use Rattle.goi_words.proofs.Numbers.{is_numeral_so, numeral}
use Rattle.goi_words.proofs.Walks.{IsValue}

-- a text that is read as a number
wide_read : (t : Text) → IsNumeral 10 (without_leading_plus t) → digits_value 10 (without_leading_plus t) < 2 ^ 64
    → wide_number_in t ≡ Some (digits_value 10 (without_leading_plus t))
wide_read t h small = rw (numeral (without_leading_plus t) h, lt-ltb (digits_value 10 (without_leading_plus t)) (2 ^ 64) small) refl

-- a text that is read as no number
wide_unread : (t : Text) → (IsNumeral 10 (without_leading_plus t) × (digits_value 10 (without_leading_plus t) < 2 ^ 64) → ⊥)
    → wide_number_in t ≡ None
wide_unread t never = go (is_numeral (without_leading_plus t)) (nat_lt (digits_value 10 (without_leading_plus t)) (2 ^ 64)) refl refl
  where
    go : (a b : Bool) → is_numeral (without_leading_plus t) ≡ a → nat_lt (digits_value 10 (without_leading_plus t)) (2 ^ 64) ≡ b
        → wide_number_in t ≡ None
    go true true e f = absurd (never (is_numeral_so _ e, ltb-true _ _ f))
    go true false e f = rw (e, f) refl
    go false b e f = rw e refl

-- what `parse` makes of a text
pub wide_ok : {E : Type 0} (t : Text) (r : Result ℕ E) (n : ℕ) → r ≡ Ok n → ParsesUnsigned 64 10 t r → Some n ≡ wide_number_in t
wide_ok t r n is read =
    let parsed = subst (λ (x : Result ℕ _). ParsesUnsigned 64 10 t x) is read in
    ap Some parsed.1 ∙ sym (wide_read t parsed.0.0 parsed.0.1)

pub wide_err : {E : Type 0} (t : Text) (r : Result ℕ E) (e : E) → r ≡ Err e → ParsesUnsigned 64 10 t r → None ≡ wide_number_in t
wide_err t r e is read = sym (wide_unread t (subst (λ (x : Result ℕ _). ParsesUnsigned 64 10 t x) is read))

-- ---- the decimal text of a number

module _ (n : ℕ) (small : n < 2 ^ 64) where
  pub wide_value : IsValue (decimal n)
  wide_value = (unsigned (decimal n) (decimal_is_IsNumeral n small).0).value

  pub wide_number : wide_number_in (decimal n) ≡ Some n
  wide_number =
      let read = decimal_is_IsNumeral n small in
      let same = (unsigned (decimal n) read.0).no_plus in
      let fits : digits_value 10 (without_leading_plus (decimal n)) < 2 ^ 64 = rw (same, read.1) small in
      wide_read (decimal n) (rw same read.0) fits ∙ ap Some (rw (same, read.1) refl)

  pub wide_passes : accepts false (parser.Unsigned 0 18446744073709551615) (decimal n) ≡ true
  wide_passes =
      let read = decimal_is_IsNumeral n small in
      rw (
        (unsigned (decimal n) read.0).no_plus,
        numeral (decimal n) read.0,
        read.1,
        lt-ltb n (2 ^ 64) small,
        le-leb 0 n (omega arith),
        le-leb n 18446744073709551615 (omega arith),
      ) refl

-- those of several
pub wide_values : (ns : List ℕ) → AllByRecursion (λ n. n < 2 ^ 64) ns → AllByRecursion IsValue (map decimal ns)
wide_values [] small = tt
wide_values (n ∷ ns) small = (wide_value n small.0, wide_values ns small.1)

pub wide_numbers : (ns : List ℕ) → AllByRecursion (λ n. n < 2 ^ 64) ns → wide_numbers_in (map decimal ns) ≡ Some ns
wide_numbers [] small = refl
wide_numbers (n ∷ ns) small = rw (wide_number n small.0, wide_numbers ns small.1) refl

-- ---- texts that `clap` takes

-- one that passes spells a number
passed_number : (t : Text) → accepts false (parser.Unsigned 0 18446744073709551615) t ≡ true → (n : ℕ) × (wide_number_in t ≡ Some n)
passed_number t passes =
    let n = digits_value 10 (without_leading_plus t) in
    (n, go (is_numeral (without_leading_plus t)) (nat_lt n (2 ^ 64)) (nat_le 0 n && nat_le n 18446744073709551615) n passes)
  where
    go : (a b c : Bool) (n : ℕ) → (a && (b && c)) ≡ true → cond (a && b) (Some n) None ≡ Some n
    go true true c n e = refl
    go true false c n e = cc
    go false b c n e = cc

-- and so do several
pub passed_numbers : (ts : List Text) → AllByRecursion (λ t. accepts false (parser.Unsigned 0 18446744073709551615) t ≡ true) ts
    → (ns : List ℕ) × (wide_numbers_in ts ≡ Some ns)
passed_numbers [] pass = ([], refl)
passed_numbers (t ∷ ts) pass =
    let one = passed_number t pass.0 in
    let more = passed_numbers ts pass.1 in
    (one.0 ∷ more.0, rw (one.1, more.1) refl)

-- ---- one after another

-- the first is read, and then the others
abbrev in_front : Option ℕ → Option (List ℕ) → Option (List ℕ)
in_front o p = o >>= λ x. p >>= λ xs. Some (x ∷ xs)

-- one more number behind those that were read
behind : (o : Option ℕ) (p q : Option (List ℕ)) (ns : List ℕ) (n : ℕ) → ((xs : List ℕ) → p ≡ Some xs → q ≡ Some (xs ++ n ∷ []))
    → in_front o p ≡ Some ns → in_front o q ≡ Some (ns ++ n ∷ [])
behind None p q ns n more all = cc
behind (Some x) None q ns n more all = cc
behind (Some x) (Some xs) q ns n more all =
    rw (more xs refl) (ap (λ (o : Option (List ℕ)). o >>= λ ys. Some (ys ++ n ∷ [])) all)

-- one more text, behind those that were read
pub one_more : (ts : List Text) (t : Text) (ns : List ℕ) (n : ℕ) → wide_numbers_in ts ≡ Some ns → wide_number_in t ≡ Some n
    → wide_numbers_in (ts ++ t ∷ []) ≡ Some (ns ++ n ∷ [])
one_more [] t ns n all one = rw one (ap (λ (o : Option (List ℕ)). o >>= λ xs. Some (xs ++ n ∷ [])) all)
one_more (u ∷ ts) t ns n all one =
    behind (wide_number_in u) (wide_numbers_in ts) (wide_numbers_in (ts ++ t ∷ [])) ns n (λ xs is. one_more ts t xs n is one) all

nothing : (o : Option ℕ) (p : Option (List ℕ)) → p ≡ None → in_front o p ≡ None
nothing None p is = refl
nothing (Some x) p is = rw is refl

-- ---- as the code reads them

-- the texts behind references
abbrev pub behind_references : List (Bor Text) → List Text
behind_references = map (λ s. s.now)

-- one more text is read
pub more_at : (xs : List (Bor Text)) (i : ℕ) (d : Bor Text) (ns more : List ℕ) (n : ℕ) → i < length xs
    → wide_numbers_in (behind_references (take i xs)) ≡ Some ns → wide_number_in (get_or xs i d).now ≡ Some n → more ≡ ns ++ n ∷ []
    → wide_numbers_in (behind_references (take (i + 1) xs)) ≡ Some more
more_at xs i d ns more n l all one is =
    ap wide_numbers_in (map_more (λ s. s.now) xs i d l)
    ∙ one_more (behind_references (take i xs)) (get_or xs i d).now ns n all one ∙ ap Some (sym is)

-- a text spells none
pub none_at : (xs : List (Bor Text)) (i : ℕ) (d : Bor Text) → i < length xs → wide_number_in (get_or xs i d).now ≡ None
    → wide_numbers_in (behind_references xs) ≡ None
none_at [] i d l none = absurd (omega arith)
none_at (x ∷ xs) zero d l none = rw none refl
none_at (x ∷ xs) (suc i) d l none =
    nothing (wide_number_in x.now) (wide_numbers_in (behind_references xs)) (none_at xs i d (omega arith) none)

-- the texts that are found for an argument
pub found_texts : (name : Text) (rows : List Row) (raw : Option (Bor (List (Bor Text)))) (texts : Bor (List (Bor Text)))
    → option_map (λ s. map (λ v. v.now) s.now) raw ≡ all_of name rows → raw ≡ Some texts
    → numbers_of name rows ≡ wide_numbers_in (behind_references texts.now)
found_texts name rows raw texts e is =
    ap (λ (o : Option (List Text)). wide_numbers_in (unwrap_or o []))
    (sym e ∙ ap (option_map (λ (s : Bor (List (Bor Text))). behind_references s.now)) is)

-- and none
pub no_texts : (name : Text) (rows : List Row) (raw : Option (Bor (List (Bor Text))))
    → option_map (λ s. map (λ v. v.now) s.now) raw ≡ all_of name rows → raw ≡ None → numbers_of name rows ≡ Some []
no_texts name rows raw e is =
    ap (λ (o : Option (List Text)). wide_numbers_in (unwrap_or o []))
    (sym e ∙ ap (option_map (λ (s : Bor (List (Bor Text))). behind_references s.now)) is)
