-- The decimal text of a number, as `clap` and the definitions read it.
use Rattle.std.proofs.Common.{◌≡◌, ◌∙◌, ◌==◌, ◌<◌, ◌≤◌, ◌^◌, ap, refl, drop, cond, ℕ, Bool, true, false, [], ◌∷◌, Some, arith}
use Rattle.std.specs.Prelude.{pos}
use Rattle.std.specs.Fmt.{decimal}
use Rattle.std.specs.Str.Parse.{IsNumeral, digits_value, starts_with_minus, without_leading_plus}
use Rattle.std.proofs.lemmas.Bool.{le-leb, lt-ltb, ne_eqb}
use Rattle.std.proofs.lemmas.Fmt.{decimal_is_IsNumeral}
use Rattle.std.proofs.lemmas.Str.Parse.{digit_from_value}
use Rattle.clap.specs.Lexer.{without_minus}
use Rattle.clap.specs.ValueTests.{accepts}
use Rattle.clap.specs.Walk.{Text}
use Rattle.clap.specs.declared.builder.value_parser.ValueParser.TheVariants as parser
use Rattle.goi_words.specs.Asked.{number_in}
use Rattle.goi_words.proofs.Numbers.{number_read, numeral}
use Rattle.goi_words.proofs.Walks.{IsValue, a_value}

-- digits with no sign before them
pub record IsUnsigned (ds : Text) : Type 0 where
  pub no_minus : starts_with_minus ds ≡ false
  pub no_plus : without_leading_plus ds ≡ ds
  pub kept : without_minus ds ≡ ds
  pub value : IsValue ds

-- digits alone are neither a minus, a plus nor an option
pub unsigned : (ds : Text) → IsNumeral 10 ds → IsUnsigned ds
unsigned [] h = absurd (omega (arith, h.0))
unsigned (d ∷ ds) h =
    let minus : (d == 45) ≡ false = ne_eqb _ _ (λ e. omega (arith, digit_from_value d h.1.0)) in
    let plus : (d == 43) ≡ false = ne_eqb _ _ (λ e. omega (arith, digit_from_value d h.1.0)) in
    record {
      no_minus = minus;
      no_plus = ap (λ (b : Bool). drop (cond b 1 0) (d ∷ ds)) plus;
      kept = rw minus refl;
      value = a_value d ds minus;
    }

module _ (n : ℕ) (small : n < 2 ^ 32) where
  wide : n < 2 ^ 64
  wide = omega arith

  spelled : IsUnsigned (decimal n)
  spelled = unsigned (decimal n) (decimal_is_IsNumeral n wide).0

  pub decimal_value : IsValue (decimal n)
  decimal_value = spelled.value

  pub decimal_kept : without_minus (decimal n) ≡ decimal n
  decimal_kept = spelled.kept

  pub decimal_number : number_in (decimal n) ≡ Some n
  decimal_number =
      let read = decimal_is_IsNumeral n wide in
      let same = spelled.no_plus in
      let fits : digits_value 10 (without_leading_plus (decimal n)) < 2 ^ 32 = rw (same, read.1) small in
      number_read (decimal n) (rw same read.0) fits ∙ ap Some (rw (same, read.1) refl)

  pub decimal_passes : (least most : ℕ) → least ≤ n → n ≤ most → accepts false (parser.Signed (pos least) (pos most)) (decimal n) ≡ true
  decimal_passes least most low high =
      let read = decimal_is_IsNumeral n wide in
      rw (
        spelled.no_minus,
        spelled.no_plus,
        numeral (decimal n) read.0,
        read.1,
        lt-ltb n (2 ^ 63)
            (omega arith),
        le-leb least n low,
        le-leb n most high,
      ) refl
