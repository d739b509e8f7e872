-- The examples' texts, by computing them: the tokens of the characters, and the tree of the tokens.
-- `unfolding reading` lets `refl` compute what a text is read to, here and in the crates above.
use Rattle.std.proofs.Common.{◌≡◌, ℕ, true, List, length, Ok, refl, sym, ap, ◌∙◌, nat_le}
use Rattle.std.specs.Str.{chars}
use lib.Utf8.{encode}
use Rattle.std.proofs.lemmas.Bool.{leb-true}
use Rattle.unicode_ident.proofs.Computing.{unicode_ident}
use Rattle.std.proofs.lemmas.Str.{chars-encodes}
use Rattle.pcf_values.specs.Most.{most_program_bytes}
use Rattle.pcf_values.specs.Named.{NamedTree}
use Rattle.pcf_reader.specs.Correct.{Text}
use Rattle.pcf_reader.specs.Lexing.{lex, idle}
use Rattle.pcf_reader.specs.Machine.{want_expr, whole}
use Rattle.pcf_reader.specs.Scan.{scan}
use Rattle.pcf_reader.specs.Spelling.{word_of}
use Rattle.pcf_reader.specs.Examples.{ExampleWords, ExampleOperators, ExampleApplications, ExampleTypes, ExampleLines}
use Rattle.pcf_reader.proofs.Shows.{all_low, low_bytes, low_scalars}
use Rattle.pcf_reader.proofs.Splitting.{text_read}

-- the tokens of characters, with their words and bytes
unfoldable pub reading : Unit {0}
unfolding lex word_of unicode_ident encode
reading = tt

-- a text of characters below 128 stands for the tree to which its tokens are read
pub by_tokens : (cs : List ℕ) (t : NamedTree) → all_low cs ≡ true → nat_le (length cs) most_program_bytes ≡ true →
    scan (lex cs 0 idle) (want_expr whole) 0 ≡ Ok t → Text cs t
by_tokens cs t low short e =
    let bytes = low_bytes cs low in
    let scalars = low_scalars cs low in
    let same : chars cs ≡ cs = ap chars (sym bytes) ∙ chars-encodes cs scalars in
    text_read cs (leb-true (length cs) most_program_bytes short) (cs, (scalars, bytes)) t
    (ap (λ z. scan (lex z 0 idle) (want_expr whole) 0) same ∙ e)

-- the keywords
pub example_words : ExampleWords
unfolding reading
example_words = record {
  successor = by_tokens _ _ refl refl refl;
  predecessor = by_tokens _ _ refl refl refl;
  left_part = by_tokens _ _ refl refl refl;
  right_part = by_tokens _ _ refl refl refl;
  tested = by_tokens _ _ refl refl refl;
  function = by_tokens _ _ refl refl refl;
  fixed = by_tokens _ _ refl refl refl;
  longer_name = by_tokens _ _ refl refl refl;
}

-- sums and products
pub example_operators : ExampleOperators
unfolding reading
example_operators = record {
  plus = by_tokens _ _ refl refl refl;
  minus = by_tokens _ _ refl refl refl;
  times = by_tokens _ _ refl refl refl;
  minus_plus = by_tokens _ _ refl refl refl;
  plus_minus = by_tokens _ _ refl refl refl;
  plus_times = by_tokens _ _ refl refl refl;
  times_minus = by_tokens _ _ refl refl refl;
  in_parentheses = by_tokens _ _ refl refl refl;
}

-- applications, words and bodies
pub example_applications : ExampleApplications
unfolding reading
example_applications = record {
  applied = by_tokens _ _ refl refl refl;
  in_product = by_tokens _ _ refl refl refl;
  word_first = by_tokens _ _ refl refl refl;
  word_in_word = by_tokens _ _ refl refl refl;
  body = by_tokens _ _ refl refl refl;
  last_branch = by_tokens _ _ refl refl refl;
}

-- types
pub example_types : ExampleTypes
unfolding reading
example_types = record {
  arrows = by_tokens _ _ refl refl refl;
  products = by_tokens _ _ refl refl refl;
  product_arrow = by_tokens _ _ refl refl refl;
  arrow_product = by_tokens _ _ refl refl refl;
  in_parentheses = by_tokens _ _ refl refl refl;
}

-- comments, numbers and blanks
pub example_lines : ExampleLines
unfolding reading
example_lines = record {
  comment = by_tokens _ _ refl refl refl;
  decimal = by_tokens _ _ refl refl refl;
  no_blank = by_tokens _ _ refl refl refl;
}
