-- What the texts mean, each by computing its tokens, its tree, its term and its value, to a depth that is enough.
use Rattle.std.proofs.Common.{◌≡◌, ℕ, [], true, List, length, Ok, Some, refl, nat_le}
use Rattle.pcf_values.specs.declared.val.Val.{Val}
use Rattle.pcf_values.specs.Most.{most_program_bytes}
use Rattle.pcf_values.specs.Named.{NamedTree}
use Rattle.pcf_values.specs.Terms.{TermTree, nat}
use Rattle.pcf_reader.specs.Lexing.{lex, idle}
use Rattle.pcf_reader.specs.Machine.{want_expr, whole}
use Rattle.pcf_reader.specs.Scan.{scan}
use Rattle.pcf_reader.proofs.Examples.{reading, by_tokens}
use Rattle.pcf_reader.proofs.Shows.{all_low}
use Rattle.pcf_types.specs.Checking.{type_of}
use Rattle.cbn_meaning.specs.Meaning.{eval, value}
use Rattle.program_runs.specs.ExampleTexts.{Says, ExampleTexts}

-- a text of characters below 128 says what its tree's term comes to
says : (d : ℕ) (cs : List ℕ) (tree : NamedTree) (t : TermTree) (v : Val) → all_low cs ≡ true →
    nat_le (length cs) most_program_bytes ≡ true → scan (lex cs 0 idle) (want_expr whole) 0 ≡ Ok tree → type_of [] tree ≡ Ok (t, nat) →
    eval d t ≡ Some (value v) → Says cs v
says d cs tree t v low short read typed comes =
    (t, (tree, record { text = by_tokens cs tree low short read; typed = typed; will_do = refl }), (d, comes))

-- the texts
pub example_texts : ExampleTexts
unfolding reading
example_texts = record {
  successor = says 9 _ _ _ _ refl refl refl refl refl;
  predecessor = says 9 _ _ _ _ refl refl refl refl refl;
  predecessor_of_zero = says 9 _ _ _ _ refl refl refl refl refl;
  left_part = says 9 _ _ _ _ refl refl refl refl refl;
  right_part = says 9 _ _ _ _ refl refl refl refl refl;
  of_zero = says 9 _ _ _ _ refl refl refl refl refl;
  of_more = says 9 _ _ _ _ refl refl refl refl refl;
  minus = says 9 _ _ _ _ refl refl refl refl refl;
  below_zero = says 9 _ _ _ _ refl refl refl refl refl;
  plus_times = says 9 _ _ _ _ refl refl refl refl refl;
  too_large = says 9 _ _ _ _ refl refl refl refl refl;
  arguments = says 9 _ _ _ _ refl refl refl refl refl;
  nearest = says 9 _ _ _ _ refl refl refl refl refl;
  function = says 9 _ _ _ _ refl refl refl refl refl;
  summed = says 40 _ _ _ _ refl refl refl refl refl;
}
