-- The examples, computed.
use Rattle.std.proofs.Common.{◌≡◌, refl, arith}
use Rattle.std.specs.Fmt.{digits}
use Rattle.verilog_tree.specs.Print.{module_text}
use Rattle.verilog_texts.specs.Examples.{short_number, long_number, ExampleSameTexts}

different : short_number ≡ long_number → ⊥
different e = omega (arith, e)

-- each part by computing
pub example_same_texts : ExampleSameTexts
unfolding module_text digits
example_same_texts = record {
  names = refl;
  indexes = refl;
  order = (refl, refl, refl);
  same_edges = λ S. refl;
  long = refl;
  other_edges = λ S e. different e;
  refused = refl;
  wide = refl;
  refused_wide = refl;
}
