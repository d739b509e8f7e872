-- The examples, each computed.
use Rattle.std.proofs.Common.{refl}
use Rattle.meaning_laws.specs.Contexts.{hole}
use Rattle.meaning_laws.specs.Equations.{beta, unfolds, part, test, computed, ends, goes_on}
use Rattle.meaning_laws.specs.Examples.{ExamplePut, ExampleContexts, ExampleRewrites, ExampleNoFix}

pub example_put : ExamplePut
example_put = record { raised = refl; stays = refl; lower = refl; bound = refl }

pub example_contexts : ExampleContexts
example_contexts = record {
  applies = record { equal = beta; left = (30, refl); right = (30, refl) };
  unfolds = record { equal = unfolds; left = (30, refl); right = (30, refl) };
  first = record { equal = part; left = (30, refl); right = (30, refl) };
  second = record { equal = part; left = (30, refl); right = (30, refl) };
  zero_branch = record { equal = test; left = (30, refl); right = (30, refl) };
  other_branch = record { equal = test; left = (30, refl); right = (30, refl) };
  numbers = record { equal = computed refl; left = (30, refl); right = (30, refl) };
}

pub example_rewrites : ExampleRewrites
example_rewrites = goes_on hole beta (goes_on hole (computed refl) ends)

pub example_no_fix : ExampleNoFix
example_no_fix = record {
  double = ((tt, tt), tt);
  argument = λ h. h.1;
  part = λ h. h.1;
  branch = λ h. h.2;
}
