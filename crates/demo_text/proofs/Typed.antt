-- The tree of the generated program is typed, and what the laws say.
use Rattle.std.proofs.Common.{◌≡◌, ℕ, zero, suc, ◌+◌, ◌*◌, ◌^◌, [], ◌∷◌, map, Ok, refl, arith}
use Rattle.std.specs.Prelude.{codes}
use Rattle.pcf_values.specs.Terms.{nat, arrow, size}
use Rattle.pcf_reader.specs.Grammar.{expr_part, placed, program_text}
use Rattle.pcf_types.specs.Checking.{Context, type_of}
use Rattle.demo_text.specs.Demo.{demo_term, sum_term}
use Rattle.demo_text.specs.Text.{demo_text}
use Rattle.demo_text.specs.Laws.{DemoIsTyped, DemoSize}
use Rattle.demo_text.proofs.Limits.{demo_bytes, demo_narrow, demo_scalars, demo_shallow, demo_short, demo_small, twice}
use Rattle.demo_text.proofs.Phrases.{demo_phrase, demo_program, right_of, sum_phrase}
use Rattle.demo_text.proofs.Splitting.{demo_splits}

-- under the binder of the doubling function
abbrev under_d : Context
under_d = (codes "d", arrow nat nat) ∷ []

-- a sum is typed as its term
sum_typed : (k at : ℕ) → type_of under_d (expr_part (sum_phrase k at)).tree ≡ Ok (sum_term k, nat)
sum_typed zero at = refl
sum_typed (suc k) at = rw (sum_typed k (at + 1), sum_typed k (right_of k at)) refl

-- the whole tree is typed as the program
demo_typed : (n : ℕ) → type_of [] (expr_part (demo_phrase n)).tree ≡ Ok (demo_term n, nat)
demo_typed n = rw (sum_typed n 17) refl

-- each text up to the limit is a program
pub demo_is_typed : DemoIsTyped
demo_is_typed n h = (
  (expr_part (demo_phrase n)).tree,
  (
    map placed (program_text (demo_program n)),
    record { short = demo_short n h; characters = demo_text n; scalars = demo_scalars n; encoded = demo_bytes n; splits = demo_splits n },
    record {
      program = demo_program n;
      written = refl;
      stands_for = refl;
      shallow = demo_shallow n h;
      small = demo_small n h;
      narrow = demo_narrow n;
    },
  ),
  demo_typed n,
)

-- the number of nodes of a sum
sum_size : (k : ℕ) → size (sum_term k) + 1 ≡ 4 * 2 ^ k
sum_size zero = refl
sum_size (suc k) = omega (arith, sum_size k, twice k)

-- the number of nodes of the program
pub demo_size : DemoSize
demo_size n = omega (arith, sum_size n)
