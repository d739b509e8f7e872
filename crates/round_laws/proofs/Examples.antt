-- The example's rounds, by computing them.
use Rattle.std.proofs.Common.{refl}
use Rattle.round_laws.specs.Example.{ExampleRounds}

-- rounds of `double`: each number is computed
pub example_rounds : ExampleRounds
example_rounds = record { answers = refl; not_before = refl; moves = refl; widths = refl; log = refl }
