-- The lengths, each by a depth that is enough for its question, and by computing it.
use Rattle.std.proofs.Common.{refl}
use Rattle.program_runs.specs.Examples.{ExampleCallings}

pub example_callings : ExampleCallings
example_callings = record {
  number = (40, 33, refl, refl);
  unused_by_name = (4, 5, refl, refl);
  summed_by_name = (200, 329, refl, refl);
  summed_by_value = (1500, 2375, refl, refl);
}
