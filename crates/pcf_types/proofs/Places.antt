-- The place of a tree of the code.
use Rattle.std.proofs.Common.{◌≡◌}
use Rattle.pcf_values.specs.declared.named.Named.{Named}
use Rattle.pcf_values.specs.Named.{place_of}
use Rattle.pcf_values.specs.Views.{named_of}
use Rattle.pcf_values.proofs.Places.{raw_place}

pub place : (n : Named) → place_of (named_of n) ≡ n.at
place n = raw_place n.raw n.at
