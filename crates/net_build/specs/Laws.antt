-- What holds of the net of every term: how large it is, and that it is sound where the term is closed and of type `nat`.
use Rattle.std.specs.Prelude.{◌+◌, ◌*◌, ◌≤◌, [], length}
use Rattle.pcf_values.specs.Terms.{TermTree, nat, size, height}
use Rattle.pcf_values.specs.Typing.{HasType}
use Rattle.net_build.specs.NetOf.{net_of}
use Rattle.net_build.specs.Sound.{Sound}

-- at most s * (2 h + 4) wires and as many nodes, for a term of size s and height h
abbrev pub NetSize : Type 0
NetSize = (m : TermTree) → (length (net_of m).wires ≤ size m * (2 * height m + 4)) × (length (net_of m).nodes ≤ size m * (2 * height m + 4))

abbrev pub BuiltSound : Type 0
BuiltSound = (m : TermTree) → HasType [] m nat → Sound (net_of m)
