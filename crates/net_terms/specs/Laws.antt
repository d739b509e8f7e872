-- What holds of the term that is read from a net.
use Rattle.std.specs.Prelude.{◌≡◌, ℕ, ◌≤◌, [], Some}
use Rattle.pcf_values.specs.Terms.{TermTree, nat, height}
use Rattle.pcf_values.specs.Typing.{HasType}
use Rattle.net_build.specs.Example.{doubled}
use Rattle.net_build.specs.NetOf.{net_of}
use Rattle.net_terms.specs.TermOf.{candidate}

-- from the net of a closed term of type `nat` that term is read, within a bound on its height
abbrev pub ReadBack : Type 0
ReadBack = (h : ℕ) (m : TermTree) → HasType [] m nat → height m ≤ h → candidate h (net_of m) ≡ Some m

-- so no two such terms have one net
abbrev pub OneTerm : Type 0
OneTerm = (m l : TermTree) → HasType [] m nat → HasType [] l nat → net_of m ≡ net_of l → m ≡ l

-- the term of the worked net `(fun x:nat. x + x) 3` is read from it
abbrev pub ExampleTerm : Type 0
ExampleTerm = candidate 10 (net_of doubled) ≡ Some doubled
