-- What reading a net back answers.
use Rattle.std.specs.Prelude.{◌≡◌, ℕ, Option, Some, None}
use Rattle.pcf_values.specs.Terms.{TermTree, TyTree, nat}
use Rattle.net_build.specs.Nets.{NetTree}
use Rattle.net_terms.specs.OfTerm.{IsNetOf, OfNone}

-- The term whose net it is, with its type, or none where it is that of none.
abbrev pub TermOrNone : ℕ → NetTree → Option (TermTree × TyTree) → Type 0
TermOrNone h net (Some t) = IsNetOf h net t.0 × (t.1 ≡ nat)
TermOrNone h net None = OfNone h net
