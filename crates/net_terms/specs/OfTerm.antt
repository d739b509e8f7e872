-- Whose net a net is.
use Rattle.std.specs.Prelude.{◌≡◌, ℕ, ◌≤◌, []}
use Rattle.pcf_values.specs.Terms.{TermTree, nat, height}
use Rattle.pcf_values.specs.Typing.{HasType}
use Rattle.net_build.specs.Nets.{NetTree}
use Rattle.net_build.specs.NetOf.{net_of}

-- the net is that of this closed term of type `nat`, which is no higher than h
pub record IsNetOf (h : ℕ) (net : NetTree) (m : TermTree) : Type 0 where
  pub typed : HasType [] m nat
  pub within : height m ≤ h
  pub net_is : net_of m ≡ net

-- it is that of none
abbrev pub OfNone : ℕ → NetTree → Type 0
OfNone h net = (m : TermTree) → IsNetOf h net m → ⊥
