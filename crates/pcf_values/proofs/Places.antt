-- The place of a node's tree is the node's.
use Rattle.std.proofs.Common.{◌≡◌, ℕ, refl}
use Rattle.pcf_values.specs.declared.named.Raw.{Raw}
use Rattle.pcf_values.specs.declared.named.Raw.TheVariants as raw
use Rattle.pcf_values.specs.Named.{place_of}
use Rattle.pcf_values.specs.Views.{raw_of}

-- a node stands at the place that it is given, whatever its form
pub raw_place : (r : Raw) (at : ℕ) → place_of (raw_of r at) ≡ at
raw_place (raw.Number n) at = refl
raw_place (raw.Name x) at = refl
raw_place (raw.Succ' p i a) at = refl
raw_place (raw.Pred' p i a) at = refl
raw_place (raw.Binary' o p i a q j b) at = refl
raw_place (raw.Ifz' p i c q j a r k b) at = refl
raw_place (raw.Fun' x t p i m) at = refl
raw_place (raw.Fix' x t p i m) at = refl
raw_place (raw.App' p i f q j a) at = refl
raw_place (raw.Pair' p i a q j b) at = refl
raw_place (raw.Proj' s p i a) at = refl
