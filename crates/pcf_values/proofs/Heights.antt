-- Heights of terms: of one as it is read, whatever its place, and of the trees that the laws are about.
use Rattle.std.proofs.Common.{◌≡◌, ◌≤◌, ℕ, refl, arith}
use Rattle.pcf_values.specs.declared.named.Raw.{Raw}
use Rattle.pcf_values.specs.declared.named.Raw.TheVariants as raw
use Rattle.pcf_values.specs.Named.{named_height}
use Rattle.pcf_values.specs.Terms.{TermTree, num, var, succ_of, pred_of, binary, ifz, lam, fix, app, pair, proj, height}
use Rattle.pcf_values.specs.Views.{raw_of}

-- the height of a node's tree is the same at every place
pub raw_height : (r : Raw) (at : ℕ) → named_height (raw_of r at) ≡ named_height (raw_of r 0)
raw_height (raw.Number n) at = refl
raw_height (raw.Name x) at = refl
raw_height (raw.Succ' p i a) at = refl
raw_height (raw.Pred' p i a) at = refl
raw_height (raw.Binary' o p i a q j b) at = refl
raw_height (raw.Ifz' p i c q j a r k b) at = refl
raw_height (raw.Fun' x t p i m) at = refl
raw_height (raw.Fix' x t p i m) at = refl
raw_height (raw.App' p i f q j a) at = refl
raw_height (raw.Pair' p i a q j b) at = refl
raw_height (raw.Proj' s p i a) at = refl

-- the height of a term is at least 1
pub height_positive : (m : TermTree) → 1 ≤ height m
height_positive (num n) = omega arith
height_positive (var i) = omega arith
height_positive (succ_of a) = omega arith
height_positive (pred_of a) = omega arith
height_positive (binary o a b) = omega arith
height_positive (ifz c a b) = omega arith
height_positive (lam a m) = omega arith
height_positive (fix a m) = omega arith
height_positive (app f x) = omega arith
height_positive (pair a b) = omega arith
height_positive (proj s a) = omega arith
