-- Numbers below the most that rows have.
use Rattle.std.proofs.Common.{◌<◌, ◌≤◌, ℕ, suc, ◌^◌, max, List, [], ◌∷◌, arith}
use Rattle.std.proofs.Math.Nat.{pow-le-pow_right}
use Rattle.circuit_module.specs.Sizes.{bits_for}
use Rattle.circuit_module.proofs.Sizes.{enough_bits}
use Rattle.joined_module.specs.Rows.{ModuleRow}
use Rattle.joined_module.specs.Fields.{bits_upto, most_by}
use Rattle.joined_found.specs.Found.{Each}
use Rattle.joined_found.proofs.Eaches.{each_map}

pub bits_fit : (m n : ℕ) → n ≤ m → n < 2 ^ bits_upto m
bits_fit m n l =
    let h : suc m ≤ 2 ^ bits_for (suc m) = enough_bits (suc m) in
    let up : 2 ^ bits_for (suc m) ≤ 2 ^ max 1 (bits_for (suc m)) = pow-le-pow_right (omega arith) (omega arith) in
    omega arith

pub bits_some : (m : ℕ) → 1 ≤ bits_upto m
bits_some m = omega arith

pub none_fits : (m : ℕ) → 0 < 2 ^ bits_upto m
none_fits m = bits_fit m 0 (omega arith)

-- each has at most the most
pub most_is : (f : ModuleRow → ℕ) (rows : List ModuleRow) → Each (λ r. f r ≤ most_by f rows) rows
most_is f [] = tt
most_is f (r ∷ rs) = (
  omega arith,
  each_map (λ s. f s ≤ most_by f rs) (λ s. f s ≤ max (f r) (most_by f rs)) (λ s l. omega arith) rs (most_is f rs),
)

pub most_fits : (f : ModuleRow → ℕ) (rows : List ModuleRow) → Each (λ r. f r < 2 ^ bits_upto (most_by f rows)) rows
most_fits f rows =
    each_map (λ r. f r ≤ most_by f rows) (λ r. f r < 2 ^ bits_upto (most_by f rows)) (λ r l. bits_fit (most_by f rows) (f r) l) rows
    (most_is f rows)
