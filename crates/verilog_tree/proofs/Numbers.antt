-- Numbers of so many bits.
use Rattle.std.proofs.Common.{◌≡◌, ℕ, ◌^◌, ◌<◌, ◌≤◌, Bool, true, false, List}
use Rattle.std.proofs.Common.{[], ◌∷◌, length, ap, ◌∙◌, arith, pow-suc}
use Rattle.std.proofs.Math.Nat.{pow-le-pow_right, mod-eq_of_lt}
use Rattle.verilog_tree.specs.Meaning.{flag, fit}
use Rattle.verilog_tree.specs.Bits.{number_of}

pub flag_le : (b : Bool) → flag b ≤ 1
flag_le true = omega arith
flag_le false = omega arith

pub number_low : (xs : List Bool) → number_of xs < 2 ^ length xs
number_low [] = omega arith
number_low (x ∷ xs) = let h = number_low xs in let f = flag_le x in let p = pow-suc 2 (length xs) in omega arith

-- a number that fits
pub fits : (w n : ℕ) → n < 2 ^ w → fit w n ≡ n
fits w n h = mod-eq_of_lt h

pub fits_twice : (w v n : ℕ) → n < 2 ^ w → w ≤ v → fit w (fit v n) ≡ n
fits_twice w v n h l =
    let up : 2 ^ w ≤ 2 ^ v = pow-le-pow_right (omega arith) l in
    ap (fit w) (fits v n (omega arith)) ∙ fits w n h
