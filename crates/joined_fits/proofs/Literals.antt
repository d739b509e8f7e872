-- Numbers of 64 bits.
use Rattle.std.proofs.Common.{◌≡◌, ◌≤◌, ◌<◌, ◌^◌, ℕ, true, arith}
use Rattle.std.specs.Prelude.{nat_lt}
use Rattle.std.proofs.Math.Nat.{pow-le-pow_right}
use Rattle.std.proofs.lemmas.Bool.{lt-ltb}

-- a number of 64 bits is below 2 ^ 64
pub literal_within : (n : ℕ) → n < 2 ^ 64 → nat_lt n (2 ^ 64) ≡ true
literal_within n h = lt-ltb n (2 ^ 64) h

-- and below each greater power
pub any_within : (n b : ℕ) → n < 2 ^ 64 → 64 ≤ b → nat_lt n (2 ^ b) ≡ true
any_within n b h wide =
    let up : 2 ^ 64 ≤ 2 ^ b = pow-le-pow_right (omega arith) {i = 64} {j = b} wide in
    lt-ltb n (2 ^ b) (omega (arith, h, up))
