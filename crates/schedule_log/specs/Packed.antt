-- A word that has two numbers in it, the lower one in 24 bits.
use Rattle.std.proofs.Common.{◌≡◌, ℕ, ◌+◌, ◌*◌, ◌/◌, ◌%◌, arith}

-- a word is its upper number and its lower number, put together
pub whole : (n : ℕ) → n / 16777216 * 16777216 + n % 16777216 ≡ n
whole n = omega arith
