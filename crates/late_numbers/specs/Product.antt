-- A product by a bit of its right operand after another, the lowest first, until no 1 is left.
-- The left operand is doubled at each bit, in 64 bits, and it is known whether a bit of it was lost. What the bits that were 1 wanted is
-- added up in 64 bits too, and it is known whether that was more than they have.
use Rattle.std.specs.Prelude.{ℕ, zero, suc, ◌+◌, ◌*◌, ◌/◌, ◌%◌, ◌^◌, ◌<◌, ◌≡◌, Bool, false, ◌&&◌, ◌||◌, nat_eq, nat_le}
use Rattle.std.specs.Prelude.{if◌then◌else◌}
use Rattle.verilog_tree.specs.Meaning.{Store, flag}

-- the bits that are left; the left operand, doubled; the sum so far; whether the left operand has lost a bit; and whether the sum has
pub record Product : Type 0 where
  pub rest : ℕ
  pub factor : ℕ
  pub total : ℕ
  pub lost : Bool
  pub beyond : Bool

-- of a and b, before the first bit
abbrev pub begun : (a b : ℕ) → Product
begun a b = record { rest = b; factor = a; total = 0; lost = false; beyond = false }

-- the bit is 1
abbrev pub odd : Product → Bool
odd s = nat_eq (s.rest % 2) 1

-- the sum has more than 64 bits, where the bit is 1
abbrev pub runs_over : Product → Bool
runs_over s = s.lost || nat_le (2 ^ 64) (s.total + s.factor)

-- a bit
abbrev pub bit_done : Product → Product
bit_done s = record {
  rest = s.rest / 2;
  factor = s.factor * 2 % 2 ^ 64;
  total = if odd s then (s.total + s.factor) % 2 ^ 64 else s.total;
  lost = s.lost || nat_le (2 ^ 63) s.factor;
  beyond = s.beyond || (odd s && runs_over s);
}

-- so many bits
abbrev pub bits_done : ℕ → Product → Product
bits_done zero s = s
bits_done (suc k) s = bits_done k (bit_done s)

-- its numbers have 64 bits each
pub record Narrow (s : Product) : Type 0 where
  pub rest : s.rest < 2 ^ 64
  pub factor : s.factor < 2 ^ 64
  pub total : s.total < 2 ^ 64

-- the registers stand for a product
pub record IsProduct (S : Store) (s : Product) : Type 0 where
  pub rest : S.vec "rest" ≡ s.rest
  pub factor : S.vec "factor" ≡ s.factor
  pub total : S.vec "total" ≡ s.total
  pub lost : S.vec "lost" ≡ flag s.lost
  pub beyond : S.vec "beyond" ≡ flag s.beyond
