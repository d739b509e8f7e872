-- The sizes that follow from counts: numbers, so that no function of the tool has to be believed.
use Rattle.std.specs.Prelude.{ℕ, zero, suc, ◌^◌, true, false, nat_le}

-- the first c, of so many from c on, with n at most 2 to the power of c
abbrev pub bits_from : ℕ → ℕ → ℕ → ℕ
bits_from zero c n = c
bits_from (suc k) c n = elim (nat_le n (2 ^ c)) [ true ↦ c | false ↦ bits_from k (suc c) n ]

-- how many bits tell n things apart
abbrev pub bits_for : ℕ → ℕ
bits_for n = bits_from n 0 n
