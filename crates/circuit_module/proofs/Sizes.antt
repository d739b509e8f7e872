-- Enough bits: how many tell so many things apart, and what fits them.
use Rattle.std.proofs.Common.{◌≡◌, ℕ, zero, suc, ◌+◌, ◌^◌, ◌<◌, ◌≤◌, Bool, true, false, refl, arith, nat_le, pow-suc}
use Rattle.std.proofs.Common.{◌⊎◌, inl, inr}
use Rattle.std.proofs.lemmas.Bool.{leb-true, leb-false, cases_lt}
use Rattle.std.proofs.Math.Nat.{pow-le-pow_right}
use Rattle.circuit_module.specs.Sizes.{bits_from, bits_for}

below_power : (n : ℕ) → n < 2 ^ n
below_power zero = omega arith
below_power (suc n) = let h = below_power n in let p = pow-suc 2 n in omega arith

-- the power that is found is enough
enough_from : (k c n : ℕ) → n ≤ 2 ^ (c + k) → n ≤ 2 ^ bits_from k c n
enough_from zero c n h = let e : c + 0 ≡ c = omega arith in rw e at h
enough_from (suc k) c n h =
    go (nat_le n (2 ^ c)) refl (enough_from k (suc c) n (let z : c + suc k ≡ suc c + k = omega arith in rw z at h))
  where
    go : (b : Bool) → nat_le n (2 ^ c) ≡ b → n ≤ 2 ^ bits_from k (suc c) n →
        n ≤ 2 ^ (elim b [ true ↦ c | false ↦ bits_from k (suc c) n ])
    go true e ih = leb-true n (2 ^ c) e
    go false e ih = ih

-- so many things have a number each in that many bits
pub enough_bits : (n : ℕ) → n ≤ 2 ^ bits_for n
enough_bits n = enough_from n 0 n (let z : 0 + n ≡ n = omega arith in let l = below_power n in rw z (omega arith))

-- the first power that is enough is no higher than another that is
few_from : (k c n w : ℕ) → n ≤ 2 ^ w → c ≤ w → bits_from k c n ≤ w
few_from zero c n w h l = l
few_from (suc k) c n w h l = go (nat_le n (2 ^ c)) refl (few_from k (suc c) n w h)
  where
    go : (b : Bool) → nat_le n (2 ^ c) ≡ b → (suc c ≤ w → bits_from k (suc c) n ≤ w) →
        (elim b [ true ↦ c | false ↦ bits_from k (suc c) n ]) ≤ w
    go true e ih = l
    go false e ih = ih (further (cases_lt c w))
      where
        further : (c < w) ⊎ (w ≤ c) → suc c ≤ w
        further (inl a) = a
        further (inr a) =
            let above = leb-false n (2 ^ c) e in let up : 2 ^ w ≤ 2 ^ c = pow-le-pow_right (omega arith) a in absurd (omega arith)

-- and no more bits than are enough
pub few_bits : (n w : ℕ) → n ≤ 2 ^ w → bits_for n ≤ w
few_bits n w h = few_from n 0 n w h (omega arith)
