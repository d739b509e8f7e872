-- Where the first power of 2 stands that is above a number.
use Rattle.std.proofs.Common.{◌≡◌, ◌∙◌, ◌≤◌, ◌<◌, ◌-◌, ◌+◌, ◌*◌, ◌^◌, ℕ, zero, suc, Bool, true, false, nat_le, refl, sym, ap, subst, arith}
use Rattle.std.specs.Prelude.{max}
use Rattle.std.proofs.Math.Nat.{pow-succ', pow-le-pow_right}
use Rattle.std.proofs.lemmas.Bool.{le-leb, lt-leb, leb-true, leb-false}
use Rattle.circuit_module.specs.Sizes.{bits_from, bits_for}
use Rattle.joined_module.specs.Fields.{bits_upto}

-- at a power that is large enough it is found
at_power : (k c n : ℕ) → n ≤ 2 ^ c → bits_from k c n ≡ c
at_power zero c n h = refl
at_power (suc k) c n h = ap (λ b. elim b [ true ↦ c | false ↦ bits_from k (suc c) n ]) (le-leb n (2 ^ c) h)

-- at one that is too small it is looked for further on
on_from : (k c n : ℕ) → 2 ^ c < n → bits_from (suc k) c n ≡ bits_from k (suc c) n
on_from k c n h = ap (λ b. elim b [ true ↦ c | false ↦ bits_from k (suc c) n ]) (lt-leb n (2 ^ c) h)

-- one place further on
further : (c n : ℕ) → c < 2 ^ c → 2 ^ c < n → bits_from (n - c) c n ≡ bits_from (n - suc c) (suc c) n
further c n b h =
    let e : n - c ≡ suc (n - suc c) = omega arith in
    ap (λ k. bits_from k c n) e ∙ on_from (n - suc c) c n h

-- a power below another has fewer bits
below_power : (b c : ℕ) → 2 ^ c < 2 ^ b → c < b
below_power b c less = go (nat_le b c) refl
  where
    go : (r : Bool) → nat_le b c ≡ r → c < b
    go false e = leb-false b c e
    go true e =
        let more = leb-true b c e in
        let up : 2 ^ b ≤ 2 ^ c = pow-le-pow_right (omega arith) {i = b} {j = c} more in
        absurd (omega (arith, up, less))

-- the next power
pub one_more : (m c p : ℕ) → m < 2 ^ 64 → p ≤ m → p ≡ 2 ^ c → c < p → bits_from (suc m - c) c (suc m) ≡ bits_for (suc m) →
    (2 * p ≡ 2 ^ (c + 1)) × (c + 1 < 2 * p) × (c + 1 ≤ 64) × (bits_from (suc m - (c + 1)) (c + 1) (suc m) ≡ bits_for (suc m))
one_more m c p few less at above so =
    let up : suc c ≡ c + 1 = omega arith in
    let least : p < suc m = omega arith in
    let next = further c (suc m) (subst (λ x. c < x) at above) (subst (λ x. x < suc m) at least) in
    let under : p < 2 ^ 64 = omega (arith, few, less) in
    let fewer = below_power 64 c (subst (λ x. x < 2 ^ 64) at under) in (
      ap (λ x. 2 * x) at ∙ sym (pow-succ' 2 c) ∙ ap (λ k. 2 ^ k) up,
      omega arith,
      omega (arith, fewer),
      subst (λ k. bits_from (suc m - k) k (suc m) ≡ bits_for (suc m)) up (sym next ∙ so),
    )

-- the power that is above
pub found_bits : (m c p : ℕ) → p ≡ 2 ^ c → m < p → bits_from (suc m - c) c (suc m) ≡ bits_for (suc m) → c ≡ bits_for (suc m)
found_bits m c p at above so =
    let least : suc m ≤ 2 ^ c = subst (λ x. suc m ≤ x) at above in
    sym (at_power (suc m - c) c (suc m) least) ∙ so
