-- How many numbers a function takes, by its type.
use Rattle.std.proofs.Common.{◌≡◌, ◌≤◌, ◌-◌, ◌+◌, ℕ, zero, suc, refl, ap, arith}
use Rattle.pcf_values.specs.Terms.{TyTree, nat, arrow, product}
use Rattle.open_net_laws.specs.Applied.{numeric}

-- the arrows along the right of a type
abbrev pub arrow_count : TyTree → ℕ
arrow_count nat = zero
arrow_count (arrow A B) = suc (arrow_count B)
arrow_count (product A B) = zero

pub count_is : (n : ℕ) → arrow_count (numeric n) ≡ n
count_is zero = refl
count_is (suc n) = ap suc (count_is n)

-- one arrow, and those of the type behind it
pub one_arrow : (A B : TyTree) (most r : ℕ) → (most ≡ 0 → ⊥) → ((n : ℕ) → n ≤ most - 1 → B ≡ numeric n → r ≡ n) →
    (n : ℕ) → n ≤ most → arrow A B ≡ numeric n → 1 + r ≡ n
one_arrow A B most r few rest zero l e = cc
one_arrow A B most r few rest (suc n) l e =
    let q : r ≡ n = rest n (omega arith) (ap codomain_of e) in
    omega (arith, q)
  where
    codomain_of : TyTree → TyTree
    codomain_of nat = nat
    codomain_of (arrow A B) = B
    codomain_of (product A B) = nat

-- none, where the type isn't an arrow
pub no_arrow : (A : TyTree) → ((B C : TyTree) → A ≡ arrow B C → ⊥) → (n : ℕ) → A ≡ numeric n → 0 ≡ n
no_arrow A h zero e = refl
no_arrow A h (suc n) e = absurd (h nat (numeric n) e)
