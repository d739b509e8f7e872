-- One depth more.
use Rattle.std.proofs.Common.{◌≡◌, ℕ, zero, suc, ◌-◌, refl, ap, arith}
use Rattle.demo_text.specs.Text.{doubled, sum_text}

-- the sum of a depth above zero is that of the depth below it, doubled
pub next_sum : (depth : ℕ) → (depth ≡ 0 → ⊥) → doubled (sum_text (depth - 1)) ≡ sum_text depth
next_sum zero above = absurd (above refl)
next_sum (suc depth) above = ap (λ d. doubled (sum_text d)) (omega arith)
