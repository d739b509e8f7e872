-- One part more behind the others.
use Rattle.std.proofs.Common.{◌≡◌, ◌∙◌, ◌++◌, ◌+◌, ℕ, suc, List, ap, append_assoc, arith}
use Rattle.circuit_calls.specs.Lines.{each}

-- a part behind a text that has those before it
pub next_part : (f : ℕ → List ℕ) (t u v : List ℕ) (i : ℕ) → u ≡ t ++ each f i → v ≡ u ++ f i → v ≡ t ++ each f (i + 1)
next_part f t u v i before more =
    let e : suc i ≡ i + 1 = omega arith in
    more ∙ ap (λ x. x ++ f i) before ∙ append_assoc t (each f i) (f i) ∙ ap (λ k. t ++ each f k) e
