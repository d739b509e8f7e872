-- Texts that were appended one by one.
use Rattle.std.proofs.Common.{◌≡◌, ◌∙◌, ◌++◌, ℕ, List, ap, append_assoc}

-- three of them
pub appended : (t u v w a b c : List ℕ) → u ≡ t ++ a → v ≡ u ++ b → w ≡ v ++ c → w ≡ t ++ (a ++ (b ++ c))
appended t u v w a b c d e f =
    f ∙ ap (λ x. x ++ c) (e ∙ ap (λ x. x ++ b) d) ∙ append_assoc (t ++ a) b c ∙ append_assoc t a (b ++ c)
