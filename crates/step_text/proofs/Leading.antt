-- Texts in front of the part that is rewritten next.
use Rattle.std.proofs.Common.{◌≡◌, ℕ, List, ◌++◌, Option, Some, None, refl, ap, ◌∙◌, append_assoc}
use Rattle.pcf_values.specs.Named.{NamedTree}
use Rattle.term_steps.specs.Redex.{behind}

-- behind two texts
pub behind_both : (x y : List ℕ) (o : Option (List ℕ × NamedTree)) → behind (x ++ y) o ≡ behind x (behind y o)
behind_both x y None = refl
behind_both x y (Some r) = ap (λ z. Some (z, r.1)) (append_assoc x y r.0)

-- a text that was put behind another
pub moved : (old z mid : List ℕ) (o : Option (List ℕ × NamedTree)) → mid ≡ old ++ z → behind mid o ≡ behind old (behind z o)
moved old z mid o e = ap (λ x. behind x o) e ∙ behind_both old z o
