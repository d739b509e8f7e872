-- Runs of the machine over what a phrase writes.
use Rattle.std.proofs.Common.{◌≡◌, ℕ, Bool, IsTrue, List, [], ◌∷◌, ◌++◌, sym, subst}
use Rattle.pcf_reader.specs.Tokens.{Token}
use Rattle.pcf_reader.specs.Grammar.{Written}
use Rattle.pcf_reader.specs.Machine.{State, Step, go, step}

-- the steps over these tokens, with their depths and counts, lead from one state to the other
abbrev pub Follows : State → List Written → State → Type 0
Follows s [] t = s ≡ t
Follows s (w ∷ ws) t = (u : State) × (step s w.at w.token ≡ go w.depth w.count u) × Follows u ws t

pub chain : (u v : List Written) (r s t : State) → Follows r u s → Follows s v t → Follows r (u ++ v) t
chain [] v r s t h k = subst (λ x. Follows x v t) (sym h) k
chain (w ∷ u) v r s t h k = (h.0, h.1, chain u v h.0 s t h.2 k)

-- the tokens lead to a state that goes on as g where what is behind ends the phrase
abbrev pub Ready : State → List Written → (ℕ → Token → Step) → (Token → Bool) → Type 0
Ready s ws g ends = (t : State) × Follows s ws t × ((at : ℕ) (x : Token) → IsTrue (ends x) → step t at x ≡ g at x)
