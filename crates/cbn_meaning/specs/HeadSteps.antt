-- A step at the head of a term: what laws say of the meaning, which itself takes no steps.
use Rattle.std.specs.Prelude.{◌≡◌, zero}
use Rattle.pcf_values.specs.Terms.{at_side, TermTree, succ_of, pred_of, binary, ifz, lam, fix, app, pair, proj}
use Rattle.cbn_meaning.specs.Substitution.{subst_at}

-- n is m after the substitution at its head, or after taking a part of the pair there
-- The head is where evaluation begins: the function of an application, the pair of a projection, the operand of `succ` and `pred`,
-- the left operand of an operator, the condition of `ifz`.
abbrev pub Head : TermTree → TermTree → Type 0
Head (fix a m) n = n ≡ subst_at m zero (fix a m)
Head (app (lam a m) x) n = n ≡ subst_at m zero x
Head (app f x) n = (g : TermTree) × Head f g × (n ≡ app g x)
Head (proj s (pair a b)) n = n ≡ at_side s a b
Head (proj s a) n = (b : TermTree) × Head a b × (n ≡ proj s b)
Head (succ_of a) n = (b : TermTree) × Head a b × (n ≡ succ_of b)
Head (pred_of a) n = (b : TermTree) × Head a b × (n ≡ pred_of b)
Head (binary o a b) n = (c : TermTree) × Head a c × (n ≡ binary o c b)
Head (ifz c p q) n = (b : TermTree) × Head c b × (n ≡ ifz b p q)
Head _ n = ⊥
