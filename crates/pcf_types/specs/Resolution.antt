-- Which term a tree with names stands for, in the subject's own words: a binder binds the name in its body, and where several do, the
-- nearest one. The relation knows no type and no fault. It is the other half of what the checker is measured by, beside the typing
-- relation.
use Rattle.std.specs.Prelude.{◌≡◌, ◌≢◌, ◌<◌, ℕ, List, ◌∷◌, Some, slice_get}
use Rattle.pcf_values.specs.Terms.{TyTree, TermTree, num, var, succ_of, pred_of, binary, ifz, lam, fix, app, pair, proj}
use Rattle.pcf_values.specs.Named.{Word, the_succ, the_pred, the_part, Binder, the_fun, the_fix, NamedTree, number_at, name_at}
use Rattle.pcf_values.specs.Named.{word_at, binary_at, pair_at, ifz_at, bind_at, apply_at}

-- the binder of index i binds the name, and no nearer one does; the names of the binders come the nearest first
abbrev pub Binds : List (List ℕ) → List ℕ → ℕ → Type 0
Binds s x i = (slice_get s i ≡ Some x) × ((j : ℕ) → j < i → slice_get s j ≢ Some x)

-- the term that a word makes of an operand
abbrev pub word_term : Word → TermTree → TermTree
word_term the_succ m = succ_of m
word_term the_pred m = pred_of m
word_term (the_part s) m = proj s m

-- the term that a binder with its type makes of a body
abbrev pub binder_term : Binder → TyTree → TermTree → TermTree
binder_term the_fun a m = lam a m
binder_term the_fix a m = fix a m

-- under binders of these names, the tree stands for the term
abbrev pub Resolves : List (List ℕ) → NamedTree → TermTree → Type 0
Resolves s (number_at at n) m = m ≡ num n
Resolves s (name_at at x) m = (i : ℕ) × Binds s x i × (m ≡ var i)
Resolves s (word_at at w a) m = (b : TermTree) × Resolves s a b × (m ≡ word_term w b)
Resolves s (binary_at at o a b) m = (c d : TermTree) × Resolves s a c × Resolves s b d × (m ≡ binary o c d)
Resolves s (pair_at at a b) m = (c d : TermTree) × Resolves s a c × Resolves s b d × (m ≡ pair c d)
Resolves s (ifz_at at c p q) m = (d e f : TermTree) × Resolves s c d × Resolves s p e × Resolves s q f × (m ≡ ifz d e f)
Resolves s (bind_at at b x a t) m = (n : TermTree) × Resolves (x ∷ s) t n × (m ≡ binder_term b a n)
Resolves s (apply_at at f a) m = (g b : TermTree) × Resolves s f g × Resolves s a b × (m ≡ app g b)
