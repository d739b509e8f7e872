-- The views: which tree each type, term and named term of the code stands for. Contracts speak of the code's trees through these,
-- since equality of the code's own values would compare where their boxes lie.
use Rattle.std.specs.Prelude.{ℕ}
use Rattle.pcf_values.specs.declared.ty.Ty.{Ty}
use Rattle.pcf_values.specs.declared.ty.Ty.TheVariants.{Nat, Arrow', Product'}
use Rattle.pcf_values.specs.declared.term.Term.{Term}
use Rattle.pcf_values.specs.declared.term.Term.TheVariants as term
use Rattle.pcf_values.specs.declared.named.Named.{Named}
use Rattle.pcf_values.specs.declared.named.Raw.{Raw}
use Rattle.pcf_values.specs.declared.named.Raw.TheVariants as raw
use Rattle.pcf_values.specs.Terms.{TyTree, nat, arrow, product, TermTree, num, var, succ_of, pred_of, binary, ifz}
use Rattle.pcf_values.specs.Terms.{lam, fix, app, pair, proj}
use Rattle.pcf_values.specs.Named.{the_succ, the_pred, the_part, the_fun, the_fix, NamedTree, number_at, name_at, word_at}
use Rattle.pcf_values.specs.Named.{binary_at, pair_at, ifz_at, bind_at, apply_at}

abbrev pub ty_of : Ty → TyTree
ty_of Nat = nat
ty_of (Arrow' p a q b) = arrow (ty_of a) (ty_of b)
ty_of (Product' p a q b) = product (ty_of a) (ty_of b)

abbrev pub term_of : Term → TermTree
term_of (term.Number n) = num n
term_of (term.Var i) = var i
term_of (term.Succ' p a) = succ_of (term_of a)
term_of (term.Pred' p a) = pred_of (term_of a)
term_of (term.Binary' o p a q b) = binary o (term_of a) (term_of b)
term_of (term.Ifz' p c q t r e) = ifz (term_of c) (term_of t) (term_of e)
term_of (term.Fun' A p m) = lam (ty_of A) (term_of m)
term_of (term.Fix' A p m) = fix (ty_of A) (term_of m)
term_of (term.App' p f q a) = app (term_of f) (term_of a)
term_of (term.Pair' p a q b) = pair (term_of a) (term_of b)
term_of (term.Proj' s p a) = proj s (term_of a)

-- the tree of a node at a place
abbrev pub raw_of : Raw → ℕ → NamedTree
raw_of (raw.Number n) at = number_at at n
raw_of (raw.Name x) at = name_at at x
raw_of (raw.Succ' p i a) at = word_at at the_succ (raw_of a i)
raw_of (raw.Pred' p i a) at = word_at at the_pred (raw_of a i)
raw_of (raw.Binary' o p i a q j b) at = binary_at at o (raw_of a i) (raw_of b j)
raw_of (raw.Ifz' p i c q j a r k b) at = ifz_at at (raw_of c i) (raw_of a j) (raw_of b k)
raw_of (raw.Fun' x t p i m) at = bind_at at the_fun x (ty_of t) (raw_of m i)
raw_of (raw.Fix' x t p i m) at = bind_at at the_fix x (ty_of t) (raw_of m i)
raw_of (raw.App' p i f q j a) at = apply_at at (raw_of f i) (raw_of a j)
raw_of (raw.Pair' p i a q j b) at = pair_at at (raw_of a i) (raw_of b j)
raw_of (raw.Proj' s p i a) at = word_at at (the_part s) (raw_of a i)

abbrev pub named_of : Named → NamedTree
named_of n = raw_of n.raw n.at
