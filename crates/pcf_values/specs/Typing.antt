-- The typing of terms, as a relation between a context, a term and a type.
-- It goes by recursion on the term; the context lists the types of the free variables, the nearest binder first, so that a variable's
-- type stands in the context at its index. A number is a term only where it is a value, that is below 2 ^ 64.
use Rattle.std.specs.Prelude.{◌≡◌, ◌^◌, ◌<◌, List, ◌∷◌, Some, slice_get}
use Rattle.pcf_values.specs.Terms.{TyTree, nat, arrow, product, at_side, TermTree, num, var, succ_of, pred_of, binary, ifz, lam, fix, app}
use Rattle.pcf_values.specs.Terms.{pair, proj}

-- in the context g, the term has the type t
abbrev pub HasType : List TyTree → TermTree → TyTree → Type 0
HasType g (num n) t = (n < 2 ^ 64) × (t ≡ nat)
HasType g (var i) t = slice_get g i ≡ Some t
HasType g (succ_of a) t = HasType g a nat × (t ≡ nat)
HasType g (pred_of a) t = HasType g a nat × (t ≡ nat)
HasType g (binary o a b) t = HasType g a nat × HasType g b nat × (t ≡ nat)
HasType g (ifz c p q) t = HasType g c nat × HasType g p nat × HasType g q nat × (t ≡ nat)
HasType g (lam a m) t = (b : TyTree) × HasType (a ∷ g) m b × (t ≡ arrow a b)
HasType g (fix a m) t = HasType (a ∷ g) m a × (t ≡ a)
HasType g (app f x) t = (a : TyTree) × HasType g f (arrow a t) × HasType g x a
HasType g (pair m n) t = (a : TyTree) × (b : TyTree) × HasType g m a × HasType g n b × (t ≡ product a b)
HasType g (proj s m) t = (a : TyTree) × (b : TyTree) × HasType g m (product a b) × (t ≡ at_side s a b)
