-- Which terms have a translation, and which of them are accepted: what laws speak of. A program is refused by its faults.
use Rattle.std.specs.Prelude.{◌≡◌, ◌≤◌, false}
use Rattle.pcf_values.specs.Terms.{arrow, TermTree, num, var, succ_of, pred_of, binary, ifz, lam, fix, app, pair, proj, height}
use Rattle.cbv_terms.specs.declared.limit.TheConstants.{BY_VALUE_HEIGHT}
use Rattle.cbv_terms.specs.Translation.{has_product}

-- the term has a translation: it has no pairs, nor a binder of a product's type, and each `fix` is of a function's type and of a `fun`
abbrev pub HasTranslation : TermTree → Type 0
HasTranslation (num n) = Unit {0}
HasTranslation (var i) = Unit {0}
HasTranslation (succ_of a) = HasTranslation a
HasTranslation (pred_of a) = HasTranslation a
HasTranslation (binary o a b) = HasTranslation a × HasTranslation b
HasTranslation (ifz c p q) = HasTranslation c × HasTranslation p × HasTranslation q
HasTranslation (lam a m) = (has_product a ≡ false) × HasTranslation m
HasTranslation (fix (arrow a b) (lam c m)) = (has_product (arrow a b) ≡ false) × (has_product c ≡ false) × HasTranslation m
HasTranslation (fix _ _) = ⊥
HasTranslation (app f x) = HasTranslation f × HasTranslation x
HasTranslation (pair m n) = ⊥
HasTranslation (proj s a) = ⊥

-- the term is accepted by value: it has a translation, and it is no higher than the limit
abbrev pub Accepted : TermTree → Type 0
Accepted m = (height m ≤ BY_VALUE_HEIGHT) × HasTranslation m
