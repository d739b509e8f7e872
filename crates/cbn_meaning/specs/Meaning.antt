-- The call-by-name meaning of a term, by substitution and with a bound on the depth.
-- It is a recursion that any reader can follow, with no net, token or stack, and it asks only for what it needs: an argument, a part
-- of a pair and a branch that isn't taken are never looked at. The depth bounds the recursion alone; `Means` forgets it.
-- Types play no part. A term that no rule fits, as a number that is applied, comes to nothing at any depth.
use Rattle.std.specs.Prelude.{◌≡◌, ℕ, zero, suc, Option, Some, None}
use Rattle.pcf_values.specs.declared.val.Val.{Val}
use Rattle.pcf_values.specs.declared.val.Val.TheVariants.{Number}
use Rattle.pcf_values.specs.Values.{val_succ, val_pred, val_op, at_zero}
use Rattle.pcf_values.specs.Terms.{TyTree, at_side, TermTree, num, var, succ_of, pred_of, binary, ifz, lam, fix, app, pair, proj}
use Rattle.cbn_meaning.specs.Substitution.{subst_at}

-- what a term comes to: a value, a `fun` or a pair
pub data Res : Type 0 where
  value : Val → Res
  closure : TyTree → TermTree → Res
  paired : TermTree → TermTree → Res

-- go on with the value, and with none where there is no value
abbrev pub on_value : Option Res → (Val → Option Res) → Option Res
on_value None f = None
on_value (Some (value v)) f = f v
on_value (Some (closure a m)) f = None
on_value (Some (paired m n)) f = None

-- go on with the body of the `fun`
abbrev pub on_closure : Option Res → (TermTree → Option Res) → Option Res
on_closure None f = None
on_closure (Some (value v)) f = None
on_closure (Some (closure a m)) f = f m
on_closure (Some (paired m n)) f = None

-- go on with the parts of the pair
abbrev pub on_pair : Option Res → (TermTree → TermTree → Option Res) → Option Res
on_pair None f = None
on_pair (Some (value v)) f = None
on_pair (Some (closure a m)) f = None
on_pair (Some (paired m n)) f = f m n

-- what the term comes to within this depth, or none
abbrev pub eval : ℕ → TermTree → Option Res
eval zero m = None
eval (suc d) (num n) = Some (value (Number n))
eval (suc d) (var i) = None
eval (suc d) (succ_of a) = on_value (eval d a) (λ v. Some (value (val_succ v)))
eval (suc d) (pred_of a) = on_value (eval d a) (λ v. Some (value (val_pred v)))
eval (suc d) (binary o a b) = on_value (eval d a) (λ v. on_value (eval d b) (λ w. Some (value (val_op o v w))))
eval (suc d) (ifz c p q) = on_value (eval d c) (λ v. eval d (at_zero v p q))
eval (suc d) (lam a m) = Some (closure a m)
eval (suc d) (fix a m) = eval d (subst_at m zero (fix a m))
eval (suc d) (app f x) = on_closure (eval d f) (λ m. eval d (subst_at m zero x))
eval (suc d) (pair m n) = Some (paired m n)
eval (suc d) (proj s a) = on_pair (eval d a) (λ m n. eval d (at_side s m n))

-- the term has this value
abbrev pub Means : TermTree → Val → Type 0
Means m v = (d : ℕ) × (eval d m ≡ Some (value v))
