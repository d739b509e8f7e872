-- More depth keeps a result.
use Rattle.std.proofs.Common.{◌≡◌, ◌⊎◌, ℕ, zero, suc, ◌≤◌, ◌<◌, Option, Some, None, refl, ap, ◌∙◌, subst, inl}
use Rattle.std.proofs.Common.{inr, arith}
use Rattle.std.proofs.lemmas.Bool.{cases_lt}
use Rattle.pcf_values.specs.declared.val.Val.{Val}
use Rattle.pcf_values.specs.Values.{val_succ, val_pred, val_op, at_zero}
use Rattle.pcf_values.specs.Terms.{TyTree, at_side, TermTree, num, var, succ_of, pred_of, binary, ifz, lam, fix, app, pair, proj}
use Rattle.cbn_meaning.specs.Substitution.{subst_at}
use Rattle.cbn_meaning.specs.Meaning.{Res, value, closure, paired, eval, on_value, on_closure, on_pair}

-- the part that gave a value
pub from_value : (o : Option Res) (f : Val → Option Res) (r : Res) → on_value o f ≡ Some r → (v : Val) × (o ≡ Some (value v)) ×
    (f v ≡ Some r)
from_value None f r h = cc
from_value (Some (value v)) f r h = (v, refl, h)
from_value (Some (closure a m)) f r h = cc
from_value (Some (paired m n)) f r h = cc

pub from_closure : (o : Option Res) (f : TermTree → Option Res) (r : Res) → on_closure o f ≡ Some r → (a : TyTree) ×
    (m : TermTree) × (o ≡ Some (closure a m)) × (f m ≡ Some r)
from_closure None f r h = cc
from_closure (Some (value v)) f r h = cc
from_closure (Some (closure a m)) f r h = (a, m, refl, h)
from_closure (Some (paired m n)) f r h = cc

pub from_pair : (o : Option Res) (f : TermTree → TermTree → Option Res) (r : Res) → on_pair o f ≡ Some r → (m n : TermTree) ×
    (o ≡ Some (paired m n)) × (f m n ≡ Some r)
from_pair None f r h = cc
from_pair (Some (value v)) f r h = cc
from_pair (Some (closure a m)) f r h = cc
from_pair (Some (paired m n)) f r h = (m, n, refl, h)

-- what a term comes to within a depth, it comes to within one more
pub eval_more : (d : ℕ) (m : TermTree) (r : Res) → eval d m ≡ Some r → eval (suc d) m ≡ Some r
eval_more zero m r h = cc
eval_more (suc d) (num n) r h = h
eval_more (suc d) (var i) r h = cc
eval_more (suc d) (succ_of a) r h =
    let (v, e, g) = from_value (eval d a) (λ v. Some (value (val_succ v))) r h in
    ap (λ o. on_value o (λ v. Some (value (val_succ v)))) (eval_more d a (value v) e) ∙ g
eval_more (suc d) (pred_of a) r h =
    let (v, e, g) = from_value (eval d a) (λ v. Some (value (val_pred v))) r h in
    ap (λ o. on_value o (λ v. Some (value (val_pred v)))) (eval_more d a (value v) e) ∙ g
eval_more (suc d) (binary o a b) r h =
    let (v, e, g) = from_value (eval d a) (λ v. on_value (eval d b) (λ w. Some (value (val_op o v w)))) r h in
    let (w, e', g') = from_value (eval d b) (λ w. Some (value (val_op o v w))) r g in
    ap (λ z. on_value z (λ v. on_value (eval (suc d) b) (λ w. Some (value (val_op o v w))))) (eval_more d a (value v) e)
    ∙ ap (λ z. on_value z (λ w. Some (value (val_op o v w)))) (eval_more d b (value w) e') ∙ g'
eval_more (suc d) (ifz c p q) r h =
    let (v, e, g) = from_value (eval d c) (λ v. eval d (at_zero v p q)) r h in
    ap (λ o. on_value o (λ v. eval (suc d) (at_zero v p q))) (eval_more d c (value v) e) ∙ eval_more d (at_zero v p q) r g
eval_more (suc d) (lam a m) r h = h
eval_more (suc d) (fix a m) r h = eval_more d (subst_at m zero (fix a m)) r h
eval_more (suc d) (app f x) r h =
    let (a, m, e, g) = from_closure (eval d f) (λ m. eval d (subst_at m zero x)) r h in
    ap (λ o. on_closure o (λ m. eval (suc d) (subst_at m zero x))) (eval_more d f (closure a m) e) ∙ eval_more d (subst_at m zero x) r g
eval_more (suc d) (pair m n) r h = h
eval_more (suc d) (proj s a) r h =
    let (m, n, e, g) = from_pair (eval d a) (λ m n. eval d (at_side s m n)) r h in
    ap (λ o. on_pair o (λ m n. eval (suc d) (at_side s m n))) (eval_more d a (paired m n) e) ∙ eval_more d (at_side s m n) r g

pub eval_le : (e d : ℕ) (m : TermTree) (r : Res) → d ≤ e → eval d m ≡ Some r → eval e m ≡ Some r
eval_le zero d m r l h = let e : d ≡ zero = omega arith in subst (λ d. eval d m ≡ Some r) e h
eval_le (suc e) d m r l h = go (eval_le e d m r) (cases_lt d (suc e))
  where
    go : (d ≤ e → eval d m ≡ Some r → eval e m ≡ Some r) → (d < suc e) ⊎ (suc e ≤ d) → eval (suc e) m ≡ Some r
    go ih (inl k) = eval_more e m r (ih (omega arith) h)
    go ih (inr k) = let q : d ≡ suc e = omega arith in subst (λ d. eval d m ≡ Some r) q h
