-- Derivations of what a term comes to by value, with their number of rules, and that they and evaluation give the same results.
use Rattle.std.proofs.Common.{◌≡◌, ◌⊎◌, ℕ, zero, suc, ◌+◌, ◌<◌, ◌≤◌, Option, Some, None, refl, sym, ap}
use Rattle.std.proofs.Common.{◌∙◌, subst, inl, inr, arith}
use Rattle.std.proofs.lemmas.Bool.{cases_lt}
use Rattle.pcf_values.specs.declared.val.Val.{Val}
use Rattle.pcf_values.specs.declared.val.Val.TheVariants.{Number}
use Rattle.pcf_values.specs.Values.{val_succ, val_pred, val_op, at_zero}
use Rattle.pcf_values.specs.declared.operator.Operator.{Operator}
use Rattle.pcf_values.specs.Terms.{TyTree, TermTree, num, var, succ_of, pred_of, binary, ifz, lam, fix, app, pair, proj}
use Rattle.cbn_meaning.specs.Substitution.{subst_at}
use Rattle.cbn_meaning.specs.Meaning.{Res, value, closure, on_value, on_closure}
use Rattle.cbn_meaning.proofs.Depth.{from_value, from_closure}
use Rattle.cbv_terms.specs.ByValue.{quote, on_result, eval_by_value, MeansByValue}

from_some : (o : Option Res) (f : Res → Option Res) (r : Res) → on_result o f ≡ Some r → (w : Res) × (o ≡ Some w) ×
    (f w ≡ Some r)
from_some None f r h = cc
from_some (Some w) f r h = (w, refl, h)

-- more depth keeps a result
pub by_value_more : (d : ℕ) (m : TermTree) (r : Res) → eval_by_value d m ≡ Some r → eval_by_value (suc d) m ≡ Some r
by_value_more zero m r h = cc
by_value_more (suc d) (num n) r h = h
by_value_more (suc d) (var i) r h = cc
by_value_more (suc d) (succ_of a) r h =
    let (v, e, g) = from_value (eval_by_value d a) (λ v. Some (value (val_succ v))) r h in
    ap (λ o. on_value o (λ v. Some (value (val_succ v)))) (by_value_more d a (value v) e) ∙ g
by_value_more (suc d) (pred_of a) r h =
    let (v, e, g) = from_value (eval_by_value d a) (λ v. Some (value (val_pred v))) r h in
    ap (λ o. on_value o (λ v. Some (value (val_pred v)))) (by_value_more d a (value v) e) ∙ g
by_value_more (suc d) (binary o a b) r h =
    let (v, e, g) = from_value (eval_by_value d a) (λ v. on_value (eval_by_value d b) (λ w. Some (value (val_op o v w)))) r h in
    let (w, e', g') = from_value (eval_by_value d b) (λ w. Some (value (val_op o v w))) r g in
    ap (λ z. on_value z (λ v. on_value (eval_by_value (suc d) b) (λ w. Some (value (val_op o v w))))) (by_value_more d a (value v) e)
    ∙ ap (λ z. on_value z (λ w. Some (value (val_op o v w)))) (by_value_more d b (value w) e') ∙ g'
by_value_more (suc d) (ifz c p q) r h =
    let (v, e, g) = from_value (eval_by_value d c) (λ v. eval_by_value d (at_zero v p q)) r h in
    ap (λ o. on_value o (λ v. eval_by_value (suc d) (at_zero v p q))) (by_value_more d c (value v) e) ∙
    by_value_more d (at_zero v p q) r g
by_value_more (suc d) (lam a m) r h = h
by_value_more (suc d) (fix a (lam b m)) r h = h
by_value_more (suc d) (fix a _) r h = cc
by_value_more (suc d) (app f x) r h =
    let (a, m, e, g) = from_closure (eval_by_value d f)
    (λ m. on_result (eval_by_value d x) (λ w. eval_by_value d (subst_at m zero (quote w)))) r h in
    let (w, e', g') = from_some (eval_by_value d x) (λ w. eval_by_value d (subst_at m zero (quote w))) r g in
    ap (λ o. on_closure o (λ m. on_result (eval_by_value (suc d) x) (λ w. eval_by_value (suc d) (subst_at m zero (quote w)))))
    (by_value_more d f (closure a m) e)
    ∙ ap (λ o. on_result o (λ w. eval_by_value (suc d) (subst_at m zero (quote w)))) (by_value_more d x w e') ∙
    by_value_more d (subst_at m zero (quote w)) r g'
by_value_more (suc d) (pair m n) r h = cc
by_value_more (suc d) (proj s a) r h = cc

by_value_le : (e d : ℕ) (m : TermTree) (r : Res) → d ≤ e → eval_by_value d m ≡ Some r → eval_by_value e m ≡ Some r
by_value_le zero d m r l h = let e : d ≡ zero = omega arith in subst (λ d. eval_by_value d m ≡ Some r) e h
by_value_le (suc e) d m r l h = go (by_value_le e d m r) (cases_lt d (suc e))
  where
    go : (d ≤ e → eval_by_value d m ≡ Some r → eval_by_value e m ≡ Some r) → (d < suc e) ⊎ (suc e ≤ d) →
        eval_by_value (suc e) m ≡ Some r
    go ih (inl k) = by_value_more e m r (ih (omega arith) h)
    go ih (inr k) = let q : d ≡ suc e = omega arith in subst (λ d. eval_by_value d m ≡ Some r) q h

-- this many rules derive that the term comes to the result by value
pub data EvByValue : ℕ → TermTree → Res → Type 0 where
  by_num : {n : ℕ} → EvByValue 1 (num n) (value (Number n))
  by_lam : {a : TyTree} {m : TermTree} → EvByValue 1 (lam a m) (closure a m)
  by_succ : {s : ℕ} {a : TermTree} {v : Val} → EvByValue s a (value v) → EvByValue (suc s) (succ_of a) (value (val_succ v))
  by_pred : {s : ℕ} {a : TermTree} {v : Val} → EvByValue s a (value v) → EvByValue (suc s) (pred_of a) (value (val_pred v))
  by_binary : {s r : ℕ} {o : Operator} {a b : TermTree} {v w : Val} → EvByValue s a (value v) → EvByValue r b (value w) →
      EvByValue (suc (s + r)) (binary o a b) (value (val_op o v w))
  by_ifz : {s r : ℕ} {c p q : TermTree} {v : Val} {x : Res} → EvByValue s c (value v) → EvByValue r (at_zero v p q) x →
      EvByValue (suc (s + r)) (ifz c p q) x
  by_fix : {a b : TyTree} {m : TermTree} → EvByValue 1 (fix a (lam b m)) (closure b (subst_at m 1 (fix a (lam b m))))
  by_app : {s r k : ℕ} {f y : TermTree} {a : TyTree} {m : TermTree} {w x : Res} → EvByValue s f (closure a m) → EvByValue r y w →
      EvByValue k (subst_at m zero (quote w)) x → EvByValue (suc (s + r + k)) (app f y) x

pub by_succ_inv : {s : ℕ} {a : TermTree} {x : Res} → EvByValue s (succ_of a) x → (r : ℕ) × (v : Val) × EvByValue r a (value v) ×
    (s ≡ suc r) × (x ≡ value (val_succ v))
by_succ_inv (by_succ {s = r} {v = v} h) = (r, v, h, refl, refl)

pub by_pred_inv : {s : ℕ} {a : TermTree} {x : Res} → EvByValue s (pred_of a) x → (r : ℕ) × (v : Val) × EvByValue r a (value v) ×
    (s ≡ suc r) × (x ≡ value (val_pred v))
by_pred_inv (by_pred {s = r} {v = v} h) = (r, v, h, refl, refl)

pub by_binary_inv : {s : ℕ} {o : Operator} {a b : TermTree} {x : Res} → EvByValue s (binary o a b) x → (r k : ℕ) × (v w : Val) ×
    EvByValue r a (value v) × EvByValue k b (value w) × (s ≡ suc (r + k)) × (x ≡ value (val_op o v w))
by_binary_inv (by_binary {s = r} {r = k} {v = v} {w = w} h g) = (r, k, v, w, h, g, refl, refl)

pub by_ifz_inv : {s : ℕ} {c p q : TermTree} {x : Res} → EvByValue s (ifz c p q) x → (r k : ℕ) × (v : Val) ×
    EvByValue r c (value v) × EvByValue k (at_zero v p q) x × (s ≡ suc (r + k))
by_ifz_inv (by_ifz {s = r} {r = k} {v = v} h g) = (r, k, v, h, g, refl)

pub by_app_inv : {s : ℕ} {f y : TermTree} {x : Res} → EvByValue s (app f y) x → (r k j : ℕ) × (a : TyTree) × (m : TermTree) ×
    (w : Res) × EvByValue r f (closure a m) × EvByValue k y w × EvByValue j (subst_at m zero (quote w)) x × (s ≡ suc (r + k + j))
by_app_inv (by_app {s = r} {r = k} {k = j} {a = a} {m = m} {w = w} h g i) = (r, k, j, a, m, w, h, g, i, refl)

-- a derivation is a depth
pub derived_evaluates : {s : ℕ} {m : TermTree} {x : Res} → EvByValue s m x → eval_by_value s m ≡ Some x
derived_evaluates by_num = refl
derived_evaluates by_lam = refl
derived_evaluates (by_succ h) = rw (derived_evaluates h) refl
derived_evaluates (by_pred h) = rw (derived_evaluates h) refl
derived_evaluates (by_binary {s = s} {r = r} {a = a} {b = b} {v = v} {w = w} h g) =
    rw (
      by_value_le (s + r) s a (value v) (omega arith) (derived_evaluates h),
      by_value_le (s + r) r b (value w) (omega arith) (derived_evaluates g),
    ) refl
derived_evaluates (by_ifz {s = s} {r = r} {c = c} {p = p} {q = q} {v = v} {x = x} h g) =
    rw (by_value_le (s + r) s c (value v) (omega arith) (derived_evaluates h))
    (by_value_le (s + r) r (at_zero v p q) x (omega arith) (derived_evaluates g))
derived_evaluates by_fix = refl
derived_evaluates (by_app {s = s} {r = r} {k = k} {f = f} {y = y} {a = a} {m = m} {w = w} {x = x} h g i) =
    rw (
      by_value_le (s + r + k) s f (closure a m) (omega arith) (derived_evaluates h),
      by_value_le (s + r + k) r y w (omega arith) (derived_evaluates g),
    )
    (by_value_le (s + r + k) k (subst_at m zero (quote w)) x (omega arith) (derived_evaluates i))

-- some derivation has this result
abbrev pub HasEvByValue : TermTree → Res → Type 0
HasEvByValue m x = (s : ℕ) × EvByValue s m x

-- and a depth is a derivation
pub evaluates_derived : (d : ℕ) (m : TermTree) (x : Res) → eval_by_value d m ≡ Some x → HasEvByValue m x
evaluates_derived zero m x h = cc
evaluates_derived (suc d) (num n) x h = let e : value (Number n) ≡ x = cc in subst (HasEvByValue (num n)) e (1, by_num)
evaluates_derived (suc d) (var i) x h = cc
evaluates_derived (suc d) (succ_of a) x h =
    let (v, e, g) = from_value (eval_by_value d a) (λ v. Some (value (val_succ v))) x h in
    let (s, i) = evaluates_derived d a (value v) e in
    let q : value (val_succ v) ≡ x = cc in
    subst (HasEvByValue (succ_of a)) q (suc s, by_succ i)
evaluates_derived (suc d) (pred_of a) x h =
    let (v, e, g) = from_value (eval_by_value d a) (λ v. Some (value (val_pred v))) x h in
    let (s, i) = evaluates_derived d a (value v) e in
    let q : value (val_pred v) ≡ x = cc in
    subst (HasEvByValue (pred_of a)) q (suc s, by_pred i)
evaluates_derived (suc d) (binary o a b) x h =
    let (v, e, g) = from_value (eval_by_value d a) (λ v. on_value (eval_by_value d b) (λ w. Some (value (val_op o v w)))) x h in
    let (w, e', g') = from_value (eval_by_value d b) (λ w. Some (value (val_op o v w))) x g in
    let (s, i) = evaluates_derived d a (value v) e in
    let (r, j) = evaluates_derived d b (value w) e' in
    let q : value (val_op o v w) ≡ x = cc in
    subst (HasEvByValue (binary o a b)) q (suc (s + r), by_binary i j)
evaluates_derived (suc d) (ifz c p q) x h =
    let (v, e, g) = from_value (eval_by_value d c) (λ v. eval_by_value d (at_zero v p q)) x h in
    let (s, i) = evaluates_derived d c (value v) e in
    let (r, j) = evaluates_derived d (at_zero v p q) x g in
    (suc (s + r), by_ifz i j)
evaluates_derived (suc d) (lam a m) x h = let e : closure a m ≡ x = cc in subst (HasEvByValue (lam a m)) e (1, by_lam)
evaluates_derived (suc d) (fix a (lam b m)) x h = let e : closure b (subst_at m 1 (fix a (lam b m))) ≡ x = cc in
    subst (HasEvByValue (fix a (lam b m))) e (1, by_fix)
evaluates_derived (suc d) (fix a _) x h = cc
evaluates_derived (suc d) (app f y) x h =
    let (a, m, e, g) = from_closure (eval_by_value d f)
    (λ m. on_result (eval_by_value d y) (λ w. eval_by_value d (subst_at m zero (quote w)))) x h in
    let (w, e', g') = from_some (eval_by_value d y) (λ w. eval_by_value d (subst_at m zero (quote w))) x g in
    let (s, i) = evaluates_derived d f (closure a m) e in
    let (r, j) = evaluates_derived d y w e' in
    let (k, l) = evaluates_derived d (subst_at m zero (quote w)) x g' in
    (suc (s + r + k), by_app i j l)
evaluates_derived (suc d) (pair m n) x h = cc
evaluates_derived (suc d) (proj k a) x h = cc

-- a term has one result_type
pub one_result : {i j : ℕ} {m : TermTree} {v w : Res} → EvByValue i m v → EvByValue j m w → v ≡ w
one_result {i = i} {j = j} {m = m} {v = v} {w = w} h g =
    let a = by_value_le (i + j) i m v (omega arith) (derived_evaluates h) in
    let b = by_value_le (i + j) j m w (omega arith) (derived_evaluates g) in
    let z : Some v ≡ Some w = sym a ∙ b in cc

pub one_value : (m : TermTree) (v w : Val) → MeansByValue m v → MeansByValue m w → v ≡ w
one_value m v w (d, h) (e, g) =
    let (i, a) = evaluates_derived d m (value v) h in
    let (j, b) = evaluates_derived e m (value w) g in
    let z : value v ≡ value w = one_result a b in cc
