-- What each derivation was made of, and that derivations and evaluation give the same results.
use Rattle.std.proofs.Common.{◌≡◌, ℕ, zero, suc, ◌+◌, ◌<◌, Some, refl, subst, arith}
use Rattle.pcf_values.specs.declared.val.Val.{Val}
use Rattle.pcf_values.specs.declared.val.Val.TheVariants.{Number}
use Rattle.pcf_values.specs.Values.{val_succ, val_pred, val_op, at_zero}
use Rattle.pcf_values.specs.declared.operator.Operator.{Operator}
use Rattle.pcf_values.specs.Terms.{TyTree, at_side, TermTree, num, var, succ_of, pred_of, binary, ifz, lam, fix, app, pair, proj}
use Rattle.pcf_values.specs.declared.side.Side.{Side}
use Rattle.cbn_meaning.specs.Substitution.{subst_at}
use Rattle.cbn_meaning.specs.Meaning.{Res, value, closure, paired, eval, on_value}
use Rattle.cbn_meaning.specs.Derivations.{Ev, ev_num, ev_lam, ev_succ, ev_pred, ev_binary, ev_ifz, ev_fix, ev_app, ev_pair, ev_proj, HasEv}
use Rattle.cbn_meaning.proofs.Depth.{from_value, from_closure, from_pair, eval_le}

-- a derivation has at least one rule
pub ev_pos : {s : ℕ} {m : TermTree} {x : Res} → Ev s m x → 0 < s
ev_pos ev_num = omega arith
ev_pos ev_lam = omega arith
ev_pos (ev_succ h) = omega arith
ev_pos (ev_pred h) = omega arith
ev_pos (ev_binary h g) = omega arith
ev_pos (ev_ifz h g) = omega arith
ev_pos (ev_fix h) = omega arith
ev_pos (ev_app h g) = omega arith
ev_pos ev_pair = omega arith
ev_pos (ev_proj h g) = omega arith

pub num_inv : {s n : ℕ} {x : Res} → Ev s (num n) x → x ≡ value (Number n)
num_inv ev_num = refl

pub succ_inv : {s : ℕ} {a : TermTree} {x : Res} → Ev s (succ_of a) x → (r : ℕ) × (v : Val) × Ev r a (value v) × (s ≡ suc r) ×
    (x ≡ value (val_succ v))
succ_inv (ev_succ {s = r} {v = v} h) = (r, v, h, refl, refl)

pub pred_inv : {s : ℕ} {a : TermTree} {x : Res} → Ev s (pred_of a) x → (r : ℕ) × (v : Val) × Ev r a (value v) × (s ≡ suc r) ×
    (x ≡ value (val_pred v))
pred_inv (ev_pred {s = r} {v = v} h) = (r, v, h, refl, refl)

pub binary_inv : {s : ℕ} {o : Operator} {a b : TermTree} {x : Res} → Ev s (binary o a b) x → (r k : ℕ) × (v w : Val) ×
    Ev r a (value v) × Ev k b (value w) × (s ≡ suc (r + k)) × (x ≡ value (val_op o v w))
binary_inv (ev_binary {s = r} {r = k} {v = v} {w = w} h g) = (r, k, v, w, h, g, refl, refl)

pub ifz_inv : {s : ℕ} {c p q : TermTree} {x : Res} → Ev s (ifz c p q) x → (r k : ℕ) × (v : Val) × Ev r c (value v) ×
    Ev k (at_zero v p q) x × (s ≡ suc (r + k))
ifz_inv (ev_ifz {s = r} {r = k} {v = v} h g) = (r, k, v, h, g, refl)

pub fix_inv : {s : ℕ} {a : TyTree} {m : TermTree} {x : Res} → Ev s (fix a m) x → (r : ℕ) × Ev r (subst_at m zero (fix a m)) x ×
    (s ≡ suc r)
fix_inv (ev_fix {s = r} h) = (r, h, refl)

pub app_inv : {s : ℕ} {f y : TermTree} {x : Res} → Ev s (app f y) x → (r k : ℕ) × (a : TyTree) × (m : TermTree) ×
    Ev r f (closure a m) × Ev k (subst_at m zero y) x × (s ≡ suc (r + k))
app_inv (ev_app {s = r} {r = k} {a = a} {m = m} h g) = (r, k, a, m, h, g, refl)

pub lam_inv : {s : ℕ} {a b : TyTree} {m n : TermTree} → Ev s (lam a m) (closure b n) → m ≡ n
lam_inv ev_lam = refl

pub proj_inv : {s : ℕ} {d : Side} {a : TermTree} {x : Res} → Ev s (proj d a) x → (r k : ℕ) × (m n : TermTree) ×
    Ev r a (paired m n) × Ev k (at_side d m n) x × (s ≡ suc (r + k))
proj_inv (ev_proj {s = r} {r = k} {m = m} {n = n} h g) = (r, k, m, n, h, g, refl)

pub pair_inv : {s : ℕ} {a b m n : TermTree} → Ev s (pair a b) (paired m n) → (a ≡ m) × (b ≡ n)
pair_inv ev_pair = (refl, refl)

-- a derivation is a depth
pub ev_eval : {s : ℕ} {m : TermTree} {x : Res} → Ev s m x → eval s m ≡ Some x
ev_eval ev_num = refl
ev_eval ev_lam = refl
ev_eval (ev_succ h) = rw (ev_eval h) refl
ev_eval (ev_pred h) = rw (ev_eval h) refl
ev_eval (ev_binary {s = s} {r = r} {a = a} {b = b} {v = v} {w = w} h g) =
    rw (eval_le (s + r) s a (value v) (omega arith) (ev_eval h), eval_le (s + r) r b (value w) (omega arith) (ev_eval g)) refl
ev_eval (ev_ifz {s = s} {r = r} {c = c} {p = p} {q = q} {v = v} {x = x} h g) =
    rw (eval_le (s + r) s c (value v) (omega arith) (ev_eval h)) (eval_le (s + r) r (at_zero v p q) x (omega arith) (ev_eval g))
ev_eval (ev_fix h) = ev_eval h
ev_eval (ev_app {s = s} {r = r} {f = f} {y = y} {a = a} {m = m} {x = x} h g) =
    rw (eval_le (s + r) s f (closure a m) (omega arith) (ev_eval h)) (eval_le (s + r) r (subst_at m zero y) x (omega arith) (ev_eval g))
ev_eval ev_pair = refl
ev_eval (ev_proj {s = s} {r = r} {d = d} {a = a} {m = m} {n = n} {x = x} h g) =
    rw (eval_le (s + r) s a (paired m n) (omega arith) (ev_eval h)) (eval_le (s + r) r (at_side d m n) x (omega arith) (ev_eval g))

-- and a depth is a derivation
pub eval_ev : (d : ℕ) (m : TermTree) (x : Res) → eval d m ≡ Some x → HasEv m x
eval_ev zero m x h = cc
eval_ev (suc d) (num n) x h = let e : value (Number n) ≡ x = cc in subst (HasEv (num n)) e (1, ev_num)
eval_ev (suc d) (var i) x h = cc
eval_ev (suc d) (succ_of a) x h =
    let (v, e, g) = from_value (eval d a) (λ v. Some (value (val_succ v))) x h in
    let (s, i) = eval_ev d a (value v) e in
    let q : value (val_succ v) ≡ x = cc in
    subst (HasEv (succ_of a)) q (suc s, ev_succ i)
eval_ev (suc d) (pred_of a) x h =
    let (v, e, g) = from_value (eval d a) (λ v. Some (value (val_pred v))) x h in
    let (s, i) = eval_ev d a (value v) e in
    let q : value (val_pred v) ≡ x = cc in
    subst (HasEv (pred_of a)) q (suc s, ev_pred i)
eval_ev (suc d) (binary o a b) x h =
    let (v, e, g) = from_value (eval d a) (λ v. on_value (eval d b) (λ w. Some (value (val_op o v w)))) x h in
    let (w, e', g') = from_value (eval d b) (λ w. Some (value (val_op o v w))) x g in
    let (s, i) = eval_ev d a (value v) e in
    let (r, j) = eval_ev d b (value w) e' in
    let q : value (val_op o v w) ≡ x = cc in
    subst (HasEv (binary o a b)) q (suc (s + r), ev_binary i j)
eval_ev (suc d) (ifz c p q) x h =
    let (v, e, g) = from_value (eval d c) (λ v. eval d (at_zero v p q)) x h in
    let (s, i) = eval_ev d c (value v) e in
    let (r, j) = eval_ev d (at_zero v p q) x g in
    (suc (s + r), ev_ifz i j)
eval_ev (suc d) (lam a m) x h = let e : closure a m ≡ x = cc in subst (HasEv (lam a m)) e (1, ev_lam)
eval_ev (suc d) (fix a m) x h = let (s, i) = eval_ev d (subst_at m zero (fix a m)) x h in (suc s, ev_fix i)
eval_ev (suc d) (app f y) x h =
    let (a, m, e, g) = from_closure (eval d f) (λ m. eval d (subst_at m zero y)) x h in
    let (s, i) = eval_ev d f (closure a m) e in
    let (r, j) = eval_ev d (subst_at m zero y) x g in
    (suc (s + r), ev_app i j)
eval_ev (suc d) (pair m n) x h = let e : paired m n ≡ x = cc in subst (HasEv (pair m n)) e (1, ev_pair)
eval_ev (suc d) (proj k a) x h =
    let (m, n, e, g) = from_pair (eval d a) (λ m n. eval d (at_side k m n)) x h in
    let (s, i) = eval_ev d a (paired m n) e in
    let (r, j) = eval_ev d (at_side k m n) x g in
    (suc (s + r), ev_proj i j)
