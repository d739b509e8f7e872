-- A term has one derivation's size and one result.
use Rattle.std.proofs.Common.{◌≡◌, ℕ, suc, ◌+◌, refl, sym, ap, ◌∙◌, subst, arith}
use Rattle.pcf_values.specs.declared.val.Val.{Val}
use Rattle.pcf_values.specs.declared.val.Val.TheVariants.{Number}
use Rattle.pcf_values.specs.Values.{val_succ, val_pred, val_op, at_zero}
use Rattle.pcf_values.specs.Terms.{TyTree, at_side, TermTree, num, lam, fix, pair}
use Rattle.cbn_meaning.specs.Substitution.{subst_at}
use Rattle.cbn_meaning.specs.Meaning.{Res, value, closure, paired}
use Rattle.cbn_meaning.specs.Derivations.{Ev, ev_num, ev_lam, ev_succ, ev_pred, ev_binary, ev_ifz, ev_fix, ev_app, ev_pair, ev_proj}
use Rattle.cbn_meaning.proofs.Derived.{succ_inv, pred_inv, binary_inv, ifz_inv, fix_inv, app_inv, proj_inv}

pub same_value : {v w : Val} → value v ≡ value w → v ≡ w
same_value e = cc

same_closure : {a b : TyTree} {m n : TermTree} → closure a m ≡ closure b n → m ≡ n
same_closure e = cc

same_first : {a b m n : TermTree} → paired a b ≡ paired m n → a ≡ m
same_first e = cc

same_second : {a b m n : TermTree} → paired a b ≡ paired m n → b ≡ n
same_second e = cc

num_same : {z n : ℕ} {q : Res} → Ev z (num n) q → (1 ≡ z) × (value (Number n) ≡ q)
num_same ev_num = (refl, refl)

lam_same : {z : ℕ} {a : TyTree} {m : TermTree} {q : Res} → Ev z (lam a m) q → (1 ≡ z) × (closure a m ≡ q)
lam_same ev_lam = (refl, refl)

pair_same : {z : ℕ} {m n : TermTree} {q : Res} → Ev z (pair m n) q → (1 ≡ z) × (paired m n ≡ q)
pair_same ev_pair = (refl, refl)

both_sizes : {s r i k z : ℕ} → s ≡ i → r ≡ k → z ≡ suc (i + k) → suc (s + r) ≡ z
both_sizes a b c = omega arith

-- two derivations for one term have the same size and the same result
pub ev_same : (s z : ℕ) (m : TermTree) (r q : Res) → Ev s m r → Ev z m q → (s ≡ z) × (r ≡ q)
ev_same _ z _ _ q ev_num h = num_same h
ev_same _ z _ _ q ev_lam h = lam_same h
ev_same _ z _ _ q (ev_succ {s = s} {a = a} {v = v} f) h =
    let (k, w, g, e, x) = succ_inv h in
    let (i, j) = ev_same s k a (value v) (value w) f g in
    (ap suc i ∙ sym e, ap (λ v. value (val_succ v)) (same_value j) ∙ sym x)
ev_same _ z _ _ q (ev_pred {s = s} {a = a} {v = v} f) h =
    let (k, w, g, e, x) = pred_inv h in
    let (i, j) = ev_same s k a (value v) (value w) f g in
    (ap suc i ∙ sym e, ap (λ v. value (val_pred v)) (same_value j) ∙ sym x)
ev_same _ z _ _ q (ev_binary {s = s} {r = r} {o = o} {a = a} {b = b} {v = v} {w = w} f f') h =
    let (k, l, v', w', g, g', e, x) = binary_inv h in
    let (i, j) = ev_same s k a (value v) (value v') f g in
    let (i', j') = ev_same r l b (value w) (value w') f' g' in
    (both_sizes i i' e, ap (λ v. value (val_op o v w)) (same_value j) ∙ ap (λ w. value (val_op o v' w)) (same_value j') ∙ sym x)
ev_same _ z _ _ q (ev_ifz {s = s} {r = r} {c = c} {p = a} {q = b} {v = v} {x = x} f f') h =
    let (k, l, w, g, g', e) = ifz_inv h in
    let (i, j) = ev_same s k c (value v) (value w) f g in
    let (i', j') = ev_same r l (at_zero v a b) x q f' (subst (λ v. Ev l (at_zero v a b) q) (sym (same_value j)) g') in
    (both_sizes i i' e, j')
ev_same _ z _ _ q (ev_fix {s = s} {a = a} {m = m} {x = x} f) h =
    let (k, g, e) = fix_inv h in
    let (i, j) = ev_same s k (subst_at m 0 (fix a m)) x q f g in
    (ap suc i ∙ sym e, j)
ev_same _ z _ _ q (ev_app {s = s} {r = r} {f = t} {y = y} {a = a} {m = m} {x = x} f f') h =
    let (k, l, b, n, g, g', e) = app_inv h in
    let (i, j) = ev_same s k t (closure a m) (closure b n) f g in
    let (i', j') = ev_same r l (subst_at m 0 y) x q f' (subst (λ n. Ev l (subst_at n 0 y) q) (sym (same_closure j)) g') in
    (both_sizes i i' e, j')
ev_same _ z _ _ q ev_pair h = pair_same h
ev_same _ z _ _ q (ev_proj {s = s} {r = r} {d = d} {a = a} {m = m} {n = n} {x = x} f f') h =
    let (k, l, m', n', g, g', e) = proj_inv h in
    let (i, j) = ev_same s k a (paired m n) (paired m' n') f g in
    let (i', j') = ev_same r l (at_side d m n) x q f'
    (subst (λ n. Ev l (at_side d m n) q) (sym (same_second j)) (subst (λ m. Ev l (at_side d m n') q) (sym (same_first j)) g')) in
    (both_sizes i i' e, j')
