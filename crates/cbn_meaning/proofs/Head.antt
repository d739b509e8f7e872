-- Head steps of a term, and that a term has one value.
use Rattle.std.proofs.Common.{◌≡◌, ◌↔◌, zero, suc, ◌+◌, Some, sym, ◌∙◌, subst, arith}
use Rattle.pcf_values.specs.declared.val.Val.{Val}
use Rattle.pcf_values.specs.declared.operator.Operator.{Operator}
use Rattle.pcf_values.specs.Terms.{TyTree, at_side, TermTree, succ_of, pred_of, binary, ifz, lam, fix, app, pair, proj}
use Rattle.pcf_values.specs.declared.side.Side.{Side}
use Rattle.cbn_meaning.specs.Substitution.{subst_at}
use Rattle.cbn_meaning.specs.Meaning.{value, closure, paired, Means}
use Rattle.cbn_meaning.specs.HeadSteps.{Head}
use Rattle.cbn_meaning.specs.Derivations.{Ev, ev_succ, ev_pred, ev_binary, ev_ifz, ev_lam, ev_fix, ev_app, ev_pair, ev_proj, HasEv, Steps}
use Rattle.cbn_meaning.proofs.Depth.{eval_le}
use Rattle.cbn_meaning.proofs.Derived.{succ_inv, pred_inv, binary_inv, ifz_inv, fix_inv, app_inv, lam_inv, proj_inv, pair_inv, ev_eval}
use Rattle.cbn_meaning.proofs.Derived.{eval_ev}

-- a function's body is what its application comes to
pub beta : (a : TyTree) (m x : TermTree) → Steps (app (lam a m) x) (subst_at m zero x)
beta a m x = record {
  forth = λ s r h. (suc (1 + s), ev_app ev_lam h);
  back = λ s r h.
      let (i, k, b, n, f, g, q) = app_inv h in
      let e : m ≡ n = lam_inv f in
      (k, omega arith, subst (λ n. Ev k (subst_at n zero x) r) (sym e) g);
}

pub unfold_fix : (a : TyTree) (m : TermTree) → Steps (fix a m) (subst_at m zero (fix a m))
unfold_fix a m = record {
  forth = λ s r h. (suc s, ev_fix h);
  back = λ s r h. let (k, g, q) = fix_inv h in (k, omega arith, g);
}

-- a part of a pair is what taking it comes to
pub take_part : (d : Side) (m n : TermTree) → Steps (proj d (pair m n)) (at_side d m n)
take_part d m n = record {
  forth = λ s r h. (suc (1 + s), ev_proj ev_pair h);
  back = λ s r h.
      let (i, k, a, b, f, g, q) = proj_inv h in
      let (x, y) = pair_inv f in
      (k, omega arith, subst (λ b. Ev k (at_side d m b) r) (sym y) (subst (λ a. Ev k (at_side d a b) r) (sym x) g));
}

-- a step at the head is one of the term
pub app_steps : (m m' n : TermTree) → Steps m m' → Steps (app m n) (app m' n)
app_steps m m' n h = record {
  forth = λ s r e. let (i, k, a, b, f, g, _) = app_inv e in let (z, f') = h.forth i (closure a b) f in (suc (z + k), ev_app f' g);
  back = λ s r e. let (i, k, a, b, f, g, q) = app_inv e in let (z, l, f') = h.back i (closure a b) f in
      (suc (z + k), omega arith, ev_app f' g);
}

pub proj_steps : (d : Side) (m m' : TermTree) → Steps m m' → Steps (proj d m) (proj d m')
proj_steps d m m' h = record {
  forth = λ s r e. let (i, k, a, b, f, g, _) = proj_inv e in let (z, f') = h.forth i (paired a b) f in (suc (z + k), ev_proj f' g);
  back = λ s r e. let (i, k, a, b, f, g, q) = proj_inv e in let (z, l, f') = h.back i (paired a b) f in
      (suc (z + k), omega arith, ev_proj f' g);
}

pub succ_steps : (m m' : TermTree) → Steps m m' → Steps (succ_of m) (succ_of m')
succ_steps m m' h = record {
  forth = λ s r e. let (i, v, f, _, x) = succ_inv e in let (z, f') = h.forth i (value v) f in
      subst (HasEv (succ_of m)) (sym x) (suc z, ev_succ f');
  back = λ s r e. let (i, v, f, q, x) = succ_inv e in let (z, l, f') = h.back i (value v) f in
      (suc z, omega arith, subst (Ev (suc z) (succ_of m')) (sym x) (ev_succ f'));
}

pub pred_steps : (m m' : TermTree) → Steps m m' → Steps (pred_of m) (pred_of m')
pred_steps m m' h = record {
  forth = λ s r e. let (i, v, f, _, x) = pred_inv e in let (z, f') = h.forth i (value v) f in
      subst (HasEv (pred_of m)) (sym x) (suc z, ev_pred f');
  back = λ s r e. let (i, v, f, q, x) = pred_inv e in let (z, l, f') = h.back i (value v) f in
      (suc z, omega arith, subst (Ev (suc z) (pred_of m')) (sym x) (ev_pred f'));
}

pub binary_steps : (o : Operator) (m m' n : TermTree) → Steps m m' → Steps (binary o m n) (binary o m' n)
binary_steps o m m' n h = record {
  forth = λ s r e. let (i, k, v, w, f, g, _, x) = binary_inv e in let (z, f') = h.forth i (value v) f in
      subst (HasEv (binary o m n)) (sym x) (suc (z + k), ev_binary f' g);
  back = λ s r e. let (i, k, v, w, f, g, q, x) = binary_inv e in let (z, l, f') = h.back i (value v) f in
      (suc (z + k), omega arith, subst (Ev (suc (z + k)) (binary o m' n)) (sym x) (ev_binary f' g));
}

pub ifz_steps : (m m' p q : TermTree) → Steps m m' → Steps (ifz m p q) (ifz m' p q)
ifz_steps m m' p q h = record {
  forth = λ s r e. let (i, k, v, f, g, _) = ifz_inv e in let (z, f') = h.forth i (value v) f in (suc (z + k), ev_ifz f' g);
  back = λ s r e. let (i, k, v, f, g, x) = ifz_inv e in let (z, l, f') = h.back i (value v) f in (suc (z + k), omega arith, ev_ifz f' g);
}

-- a term comes to what its step at the head comes to, and by a larger derivation
pub head_steps : (m n : TermTree) → Head m n → Steps m n
head_steps (fix a m) n e = subst (Steps (fix a m)) (sym e) (unfold_fix a m)
head_steps (app (lam a m) x) n e = subst (Steps (app (lam a m) x)) (sym e) (beta a m x)
head_steps (app f x) n (g, h, e) = subst (Steps (app f x)) (sym e) (app_steps f g x (head_steps f g h))
head_steps (proj s (pair a b)) n e = subst (Steps (proj s (pair a b))) (sym e) (take_part s a b)
head_steps (proj s a) n (b, h, e) = subst (Steps (proj s a)) (sym e) (proj_steps s a b (head_steps a b h))
head_steps (succ_of a) n (b, h, e) = subst (Steps (succ_of a)) (sym e) (succ_steps a b (head_steps a b h))
head_steps (pred_of a) n (b, h, e) = subst (Steps (pred_of a)) (sym e) (pred_steps a b (head_steps a b h))
head_steps (binary o a b) n (c, h, e) = subst (Steps (binary o a b)) (sym e) (binary_steps o a c b (head_steps a c h))
head_steps (ifz c p q) n (b, h, e) = subst (Steps (ifz c p q)) (sym e) (ifz_steps c b p q (head_steps c b h))
head_steps _ n h = elim h [ ]

-- a term and the term after a step at its head mean the same values
pub head_means : (m n : TermTree) → Head m n → (v : Val) → Means m v ↔ Means n v
head_means m n h v =
    let s = head_steps m n h in (
      (λ (d, e). let (i, f) = eval_ev d m (value v) e in let (z, _, g) = s.back i (value v) f in (z, ev_eval g)),
      (λ (d, e). let (i, f) = eval_ev d n (value v) e in let (z, g) = s.forth i (value v) f in (z, ev_eval g)),
    )

-- a term has one value
pub one_value : (m : TermTree) (v w : Val) → Means m v → Means m w → v ≡ w
one_value m v w (d, h) (e, g) =
    let a = eval_le (d + e) d m (value v) (omega arith) h in
    let b = eval_le (d + e) e m (value w) (omega arith) g in
    let z : Some (value v) ≡ Some (value w) = sym a ∙ b in cc
