-- Terms that are alike come to results that are alike, in both directions.
-- Forwards by induction on the derivation's number of rules; backwards by that, and within it by how the terms are alike: a step of the
-- left term alone keeps the right one's derivation.
use Rattle.std.proofs.Common.{◌≡◌, ℕ, zero, suc, ◌+◌, ◌<◌, ◌≤◌, refl, sym, ap, ◌∙◌, subst, arith}
use Rattle.pcf_values.specs.declared.val.Val.{Val}
use Rattle.pcf_values.specs.declared.val.Val.TheVariants.{Number, Overflow}
use Rattle.pcf_values.specs.Values.{val_succ, val_pred, val_op, at_zero}
use Rattle.pcf_values.specs.declared.side.Side.{Side}
use Rattle.pcf_values.specs.declared.side.Side.TheVariants.{Left, Right}
use Rattle.pcf_values.specs.Terms.{TyTree, at_side, TermTree, num, succ_of, pred_of, binary, ifz, lam, fix, app, pair}
use Rattle.cbn_meaning.specs.Substitution.{subst_at}
use Rattle.cbn_meaning.specs.Meaning.{Res, value, closure, paired}
use Rattle.cbn_meaning.specs.Derivations.{Ev, HasEv, Steps, ev_num, ev_lam, ev_succ, ev_pred, ev_binary, ev_ifz, ev_fix, ev_app}
use Rattle.cbn_meaning.specs.Derivations.{ev_pair, ev_proj}
use Rattle.cbn_meaning.proofs.Derived.{num_inv, succ_inv, pred_inv, binary_inv, ifz_inv, fix_inv, app_inv, proj_inv, ev_pos}
use Rattle.cbn_meaning.proofs.Head.{take_part, unfold_fix}
use Rattle.cbn_meaning.proofs.Head.{beta as beta_steps}
use Rattle.meaning_laws.specs.Equations.{Equals, beta, unfolds, part, test, next, before, computed}
use Rattle.meaning_laws.proofs.Below.{Below, put_closed, below_subst, below_side, below_branch, result_below}
use Rattle.meaning_laws.proofs.Alike.{Alike, a_num, a_var, a_succ, a_pred, a_binary, a_ifz, a_lam, a_fix, a_app, a_pair, a_proj}
use Rattle.meaning_laws.proofs.Alike.{a_step, alike_subst}

-- results that are alike
pub data LikeResults : Res → Res → Type 0 where
  like_value : {v : Val} → LikeResults (value v) (value v)
  like_closure : {a : TyTree} {m n : TermTree} → Alike m n → LikeResults (closure a m) (closure a n)
  like_pair : {a b c d : TermTree} → Alike a c → Alike b d → LikeResults (paired a b) (paired c d)

-- a derivation of a result like this one
abbrev pub Likewise : TermTree → Res → Type 0
Likewise n r = (q : Res) × HasEv n q × LikeResults r q

-- and the other way round
abbrev pub LikewiseLeft : TermTree → Res → Type 0
LikewiseLeft m q = (r : Res) × HasEv m r × LikeResults r q

pub value_like : {v : Val} {q : Res} → LikeResults (value v) q → q ≡ value v
value_like like_value = refl

pub like_value_left : {v : Val} {r : Res} → LikeResults r (value v) → r ≡ value v
like_value_left like_value = refl

closure_like : {a : TyTree} {m : TermTree} {q : Res} → LikeResults (closure a m) q → (n : TermTree) × Alike m n × (q ≡ closure a n)
closure_like (like_closure {n = n} h) = (n, h, refl)

like_closure_left : {a : TyTree} {n : TermTree} {r : Res} → LikeResults r (closure a n) →
    (m : TermTree) × Alike m n × (r ≡ closure a m)
like_closure_left (like_closure {m = m} h) = (m, h, refl)

pair_like : {a b : TermTree} {q : Res} → LikeResults (paired a b) q → (c d : TermTree) × Alike a c × Alike b d × (q ≡ paired c d)
pair_like (like_pair {c = c} {d = d} h g) = (c, d, h, g, refl)

like_pair_left : {c d : TermTree} {r : Res} → LikeResults r (paired c d) → (a b : TermTree) × Alike a c × Alike b d × (r ≡ paired a b)
like_pair_left (like_pair {a = a} {b = b} h g) = (a, b, h, g, refl)

-- a step at the root of a closed term is one that evaluation makes, and its end is closed
number_steps : (m : TermTree) (z : ℕ) → HasEv m (value (Number z)) →
    ((s : ℕ) (r : Res) → Ev s m r → (1 < s) × (r ≡ value (Number z))) → Steps m (num z)
number_steps m z h g = record {
  forth = λ s r e. subst (HasEv m) (sym (num_inv e)) h;
  back = λ s r e. let (l, q) = g s r e in (1, l, subst (Ev 1 (num z)) (sym q) ev_num);
}

test_steps : (n : ℕ) (p q : TermTree) → Steps (ifz (num n) p q) (at_zero (Number n) p q)
test_steps n p q = record {
  forth = λ s r e. (suc (1 + s), ev_ifz ev_num e);
  back = λ s r e.
      let (i, k, v, f, g, x) = ifz_inv e in
      let y : value v ≡ value (Number n) = num_inv f in
      let w : v ≡ Number n = cc in
      (k, omega (arith, ev_pos f), subst (λ v. Ev k (at_zero v p q) r) w g);
}

value_of : {v : Val} {n : ℕ} {s : ℕ} → Ev s (num n) (value v) → v ≡ Number n
value_of h = let e = num_inv h in cc

-- each equation
pub equals_steps : {m p : TermTree} → Equals m p → Below 0 m → Steps m p × Below 0 p
equals_steps (beta {a = a} {m = m} {n = n}) b =
    let e = sym (put_closed m n 0 b.1) in
    (subst (Steps (app (lam a m) n)) e (beta_steps a m n), subst (Below 0) e (below_subst m n 0 b.0 b.1))
equals_steps (unfolds {a = a} {m = m}) b =
    let e = sym (put_closed m (fix a m) 0 b) in
    (subst (Steps (fix a m)) e (unfold_fix a m), subst (Below 0) e (below_subst m (fix a m) 0 b b))
equals_steps (part {s = s} {m = m} {n = n}) b = (take_part s m n, below_side s 0 m n b.0 b.1)
equals_steps (test {n = n} {p = p} {q = q}) b = (test_steps n p q, below_branch (Number n) 0 p q b.1 b.2)
equals_steps (next {n = n} {z = z} e) b = (
  number_steps (succ_of (num n)) z (2, subst (λ v. Ev 2 (succ_of (num n)) (value v)) e (ev_succ ev_num)) (λ s r h.
      let (i, v, f, x, y) = succ_inv h in
      (omega (arith, ev_pos f), y ∙ ap (λ v. value (val_succ v)) (value_of f) ∙ ap value e)),
  tt,
)
equals_steps (before {n = n} {z = z} e) b = (
  number_steps (pred_of (num n)) z (2, subst (λ v. Ev 2 (pred_of (num n)) (value v)) e (ev_pred ev_num)) (λ s r h.
      let (i, v, f, x, y) = pred_inv h in
      (omega (arith, ev_pos f), y ∙ ap (λ v. value (val_pred v)) (value_of f) ∙ ap value e)),
  tt,
)
equals_steps (computed {o = o} {m = m} {n = n} {z = z} e) b = (
  number_steps (binary o (num m) (num n)) z
      (3, subst (λ v. Ev 3 (binary o (num m) (num n)) (value v)) e (ev_binary ev_num ev_num)) (λ s r h.
      let (i, k, v, w, f, g, x, y) = binary_inv h in (
        omega (arith, ev_pos f, ev_pos g),
        y ∙ ap (λ v. value (val_op o v w)) (value_of f) ∙ ap (λ w. value (val_op o (Number m) w)) (value_of g) ∙ ap value e,
      )),
  tt,
)

lam_result : {s : ℕ} {a : TyTree} {m : TermTree} {r : Res} → Ev s (lam a m) r → r ≡ closure a m
lam_result ev_lam = refl

pair_result : {s : ℕ} {m n : TermTree} {r : Res} → Ev s (pair m n) r → r ≡ paired m n
pair_result ev_pair = refl

like_side : (s : Side) {a b c d : TermTree} → Alike a c → Alike b d → Alike (at_side s a b) (at_side s c d)
like_side Left h g = h
like_side Right h g = g

like_branch : (v : Val) {a b c d : TermTree} → Alike a c → Alike b d → Alike (at_zero v a b) (at_zero v c d)
like_branch (Number zero) h g = h
like_branch (Number (suc n)) h g = g
like_branch Overflow h g = g

-- forwards, for derivations of so many rules
abbrev pub Forth : ℕ → Type 0
Forth d = (s : ℕ) (m n : TermTree) (r : Res) → s ≤ d → Alike m n → Below 0 m → Ev s m r → Likewise n r

module _ (d : ℕ) (ih : Forth d) where
  value_forth : {s : ℕ} {m n : TermTree} {v : Val} → s ≤ d → Alike m n → Below 0 m → Ev s m (value v) → HasEv n (value v)
  value_forth {s} {m} {n} {v} l h b e =
      let (q, f, g) = ih s m n (value v) l h b e in subst (HasEv n) (value_like g) f

  closure_forth : {s : ℕ} {m n : TermTree} {a : TyTree} {x : TermTree} → s ≤ d → Alike m n → Below 0 m → Ev s m (closure a x) →
      (y : TermTree) × Alike x y × HasEv n (closure a y)
  closure_forth {s} {m} {n} {a} {x} l h b e =
      let (q, f, g) = ih s m n (closure a x) l h b e in
      let (y, i, z) = closure_like g in
      (y, i, subst (HasEv n) z f)

  pair_forth : {s : ℕ} {m n x y : TermTree} → s ≤ d → Alike m n → Below 0 m → Ev s m (paired x y) →
      (z w : TermTree) × Alike x z × Alike y w × HasEv n (paired z w)
  pair_forth {s} {m} {n} {x} {y} l h b e =
      let (q, f, g) = ih s m n (paired x y) l h b e in
      let (z, w, i, j, k) = pair_like g in
      (z, w, i, j, subst (HasEv n) k f)

  forth_more : Forth (suc d)
  forth_more s _ _ r l (a_num {v = v}) b e = (r, (s, e), subst (λ r. LikeResults r r) (sym (num_inv e)) like_value)
  forth_more s _ _ r l (a_var {i = i}) b e = absurd (omega arith)
  forth_more s _ _ r l (a_succ {a = a} {a' = a'} h) b e =
      let (i, v, f, x, y) = succ_inv e in
      let (k, g) = value_forth (omega arith) h b f in
      (value (val_succ v), (suc k, ev_succ g), subst (λ r. LikeResults r (value (val_succ v))) (sym y) like_value)
  forth_more s _ _ r l (a_pred {a = a} {a' = a'} h) b e =
      let (i, v, f, x, y) = pred_inv e in
      let (k, g) = value_forth (omega arith) h b f in
      (value (val_pred v), (suc k, ev_pred g), subst (λ r. LikeResults r (value (val_pred v))) (sym y) like_value)
  forth_more s _ _ r l (a_binary {o = o} h h') b e =
      let (i, j, v, w, f, f', x, y) = binary_inv e in
      let (k, g) = value_forth (omega arith) h b.0 f in
      let (k', g') = value_forth (omega arith) h' b.1 f' in
      (value (val_op o v w), (suc (k + k'), ev_binary g g'), subst (λ r. LikeResults r (value (val_op o v w))) (sym y) like_value)
  forth_more s _ _ r l (a_ifz {p = p} {q = q} {p' = p'} {q' = q'} c h h') b e =
      let (i, j, v, f, f', x) = ifz_inv e in
      let (k, g) = value_forth (omega arith) c b.0 f in
      let (t, (k', g'), z) = ih j (at_zero v p q) (at_zero v p' q') r (omega (arith, ev_pos f)) (like_branch v h h')
      (below_branch v 0 p q b.1 b.2) f' in
      (t, (suc (k + k'), ev_ifz g g'), z)
  forth_more s _ _ r l (a_lam {a = a} {m' = m'} h) b e =
      (closure a m', (1, ev_lam), subst (λ r. LikeResults r (closure a m')) (sym (lam_result e)) (like_closure h))
  forth_more s _ _ r l (a_fix {a = a} {m = m} {m' = m'} h) b e =
      let (i, f, x) = fix_inv e in
      let (t, (k, g), z) = ih i (subst_at m 0 (fix a m)) (subst_at m' 0 (fix a m')) r (omega arith) (alike_subst h 0 b (a_fix h))
      (below_subst m (fix a m) 0 b b) f in
      (t, (suc k, ev_fix g), z)
  forth_more s _ _ r l (a_app {f = u} {x = x} {f' = u'} {x' = x'} h h') b e =
      let (i, j, a, m, f, f', y) = app_inv e in
      let (m', c, (k, g)) = closure_forth (omega (arith, ev_pos f')) h b.0 f in
      let inner = result_below f b.0 in
      let (t, (k', g'), z) = ih j (subst_at m 0 x) (subst_at m' 0 x') r (omega (arith, ev_pos f)) (alike_subst c 0 b.1 h')
      (below_subst m x 0 inner b.1) f' in
      (t, (suc (k + k'), ev_app g g'), z)
  forth_more s _ _ r l (a_pair {a' = x} {b' = y} h h') b e =
      (paired x y, (1, ev_pair), subst (λ r. LikeResults r (paired x y)) (sym (pair_result e)) (like_pair h h'))
  forth_more s _ _ r l (a_proj {s = o} {a = a} {a' = a'} h) b e =
      let (i, j, m, n, f, f', y) = proj_inv e in
      let (m', n', c, c', (k, g)) = pair_forth (omega (arith, ev_pos f')) h b f in
      let (bm, bn) = result_below f b in
      let (t, (k', g'), z) = ih j (at_side o m n) (at_side o m' n') r (omega (arith, ev_pos f)) (like_side o c c')
      (below_side o 0 m n bm bn) f' in
      (t, (suc (k + k'), ev_proj g g'), z)
  forth_more s _ n r l (a_step {p = p} q h) b e =
      let (steps, c) = equals_steps q b in
      let (z, i, f) = steps.back s r e in
      ih z p n r (omega arith) h c f

pub forth : (d : ℕ) → Forth d
forth zero = λ s m n r l h b e. absurd (omega (arith, ev_pos e))
forth (suc d) = forth_more d (forth d)

-- backwards, for derivations of so many rules
abbrev pub Back : ℕ → Type 0
Back d = (s : ℕ) (m n : TermTree) (r : Res) → s ≤ d → Alike m n → Below 0 m → Ev s n r → LikewiseLeft m r

module _ (d : ℕ) (ih : Back d) where
  value_back : {s : ℕ} {m n : TermTree} {v : Val} → s ≤ d → Alike m n → Below 0 m → Ev s n (value v) → HasEv m (value v)
  value_back {s} {m} {n} {v} l h b e =
      let (q, f, g) = ih s m n (value v) l h b e in subst (HasEv m) (like_value_left g) f

  closure_back : {s : ℕ} {m n : TermTree} {a : TyTree} {y : TermTree} → s ≤ d → Alike m n → Below 0 m → Ev s n (closure a y) →
      (x : TermTree) × Alike x y × HasEv m (closure a x)
  closure_back {s} {m} {n} {a} {y} l h b e =
      let (q, f, g) = ih s m n (closure a y) l h b e in
      let (x, i, z) = like_closure_left g in
      (x, i, subst (HasEv m) z f)

  pair_back : {s : ℕ} {m n z w : TermTree} → s ≤ d → Alike m n → Below 0 m → Ev s n (paired z w) →
      (x y : TermTree) × Alike x z × Alike y w × HasEv m (paired x y)
  pair_back {s} {m} {n} {z} {w} l h b e =
      let (q, f, g) = ih s m n (paired z w) l h b e in
      let (x, y, i, j, k) = like_pair_left g in
      (x, y, i, j, subst (HasEv m) k f)

  back_more : (s : ℕ) (m n : TermTree) (r : Res) → s ≤ suc d → Alike m n → Below 0 m → Ev s n r → LikewiseLeft m r
  back_more s _ _ r l (a_num {v = v}) b e = (r, (s, e), subst (λ r. LikeResults r r) (sym (num_inv e)) like_value)
  back_more s _ _ r l (a_var {i = i}) b e = absurd (omega arith)
  back_more s _ _ r l (a_succ {a = a} {a' = a'} h) b e =
      let (i, v, f, x, y) = succ_inv e in
      let (k, g) = value_back (omega arith) h b f in
      (value (val_succ v), (suc k, ev_succ g), subst (LikeResults (value (val_succ v))) (sym y) like_value)
  back_more s _ _ r l (a_pred {a = a} {a' = a'} h) b e =
      let (i, v, f, x, y) = pred_inv e in
      let (k, g) = value_back (omega arith) h b f in
      (value (val_pred v), (suc k, ev_pred g), subst (LikeResults (value (val_pred v))) (sym y) like_value)
  back_more s _ _ r l (a_binary {o = o} h h') b e =
      let (i, j, v, w, f, f', x, y) = binary_inv e in
      let (k, g) = value_back (omega arith) h b.0 f in
      let (k', g') = value_back (omega arith) h' b.1 f' in
      (value (val_op o v w), (suc (k + k'), ev_binary g g'), subst (LikeResults (value (val_op o v w))) (sym y) like_value)
  back_more s _ _ r l (a_ifz {p = p} {q = q} {p' = p'} {q' = q'} c h h') b e =
      let (i, j, v, f, f', x) = ifz_inv e in
      let (k, g) = value_back (omega arith) c b.0 f in
      let (t, (k', g'), z) = ih j (at_zero v p q) (at_zero v p' q') r (omega (arith, ev_pos f)) (like_branch v h h')
      (below_branch v 0 p q b.1 b.2) f' in
      (t, (suc (k + k'), ev_ifz g g'), z)
  back_more s _ _ r l (a_lam {a = a} {m = m} h) b e =
      (closure a m, (1, ev_lam), subst (LikeResults (closure a m)) (sym (lam_result e)) (like_closure h))
  back_more s _ _ r l (a_fix {a = a} {m = m} {m' = m'} h) b e =
      let (i, f, x) = fix_inv e in
      let (t, (k, g), z) = ih i (subst_at m 0 (fix a m)) (subst_at m' 0 (fix a m')) r (omega arith) (alike_subst h 0 b (a_fix h))
      (below_subst m (fix a m) 0 b b) f in
      (t, (suc k, ev_fix g), z)
  back_more s _ _ r l (a_app {f = u} {x = x} {f' = u'} {x' = x'} h h') b e =
      let (i, j, a, m', f, f', y) = app_inv e in
      let (m, c, (k, g)) = closure_back (omega (arith, ev_pos f')) h b.0 f in
      let inner = result_below g b.0 in
      let (t, (k', g'), z) = ih j (subst_at m 0 x) (subst_at m' 0 x') r (omega (arith, ev_pos f)) (alike_subst c 0 b.1 h')
      (below_subst m x 0 inner b.1) f' in
      (t, (suc (k + k'), ev_app g g'), z)
  back_more s _ _ r l (a_pair {a = x} {b = y} h h') b e =
      (paired x y, (1, ev_pair), subst (LikeResults (paired x y)) (sym (pair_result e)) (like_pair h h'))
  back_more s _ _ r l (a_proj {s = o} {a = a} {a' = a'} h) b e =
      let (i, j, m', n', f, f', y) = proj_inv e in
      let (m, n, c, c', (k, g)) = pair_back (omega (arith, ev_pos f')) h b f in
      let (bm, bn) = result_below g b in
      let (t, (k', g'), z) = ih j (at_side o m n) (at_side o m' n') r (omega (arith, ev_pos f)) (like_side o c c')
      (below_side o 0 m n bm bn) f' in
      (t, (suc (k + k'), ev_proj g g'), z)
  back_more s _ n r l (a_step {p = p} q h) b e =
      let (steps, c) = equals_steps q b in
      let (t, (k, g), z) = back_more s p n r l h c e in
      (t, steps.forth k t g, z)

pub back : (d : ℕ) → Back d
back zero = λ s m n r l h b e. absurd (omega (arith, ev_pos e))
back (suc d) = back_more d (back d)
