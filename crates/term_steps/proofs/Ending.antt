-- What has a value comes to it by steps, and what steps end at is the value.
use Rattle.std.proofs.Common.{◌≡◌, ◌↔◌, ◌⊎◌, ℕ, zero, suc, ◌≤◌, Option, Some, None, refl, sym, ap, ◌∙◌, subst, inl, inr, arith}
use Rattle.pcf_values.specs.declared.val.Val.{Val}
use Rattle.pcf_values.specs.Values.{val_succ, val_pred, val_op, at_zero}
use Rattle.pcf_values.specs.declared.operator.Operator.{Operator}
use Rattle.pcf_values.specs.Terms.{at_side, TermTree, succ_of, pred_of, binary, ifz, lam, fix, app, pair, proj}
use Rattle.cbn_meaning.specs.Substitution.{subst_at}
use Rattle.cbn_meaning.specs.Meaning.{Res, value, closure, paired, Means}
use Rattle.cbn_meaning.specs.Derivations.{Ev, ev_num, ev_lam, ev_succ, ev_pred, ev_binary, ev_ifz, ev_fix, ev_app, ev_pair, ev_proj}
use Rattle.cbn_meaning.proofs.Derived.{ev_eval, eval_ev}
use Rattle.term_steps.specs.Steps.{spelled, spell, step, on_term, steps, Ends}
use Rattle.term_steps.proofs.Options.{from_term, spelled_next, succ_moves, pred_moves, app_moves, proj_moves, moving_unspelled}
use Rattle.term_steps.proofs.Keeps.{extent, spelled_ev, step_steps, step_means}

-- the term is a result already
abbrev pub At : TermTree → Res → Type 0
At m (value v) = spelled m ≡ Some v
At m (closure a n) = m ≡ lam a n
At m (paired a b) = m ≡ pair a b

abbrev pub Moves : TermTree → Type 0
Moves m = (n : TermTree) × (step m ≡ Some n)

pub succ_goes : (a : TermTree) (v : Val) → spelled a ≡ Some v → (spelled (succ_of a) ≡ Some (val_succ v)) ⊎ Moves (succ_of a)
succ_goes a v h = go (spelled (succ_of a)) refl
  where
    go : (o : Option Val) → spelled (succ_of a) ≡ o → (spelled (succ_of a) ≡ Some (val_succ v)) ⊎ Moves (succ_of a)
    go None e = inr (spell (val_succ v), rw (e, h) refl)
    go (Some w) e = inl (e ∙ ap Some (sym (spelled_next a v w h e)))

pub right_goes : (o : Operator) (a b n : TermTree) (v : Val) → spelled a ≡ Some v → step b ≡ Some n → Moves (binary o a b)
right_goes o a b n v h g = let u = moving_unspelled b n g in (binary o a n, rw (h, u, g) refl)

-- what has a derivation is a result or has a step
pub ev_goes : (s : ℕ) (m : TermTree) (x : Res) → Ev s m x → At m x ⊎ Moves m
ev_goes _ _ _ ev_num = inl refl
ev_goes _ _ _ ev_lam = inl refl
ev_goes _ _ _ ev_pair = inl refl
ev_goes _ _ _ (ev_fix {a = a} {m = m} h) = inr (subst_at m zero (fix a m), refl)
ev_goes _ _ _ (ev_succ {s = s} {a = a} {v = v} h) = go (ev_goes s a (value v) h)
  where
    go : At a (value v) ⊎ Moves a → At (succ_of a) (value (val_succ v)) ⊎ Moves (succ_of a)
    go (inl e) = succ_goes a v e
    go (inr (n, e)) = inr (succ_of n, succ_moves a n e)
ev_goes _ _ _ (ev_pred {s = s} {a = a} {v = v} h) = go (ev_goes s a (value v) h)
  where
    go : At a (value v) ⊎ Moves a → At (pred_of a) (value (val_pred v)) ⊎ Moves (pred_of a)
    go (inl e) = inr (spell (val_pred v), rw e refl)
    go (inr (n, e)) = inr (pred_of n, pred_moves a n e)
ev_goes _ _ _ (ev_binary {s = s} {r = r} {o = o} {a = a} {b = b} {v = v} {w = w} h g) =
    go (ev_goes s a (value v) h) (ev_goes r b (value w) g)
  where
    go : At a (value v) ⊎ Moves a → At b (value w) ⊎ Moves b → At (binary o a b) (value (val_op o v w)) ⊎ Moves (binary o a b)
    go (inl e) (inl f) = inr (spell (val_op o v w), rw (e, f) refl)
    go (inl e) (inr (n, f)) = inr (right_goes o a b n v e f)
    go (inr (n, e)) f = let u = moving_unspelled a n e in inr (binary o n b, rw (u, e) refl)
ev_goes _ _ x (ev_ifz {s = s} {c = c} {p = p} {q = q} {v = v} h g) = go (ev_goes s c (value v) h)
  where
    go : At c (value v) ⊎ Moves c → At (ifz c p q) x ⊎ Moves (ifz c p q)
    go (inl e) = inr (at_zero v p q, rw e refl)
    go (inr (n, e)) = let u = moving_unspelled c n e in inr (ifz n p q, rw (u, e) refl)
ev_goes _ _ x (ev_app {s = s} {f = f} {y = y} {a = a} {m = m} h g) = go (ev_goes s f (closure a m) h)
  where
    go : At f (closure a m) ⊎ Moves f → At (app f y) x ⊎ Moves (app f y)
    go (inl e) = inr (subst (λ f. Moves (app f y)) (sym e) (subst_at m zero y, refl))
    go (inr (n, e)) = inr (app n y, app_moves f y n e)
ev_goes _ _ x (ev_proj {s = s} {d = d} {a = a} {m = m} {n = n} h g) = go (ev_goes s a (paired m n) h)
  where
    go : At a (paired m n) ⊎ Moves a → At (proj d a) x ⊎ Moves (proj d a)
    go (inl e) = inr (subst (λ a. Moves (proj d a)) (sym e) (at_side d m n, refl))
    go (inr (b, e)) = inr (proj d b, proj_moves d a b e)

-- one step more in front
ends_after : (m n : TermTree) (v : Val) → step m ≡ Some n → Ends n v → Ends m v
ends_after m n v h (k, p, e, g) = (suc k, p, ap (λ o. on_term o (λ n. steps k n)) h ∙ e, g)

-- by the size of the derivation, which each step makes smaller
ev_ends : (k s : ℕ) (m : TermTree) (v : Val) → s ≤ k → Ev s m (value v) → Ends m v
ev_ends zero s m v l h = go (ev_goes s m (value v) h)
  where
    go : At m (value v) ⊎ Moves m → Ends m v
    go (inl e) = (zero, m, refl, e)
    go (inr (n, e)) = let (z, i, _) = (step_steps m n e).back s (value v) h in absurd (omega (arith, i, l))
ev_ends (suc k) s m v l h = go (ev_goes s m (value v) h) (ev_ends k)
  where
    go : At m (value v) ⊎ Moves m → ((s : ℕ) (m : TermTree) (v : Val) → s ≤ k → Ev s m (value v) → Ends m v) → Ends m v
    go (inl e) ih = (zero, m, refl, e)
    go (inr (n, e)) ih = let (z, i, g) = (step_steps m n e).back s (value v) h in
        ends_after m n v e (ih z n v (omega (arith, i, l)) g)

steps_mean : (k : ℕ) (m n : TermTree) (v : Val) → steps k m ≡ Some n → spelled n ≡ Some v → Means m v
steps_mean zero m n v h e = let q : m ≡ n = cc in (extent v, ev_eval (spelled_ev m v (subst (λ n. spelled n ≡ Some v) (sym q) e)))
steps_mean (suc k) m n v h e =
    let (p, f, g) = from_term (step m) (λ n. steps k n) n h in
    (step_means m p f v).1 (steps_mean k p n v g e)

pub ends_at_value : (m : TermTree) (v : Val) → Means m v ↔ Ends m v
ends_at_value m v = (
  (λ (d, e). let (s, f) = eval_ev d m (value v) e in ev_ends s s m v (omega arith) f),
  (λ (k, n, e, g). steps_mean k m n v e g),
)

pub spelled_means : (m : TermTree) (v : Val) → spelled m ≡ Some v → Means m v
spelled_means m v h = (extent v, ev_eval (spelled_ev m v h))
