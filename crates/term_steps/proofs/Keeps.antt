-- A step keeps what a term means, by a smaller derivation each time, and the type of a closed term.
use Rattle.std.proofs.Common.{◌≡◌, ◌↔◌, ◌⊎◌, ℕ, zero, suc, ◌+◌, ◌<◌, ◌≤◌, Some, None, refl, sym, ap, ◌∙◌, subst, inl, inr, arith}
use Rattle.std.specs.Option.{option_map}
use Rattle.pcf_values.specs.declared.val.Val.{Val}
use Rattle.pcf_values.specs.declared.val.Val.TheVariants.{Number, Overflow}
use Rattle.pcf_values.specs.Values.{val_succ, val_pred, val_op, at_zero}
use Rattle.pcf_values.specs.declared.operator.Operator.{Operator}
use Rattle.pcf_values.specs.Terms.{TermTree, num, var, succ_of, pred_of, binary, ifz, lam, fix, app, pair, proj}
use Rattle.cbn_meaning.specs.Meaning.{value, Means}
use Rattle.cbn_meaning.specs.HeadSteps.{Head}
use Rattle.cbn_meaning.specs.Derivations.{Ev, ev_num, ev_succ, ev_pred, ev_binary, ev_ifz, HasEv, Steps}
use Rattle.cbn_meaning.proofs.Derived.{binary_inv, ifz_inv, ev_eval, eval_ev}
use Rattle.cbn_meaning.proofs.Same.{ev_same, same_value}
use Rattle.cbn_meaning.proofs.Head.{beta, unfold_fix, take_part, succ_steps, pred_steps, app_steps, proj_steps, binary_steps, ifz_steps}
use Rattle.term_steps.specs.Steps.{spelled, spell, step}
use Rattle.term_steps.specs.Spelled.{on_spelled}
use Rattle.term_steps.proofs.Options.{from_map, from_spelled, spelled_number, spelled_overflow, next_number, succ_moves, pred_moves}
use Rattle.term_steps.proofs.Options.{app_moves, proj_moves, moving_unspelled}

-- how many rules derive what a spelled value's term means
abbrev pub extent : Val → ℕ
extent (Number n) = 1
extent Overflow = 2

extent_pos : (v : Val) → 0 < extent v
extent_pos (Number n) = omega arith
extent_pos Overflow = omega arith

extent_most : (v : Val) → extent v ≤ 2
extent_most (Number n) = omega arith
extent_most Overflow = omega arith

pub spelled_ev : (a : TermTree) (v : Val) → spelled a ≡ Some v → Ev (extent v) a (value v)
spelled_ev a (Number n) h = subst (λ a. Ev 1 a (value (Number n))) (sym (spelled_number a n h)) ev_num
spelled_ev a Overflow h =
    let (k, e, g) = spelled_overflow a h in
    subst (λ a. Ev 2 a (value Overflow)) (sym e) (subst (λ w. Ev 2 (succ_of (num k)) (value w)) g (ev_succ ev_num))

pub spell_ev : (v : Val) → Ev (extent v) (spell v) (value v)
spell_ev (Number n) = ev_num
spell_ev Overflow = ev_succ ev_num

-- a term and a term that derives the same value in fewer rules
value_steps : (m n : TermTree) (v : Val) (s z : ℕ) → Ev s m (value v) → Ev z n (value v) → z < s → Steps m n
value_steps m n v s z h g l = record {
  forth = λ k r e. let (_, q) = ev_same z k n (value v) r g e in subst (HasEv m) q (s, h);
  back = λ k r e. let (i, q) = ev_same s k m (value v) r h e in (z, omega (arith, i, l), subst (Ev z n) q g);
}

next_extent : (a : TermTree) (v : Val) → spelled (succ_of a) ≡ None → spelled a ≡ Some v → extent (val_succ v) < suc (extent v)
next_extent a (Number n) h g =
    let e = spelled_number a n g in
    let (k, q) = next_number n (subst (λ a. spelled (succ_of a) ≡ None) e h) in
    subst (λ w. extent w < suc (extent (Number n))) (sym q) (omega arith)
next_extent a Overflow h g = omega arith

before_extent : (v : Val) → extent (val_pred v) < suc (extent v)
before_extent (Number zero) = omega arith
before_extent (Number (suc n)) = omega arith
before_extent Overflow = omega arith

op_extent : (w u v : Val) → extent w < suc (extent u + extent v)
op_extent w u v = let a = extent_most w in let b = extent_pos u in let c = extent_pos v in omega (arith, a, b, c)

-- the steps on values
next_steps : (a : TermTree) (v : Val) → spelled (succ_of a) ≡ None → spelled a ≡ Some v → Steps (succ_of a) (spell (val_succ v))
next_steps a v h g = value_steps (succ_of a) (spell (val_succ v)) (val_succ v) (suc (extent v)) (extent (val_succ v))
    (ev_succ (spelled_ev a v g)) (spell_ev (val_succ v)) (next_extent a v h g)

before_steps : (a : TermTree) (v : Val) → spelled a ≡ Some v → Steps (pred_of a) (spell (val_pred v))
before_steps a v g = value_steps (pred_of a) (spell (val_pred v)) (val_pred v) (suc (extent v)) (extent (val_pred v))
    (ev_pred (spelled_ev a v g)) (spell_ev (val_pred v)) (before_extent v)

op_steps : (o : Operator) (a b : TermTree) (v w : Val) → spelled a ≡ Some v → spelled b ≡ Some w →
    Steps (binary o a b) (spell (val_op o v w))
op_steps o a b v w g h = value_steps (binary o a b) (spell (val_op o v w)) (val_op o v w) (suc (extent v + extent w))
    (extent (val_op o v w)) (ev_binary (spelled_ev a v g) (spelled_ev b w h)) (spell_ev (val_op o v w)) (op_extent (val_op o v w) v w)

branch_steps : (c p q : TermTree) (v : Val) → spelled c ≡ Some v → Steps (ifz c p q) (at_zero v p q)
branch_steps c p q v g = record {
  forth = λ k r e. (suc (extent v + k), ev_ifz (spelled_ev c v g) e);
  back = λ k r e.
      let (i, j, w, f, y, z) = ifz_inv e in
      let (_, x) = ev_same i (extent v) c (value w) (value v) f (spelled_ev c v g) in
      (j, omega arith, subst (λ w. Ev j (at_zero w p q) r) (same_value x) y);
}

-- the steps of the right part
right_steps : (o : Operator) (m n n' : TermTree) → Steps n n' → Steps (binary o m n) (binary o m n')
right_steps o m n n' h = record {
  forth = λ s r e. let (i, k, v, w, f, g, _, x) = binary_inv e in let (z, g') = h.forth k (value w) g in
      subst (HasEv (binary o m n)) (sym x) (suc (i + z), ev_binary f g');
  back = λ s r e. let (i, k, v, w, f, g, q, x) = binary_inv e in let (z, l, g') = h.back k (value w) g in
      (suc (i + z), omega arith, subst (Ev (suc (i + z)) (binary o m n')) (sym x) (ev_binary f g'));
}

pub some_same : {m n : TermTree} → Some m ≡ Some n → m ≡ n
some_same e = cc

-- each step keeps all results, by a smaller derivation
pub step_steps : (m n : TermTree) → step m ≡ Some n → Steps m n
step_steps (num k) n h = cc
step_steps (var i) n h = cc
step_steps (succ_of a) n h = go (from_spelled (spelled (succ_of a)) (λ v. None)
    (on_spelled (spelled a) (λ v. Some (spell (val_succ v))) (option_map succ_of (step a))) n h) (step_steps a)
  where
    go : ((v : Val) × (spelled (succ_of a) ≡ Some v) × (None ≡ Some n)) ⊎ ((spelled (succ_of a) ≡ None) ×
        (on_spelled (spelled a) (λ v. Some (spell (val_succ v))) (option_map succ_of (step a)) ≡ Some n)) →
        ((b : TermTree) → step a ≡ Some b → Steps a b) → Steps (succ_of a) n
    go (inl (v, e, f)) ih = cc
    go (inr (e, f)) ih = to (from_spelled (spelled a) (λ v. Some (spell (val_succ v))) (option_map succ_of (step a)) n f)
      where
        to : ((v : Val) × (spelled a ≡ Some v) × (Some (spell (val_succ v)) ≡ Some n)) ⊎ ((spelled a ≡ None) ×
            (option_map succ_of (step a) ≡ Some n)) → Steps (succ_of a) n
        to (inl (v, g, x)) = subst (Steps (succ_of a)) (some_same x) (next_steps a v e g)
        to (inr (g, x)) = let (b, y, z) = from_map succ_of (step a) n x in subst (Steps (succ_of a)) z (succ_steps a b (ih b y))
step_steps (pred_of a) n h = go (from_spelled (spelled a) (λ v. Some (spell (val_pred v))) (option_map pred_of (step a)) n h) (step_steps a)
  where
    go : ((v : Val) × (spelled a ≡ Some v) × (Some (spell (val_pred v)) ≡ Some n)) ⊎ ((spelled a ≡ None) ×
        (option_map pred_of (step a) ≡ Some n)) → ((b : TermTree) → step a ≡ Some b → Steps a b) → Steps (pred_of a) n
    go (inl (v, g, x)) ih = subst (Steps (pred_of a)) (some_same x) (before_steps a v g)
    go (inr (g, x)) ih = let (b, y, z) = from_map pred_of (step a) n x in subst (Steps (pred_of a)) z (pred_steps a b (ih b y))
step_steps (binary o a b) n h = go (from_spelled (spelled a)
    (λ v. on_spelled (spelled b) (λ w. Some (spell (val_op o v w))) (option_map (λ c. binary o a c) (step b)))
    (option_map (λ c. binary o c b) (step a)) n h) (step_steps a) (step_steps b)
  where
    go : ((v : Val) × (spelled a ≡ Some v) ×
        (on_spelled (spelled b) (λ w. Some (spell (val_op o v w))) (option_map (λ c. binary o a c) (step b)) ≡ Some n)) ⊎
        ((spelled a ≡ None) × (option_map (λ c. binary o c b) (step a) ≡ Some n)) →
        ((c : TermTree) → step a ≡ Some c → Steps a c) → ((c : TermTree) → step b ≡ Some c → Steps b c) → Steps (binary o a b) n
    go (inl (v, g, x)) ih jh = to (from_spelled (spelled b) (λ w. Some (spell (val_op o v w)))
        (option_map (λ c. binary o a c) (step b)) n x)
      where
        to : ((w : Val) × (spelled b ≡ Some w) × (Some (spell (val_op o v w)) ≡ Some n)) ⊎ ((spelled b ≡ None) ×
            (option_map (λ c. binary o a c) (step b) ≡ Some n)) → Steps (binary o a b) n
        to (inl (w, i, y)) = subst (Steps (binary o a b)) (some_same y) (op_steps o a b v w g i)
        to (inr (i, y)) = let (c, p, z) = from_map (λ c. binary o a c) (step b) n y in
            subst (Steps (binary o a b)) z (right_steps o a b c (jh c p))
    go (inr (g, x)) ih jh = let (c, y, z) = from_map (λ c. binary o c b) (step a) n x in
        subst (Steps (binary o a b)) z (binary_steps o a c b (ih c y))
step_steps (ifz c p q) n h = go (from_spelled (spelled c) (λ v. Some (at_zero v p q)) (option_map (λ b. ifz b p q) (step c)) n h)
    (step_steps c)
  where
    go : ((v : Val) × (spelled c ≡ Some v) × (Some (at_zero v p q) ≡ Some n)) ⊎ ((spelled c ≡ None) ×
        (option_map (λ b. ifz b p q) (step c) ≡ Some n)) → ((b : TermTree) → step c ≡ Some b → Steps c b) → Steps (ifz c p q) n
    go (inl (v, g, x)) ih = subst (Steps (ifz c p q)) (some_same x) (branch_steps c p q v g)
    go (inr (g, x)) ih = let (b, y, z) = from_map (λ b. ifz b p q) (step c) n x in
        subst (Steps (ifz c p q)) z (ifz_steps c b p q (ih b y))
step_steps (lam a m) n h = cc
step_steps (fix a m) n h = subst (Steps (fix a m)) (some_same h) (unfold_fix a m)
step_steps (app (lam a m) x) n h = subst (Steps (app (lam a m) x)) (some_same h) (beta a m x)
step_steps (app f x) n h = let (g, y, z) = from_map (λ g. app g x) (step f) n h in
    subst (Steps (app f x)) z (app_steps f g x (step_steps f g y))
step_steps (pair a b) n h = cc
step_steps (proj s (pair a b)) n h = subst (Steps (proj s (pair a b))) (some_same h) (take_part s a b)
step_steps (proj s a) n h = let (b, y, z) = from_map (λ b. proj s b) (step a) n h in
    subst (Steps (proj s a)) z (proj_steps s a b (step_steps a b y))

pub step_means : (m n : TermTree) → step m ≡ Some n → (v : Val) → Means m v ↔ Means n v
step_means m n h v =
    let s = step_steps m n h in (
      (λ (d, e). let (i, f) = eval_ev d m (value v) e in let (z, _, g) = s.back i (value v) f in (z, ev_eval g)),
      (λ (d, e). let (i, f) = eval_ev d n (value v) e in let (z, g) = s.forth i (value v) f in (z, ev_eval g)),
    )

-- a step at the head is the step
pub head_step : (m n : TermTree) → Head m n → step m ≡ Some n
head_step (fix a m) n e = ap Some (sym e)
head_step (app (lam a m) x) n e = ap Some (sym e)
head_step (app f x) n (g, h, e) = app_moves f x g (head_step f g h) ∙ ap Some (sym e)
head_step (proj s (pair a b)) n e = ap Some (sym e)
head_step (proj s a) n (b, h, e) = proj_moves s a b (head_step a b h) ∙ ap Some (sym e)
head_step (succ_of a) n (b, h, e) = succ_moves a b (head_step a b h) ∙ ap Some (sym e)
head_step (pred_of a) n (b, h, e) = pred_moves a b (head_step a b h) ∙ ap Some (sym e)
head_step (binary o a b) n (c, h, e) =
    let g = head_step a c h in let u = moving_unspelled a c g in
    (rw (u, g) refl) ∙ ap Some (sym e)
head_step (ifz c p q) n (b, h, e) =
    let g = head_step c b h in let u = moving_unspelled c b g in
    (rw (u, g) refl) ∙ ap Some (sym e)
head_step _ n h = elim h [ ]
