-- The rules of inference and the step say the same.
use Rattle.std.proofs.Common.{◌≡◌, ◌↔◌, ◌⊎◌, Some, None, refl, sym, ◌∙◌, subst, inl, inr}
use Rattle.std.specs.Option.{option_map}
use Rattle.pcf_values.specs.declared.val.Val.{Val}
use Rattle.pcf_values.specs.Values.{val_succ, val_pred, val_op, at_zero}
use Rattle.pcf_values.specs.declared.operator.Operator.{Operator}
use Rattle.pcf_values.specs.Terms.{TermTree, num, var, succ_of, pred_of, binary, ifz, lam, fix, app, pair, proj}
use Rattle.term_steps.specs.Steps.{spelled, spell, step}
use Rattle.term_steps.specs.Spelled.{on_spelled}
use Rattle.term_steps.specs.Rules.{Reduces, by_fix, by_fun, by_part, by_succ, by_pred, by_op, by_ifz, in_succ, in_pred, in_left, in_right}
use Rattle.term_steps.specs.Rules.{in_test, in_app, in_proj}
use Rattle.term_steps.proofs.Keeps.{some_same}
use Rattle.term_steps.proofs.Options.{from_map, from_spelled, succ_moves, pred_moves, app_moves, proj_moves, moving_unspelled}

left_moves : (o : Operator) (a b n : TermTree) → step a ≡ Some n → step (binary o a b) ≡ Some (binary o n b)
left_moves o a b n e = let u = moving_unspelled a n e in rw (u, e) refl

right_moves : (o : Operator) (a b n : TermTree) (v : Val) → spelled a ≡ Some v → step b ≡ Some n → step (binary o a b) ≡ Some (binary o a n)
right_moves o a b n v h e = let u = moving_unspelled b n e in rw (h, u, e) refl

test_moves : (c p q n : TermTree) → step c ≡ Some n → step (ifz c p q) ≡ Some (ifz n p q)
test_moves c p q n e = let u = moving_unspelled c n e in rw (u, e) refl

-- what the rules of inference rewrite is what the step rewrites
rule_step : (m n : TermTree) → Reduces m n → step m ≡ Some n
rule_step _ _ by_fix = refl
rule_step _ _ by_fun = refl
rule_step _ _ by_part = refl
rule_step _ _ (by_succ e f) = rw (f, e) refl
rule_step _ _ (by_pred e) = rw e refl
rule_step _ _ (by_op e f) = rw (e, f) refl
rule_step _ _ (by_ifz e) = rw e refl
rule_step _ _ (in_succ {a = a} {b = b} h) = succ_moves a b (rule_step a b h)
rule_step _ _ (in_pred {a = a} {b = b} h) = pred_moves a b (rule_step a b h)
rule_step _ _ (in_left {o = o} {a = a} {b = b} {c = c} h) = left_moves o a b c (rule_step a c h)
rule_step _ _ (in_right {o = o} {a = a} {b = b} {c = c} {v = v} e h) = right_moves o a b c v e (rule_step b c h)
rule_step _ _ (in_test {c = c} {d = d} {p = p} {q = q} h) = test_moves c p q d (rule_step c d h)
rule_step _ _ (in_app {f = f} {g = g} {x = x} h) = app_moves f x g (rule_step f g h)
rule_step _ _ (in_proj {s = s} {a = a} {b = b} h) = proj_moves s a b (rule_step a b h)

abbrev Ruled : TermTree → Type 0
Ruled a = (b : TermTree) → step a ≡ Some b → Reduces a b

-- and what the step rewrites, the rules do
step_rule : (m n : TermTree) → step m ≡ Some n → Reduces m n
step_rule (num k) n h = cc
step_rule (var i) n h = cc
step_rule (succ_of a) n h = go (from_spelled (spelled (succ_of a)) (λ v. None)
    (on_spelled (spelled a) (λ v. Some (spell (val_succ v))) (option_map succ_of (step a))) n h) (step_rule a)
  where
    go : ((v : Val) × (spelled (succ_of a) ≡ Some v) × (None ≡ Some n)) ⊎ ((spelled (succ_of a) ≡ None) ×
        (on_spelled (spelled a) (λ v. Some (spell (val_succ v))) (option_map succ_of (step a)) ≡ Some n)) → Ruled a → Reduces (succ_of a) n
    go (inl (v, e, f)) ih = cc
    go (inr (e, f)) ih = to (from_spelled (spelled a) (λ v. Some (spell (val_succ v))) (option_map succ_of (step a)) n f)
      where
        to : ((v : Val) × (spelled a ≡ Some v) × (Some (spell (val_succ v)) ≡ Some n)) ⊎ ((spelled a ≡ None) ×
            (option_map succ_of (step a) ≡ Some n)) → Reduces (succ_of a) n
        to (inl (v, g, x)) = subst (Reduces (succ_of a)) (some_same x) (by_succ g e)
        to (inr (g, x)) = let (b, y, z) = from_map succ_of (step a) n x in subst (Reduces (succ_of a)) z (in_succ (ih b y))
step_rule (pred_of a) n h = go (from_spelled (spelled a) (λ v. Some (spell (val_pred v))) (option_map pred_of (step a)) n h) (step_rule a)
  where
    go : ((v : Val) × (spelled a ≡ Some v) × (Some (spell (val_pred v)) ≡ Some n)) ⊎ ((spelled a ≡ None) ×
        (option_map pred_of (step a) ≡ Some n)) → Ruled a → Reduces (pred_of a) n
    go (inl (v, g, x)) ih = subst (Reduces (pred_of a)) (some_same x) (by_pred g)
    go (inr (g, x)) ih = let (b, y, z) = from_map pred_of (step a) n x in subst (Reduces (pred_of a)) z (in_pred (ih b y))
step_rule (binary o a b) n h = go (from_spelled (spelled a)
    (λ v. on_spelled (spelled b) (λ w. Some (spell (val_op o v w))) (option_map (λ c. binary o a c) (step b)))
    (option_map (λ c. binary o c b) (step a)) n h) (step_rule a) (step_rule b)
  where
    go : ((v : Val) × (spelled a ≡ Some v) ×
        (on_spelled (spelled b) (λ w. Some (spell (val_op o v w))) (option_map (λ c. binary o a c) (step b)) ≡ Some n)) ⊎
        ((spelled a ≡ None) × (option_map (λ c. binary o c b) (step a) ≡ Some n)) → Ruled a → Ruled b → Reduces (binary o a b) n
    go (inl (v, g, x)) ih jh = to (from_spelled (spelled b) (λ w. Some (spell (val_op o v w)))
        (option_map (λ c. binary o a c) (step b)) n x)
      where
        to : ((w : Val) × (spelled b ≡ Some w) × (Some (spell (val_op o v w)) ≡ Some n)) ⊎ ((spelled b ≡ None) ×
            (option_map (λ c. binary o a c) (step b) ≡ Some n)) → Reduces (binary o a b) n
        to (inl (w, i, y)) = subst (Reduces (binary o a b)) (some_same y) (by_op g i)
        to (inr (i, y)) = let (c, p, z) = from_map (λ c. binary o a c) (step b) n y in
            subst (Reduces (binary o a b)) z (in_right g (jh c p))
    go (inr (g, x)) ih jh = let (c, y, z) = from_map (λ c. binary o c b) (step a) n x in subst (Reduces (binary o a b)) z (in_left (ih c y))
step_rule (ifz c p q) n h = go (from_spelled (spelled c) (λ v. Some (at_zero v p q)) (option_map (λ b. ifz b p q) (step c)) n h)
    (step_rule c)
  where
    go : ((v : Val) × (spelled c ≡ Some v) × (Some (at_zero v p q) ≡ Some n)) ⊎ ((spelled c ≡ None) ×
        (option_map (λ b. ifz b p q) (step c) ≡ Some n)) → Ruled c → Reduces (ifz c p q) n
    go (inl (v, g, x)) ih = subst (Reduces (ifz c p q)) (some_same x) (by_ifz g)
    go (inr (g, x)) ih = let (b, y, z) = from_map (λ b. ifz b p q) (step c) n x in subst (Reduces (ifz c p q)) z (in_test (ih b y))
step_rule (lam a m) n h = cc
step_rule (fix a m) n h = subst (Reduces (fix a m)) (some_same h) by_fix
step_rule (app (lam a m) x) n h = subst (Reduces (app (lam a m) x)) (some_same h) by_fun
step_rule (app f x) n h = let (g, y, z) = from_map (λ g. app g x) (step f) n h in subst (Reduces (app f x)) z (in_app (step_rule f g y))
step_rule (pair a b) n h = cc
step_rule (proj s (pair a b)) n h = subst (Reduces (proj s (pair a b))) (some_same h) by_part
step_rule (proj s a) n h = let (b, y, z) = from_map (λ b. proj s b) (step a) n h in subst (Reduces (proj s a)) z (in_proj (step_rule a b y))

pub rules_are_step : (m n : TermTree) → Reduces m n ↔ (step m ≡ Some n)
rules_are_step m n = (rule_step m n, step_rule m n)

pub one_way : (m n p : TermTree) → Reduces m n → Reduces m p → n ≡ p
one_way m n p h g = some_same (sym (rule_step m n h) ∙ rule_step m p g)
