-- The two steps agree, form by form.
use Rattle.std.proofs.Common.{◌≡◌, ℕ, zero, suc, [], Option, Some, None, refl, sym, ap, ◌∙◌, subst}
use Rattle.std.specs.Option.{option_map}
use Rattle.pcf_values.specs.declared.val.Val.{Val}
use Rattle.pcf_values.specs.declared.val.Val.TheVariants.{Number, Overflow}
use Rattle.pcf_values.specs.Values.{val_succ, val_pred, val_op, at_zero}
use Rattle.pcf_values.specs.Terms.{TermTree, num, succ_of, pred_of, binary, ifz, fix, app, proj}
use Rattle.pcf_values.specs.declared.side.Side.{Side}
use Rattle.pcf_values.specs.declared.side.Side.TheVariants.{Left, Right}
use Rattle.pcf_values.specs.Named.{the_succ, the_pred, the_part, the_fun, the_fix, NamedTree, number_at, name_at, word_at}
use Rattle.pcf_values.specs.Named.{binary_at, pair_at, ifz_at, bind_at, apply_at}
use Rattle.pcf_types.specs.Resolution.{Resolves}
use Rattle.term_steps.specs.Steps.{spelled, spell, step}
use Rattle.term_steps.specs.Spelled.{on_spelled}
use Rattle.term_steps.specs.Names.{named_spelled, named_spell, named_step}
use Rattle.term_steps.specs.Laws.{Agree}
use Rattle.term_steps.proofs.Names.{put_once}

-- the next of a tree spells what the next of its term spells
next_agrees : (at : ℕ) (t : NamedTree) (m : TermTree) → Resolves [] t m → named_spelled (word_at at the_succ t) ≡ spelled (succ_of m)
next_agrees at (number_at i n) m e = ap (λ m. spelled (succ_of m)) (sym e)
next_agrees at (name_at i x) m (k, d, e) = ap (λ m. spelled (succ_of m)) (sym e)
next_agrees at (word_at i the_succ a) m (b, r, e) = ap (λ m. spelled (succ_of m)) (sym e)
next_agrees at (word_at i the_pred a) m (b, r, e) = ap (λ m. spelled (succ_of m)) (sym e)
next_agrees at (word_at i (the_part s) a) m (b, r, e) = ap (λ m. spelled (succ_of m)) (sym e)
next_agrees at (binary_at i o a b) m (c, d, r, q, e) = ap (λ m. spelled (succ_of m)) (sym e)
next_agrees at (pair_at i a b) m (c, d, r, q, e) = ap (λ m. spelled (succ_of m)) (sym e)
next_agrees at (ifz_at i c a b) m (d, f, k, r, u, v, e) = ap (λ m. spelled (succ_of m)) (sym e)
next_agrees at (bind_at i the_fun x a t) m (n, r, e) = ap (λ m. spelled (succ_of m)) (sym e)
next_agrees at (bind_at i the_fix x a t) m (n, r, e) = ap (λ m. spelled (succ_of m)) (sym e)
next_agrees at (apply_at i f a) m (c, d, r, q, e) = ap (λ m. spelled (succ_of m)) (sym e)

-- a tree spells what its term spells
pub spelled_agrees : (t : NamedTree) (m : TermTree) → Resolves [] t m → named_spelled t ≡ spelled m
spelled_agrees (number_at i n) m e = ap spelled (sym e)
spelled_agrees (name_at i x) m (k, d, e) = ap spelled (sym e)
spelled_agrees (word_at i the_succ a) m (b, r, e) = next_agrees i a b r ∙ ap spelled (sym e)
spelled_agrees (word_at i the_pred a) m (b, r, e) = ap spelled (sym e)
spelled_agrees (word_at i (the_part s) a) m (b, r, e) = ap spelled (sym e)
spelled_agrees (binary_at i o a b) m (c, d, r, q, e) = ap spelled (sym e)
spelled_agrees (pair_at i a b) m (c, d, r, q, e) = ap spelled (sym e)
spelled_agrees (ifz_at i c a b) m (d, f, k, r, u, v, e) = ap spelled (sym e)
spelled_agrees (bind_at i the_fun x a t) m (n, r, e) = ap spelled (sym e)
spelled_agrees (bind_at i the_fix x a t) m (n, r, e) = ap spelled (sym e)
spelled_agrees (apply_at i f a) m (c, d, r, q, e) = ap spelled (sym e)

agree_map : (f : NamedTree → NamedTree) (g : TermTree → TermTree) (o : Option NamedTree) (p : Option TermTree) →
    ((u : NamedTree) (n : TermTree) → Resolves [] u n → Resolves [] (f u) (g n)) → Agree o p → Agree (option_map f o) (option_map g p)
agree_map f g None None h a = a
agree_map f g (Some u) (Some n) h a = h u n a
agree_map f g None (Some n) h a = elim a [ ]
agree_map f g (Some u) None h a = elim a [ ]

agree_spelled : (o p : Option Val) (f : Val → Option NamedTree) (g : Val → Option TermTree) (x : Option NamedTree) (y : Option TermTree) →
    o ≡ p → ((v : Val) → Agree (f v) (g v)) → Agree x y → Agree (on_spelled o f x) (on_spelled p g y)
agree_spelled o p f g x y e h a = subst (λ p. Agree (on_spelled o f x) (on_spelled p g y)) e (go o)
  where
    go : (o : Option Val) → Agree (on_spelled o f x) (on_spelled o g y)
    go None = a
    go (Some v) = h v

spell_resolves : (at : ℕ) (v : Val) → Resolves [] (named_spell at v) (spell v)
spell_resolves at (Number n) = refl
spell_resolves at Overflow = (num 18446744073709551615, refl, refl)

zero_agrees : (v : Val) (a b : NamedTree) (p q : TermTree) → Resolves [] a p → Resolves [] b q →
    Resolves [] (at_zero v a b) (at_zero v p q)
zero_agrees (Number zero) a b p q h k = h
zero_agrees (Number (suc n)) a b p q h k = k
zero_agrees Overflow a b p q h k = k

-- an application whose function is of each form
abbrev App : ℕ → NamedTree → TermTree → NamedTree → TermTree → Type 0
App at a b f g = Agree (named_step f) (step g) → Agree (named_step (apply_at at f a)) (step (app g b))

in_app : (at : ℕ) (a : NamedTree) (b : TermTree) (o : Option NamedTree) (p : Option TermTree) → Resolves [] a b → Agree o p →
    Agree (option_map (λ g. apply_at at g a) o) (option_map (λ g. app g b) p)
in_app at a b o p r h = agree_map (λ g. apply_at at g a) (λ g. app g b) o p (λ u n q. (n, b, q, r, refl)) h

-- an application steps as its term does, whatever form its function has
app_agrees : (at : ℕ) (f a : NamedTree) (g b : TermTree) → Resolves [] f g → Resolves [] a b → App at a b f g
app_agrees at (number_at i n) a g b e k = subst (App at a b (number_at i n)) (sym e) (in_app at a b None None k)
app_agrees at (name_at i x) a g b (j, d, e) k = subst (App at a b (name_at i x)) (sym e) (in_app at a b None None k)
app_agrees at (word_at i the_succ c) a g b (d, r, e) k = subst (App at a b (word_at i the_succ c)) (sym e)
    (in_app at a b (named_step (word_at i the_succ c)) (step (succ_of d)) k)
app_agrees at (word_at i the_pred c) a g b (d, r, e) k = subst (App at a b (word_at i the_pred c)) (sym e)
    (in_app at a b (named_step (word_at i the_pred c)) (step (pred_of d)) k)
app_agrees at (word_at i (the_part s) c) a g b (d, r, e) k = subst (App at a b (word_at i (the_part s) c)) (sym e)
    (in_app at a b (named_step (word_at i (the_part s) c)) (step (proj s d)) k)
app_agrees at (binary_at i o c d) a g b (p, q, r, s, e) k = subst (App at a b (binary_at i o c d)) (sym e)
    (in_app at a b (named_step (binary_at i o c d)) (step (binary o p q)) k)
app_agrees at (pair_at i c d) a g b (p, q, r, s, e) k = subst (App at a b (pair_at i c d)) (sym e) (in_app at a b None None k)
app_agrees at (ifz_at i c d f) a g b (p, q, r, s, u, v, e) k = subst (App at a b (ifz_at i c d f)) (sym e)
    (in_app at a b (named_step (ifz_at i c d f)) (step (ifz p q r)) k)
app_agrees at (bind_at i the_fun x t m) a g b (n, r, e) k = subst (App at a b (bind_at i the_fun x t m)) (sym e)
    (λ h. put_once m x a b n r k)
app_agrees at (bind_at i the_fix x t m) a g b (n, r, e) k = subst (App at a b (bind_at i the_fix x t m)) (sym e)
    (in_app at a b (named_step (bind_at i the_fix x t m)) (step (fix t n)) k)
app_agrees at (apply_at i f c) a g b (p, q, r, s, e) k = subst (App at a b (apply_at i f c)) (sym e)
    (in_app at a b (named_step (apply_at i f c)) (step (app p q)) k)

-- and a projection
abbrev Proj : ℕ → Side → NamedTree → TermTree → Type 0
Proj at s f g = Agree (named_step f) (step g) → Agree (named_step (word_at at (the_part s) f)) (step (proj s g))

in_proj : (at : ℕ) (s : Side) (o : Option NamedTree) (p : Option TermTree) → Agree o p →
    Agree (option_map (λ g. word_at at (the_part s) g) o) (option_map (λ g. proj s g) p)
in_proj at s o p h = agree_map (λ g. word_at at (the_part s) g) (λ g. proj s g) o p (λ u n q. (n, q, refl)) h

-- the part of a pair steps as its term does, whatever form the pair has
proj_agrees : (at : ℕ) (s : Side) (f : NamedTree) (g : TermTree) → Resolves [] f g → Proj at s f g
proj_agrees at Left (pair_at i c d) g (p, q, r, s, e) = subst (Proj at Left (pair_at i c d)) (sym e) (λ h. r)
proj_agrees at Right (pair_at i c d) g (p, q, r, s, e) = subst (Proj at Right (pair_at i c d)) (sym e) (λ h. s)
proj_agrees at s (number_at i n) g e = subst (Proj at s (number_at i n)) (sym e) (λ h. h)
proj_agrees at s (name_at i x) g (j, d, e) = subst (Proj at s (name_at i x)) (sym e) (λ h. h)
proj_agrees at s (word_at i the_succ c) g (d, r, e) = subst (Proj at s (word_at i the_succ c)) (sym e)
    (in_proj at s (named_step (word_at i the_succ c)) (step (succ_of d)))
proj_agrees at s (word_at i the_pred c) g (d, r, e) = subst (Proj at s (word_at i the_pred c)) (sym e)
    (in_proj at s (named_step (word_at i the_pred c)) (step (pred_of d)))
proj_agrees at z (word_at i (the_part s) c) g (d, r, e) = subst (Proj at z (word_at i (the_part s) c)) (sym e)
    (in_proj at z (named_step (word_at i (the_part s) c)) (step (proj s d)))
proj_agrees at z (binary_at i o c d) g (p, q, r, s, e) = subst (Proj at z (binary_at i o c d)) (sym e)
    (in_proj at z (named_step (binary_at i o c d)) (step (binary o p q)))
proj_agrees at z (ifz_at i c d f) g (p, q, r, s, u, v, e) = subst (Proj at z (ifz_at i c d f)) (sym e)
    (in_proj at z (named_step (ifz_at i c d f)) (step (ifz p q r)))
proj_agrees at s (bind_at i the_fun x t m) g (n, r, e) = subst (Proj at s (bind_at i the_fun x t m)) (sym e) (λ h. h)
proj_agrees at s (bind_at i the_fix x t m) g (n, r, e) = subst (Proj at s (bind_at i the_fix x t m)) (sym e)
    (in_proj at s (named_step (bind_at i the_fix x t m)) (step (fix t n)))
proj_agrees at z (apply_at i f c) g (p, q, r, s, e) = subst (Proj at z (apply_at i f c)) (sym e)
    (in_proj at z (named_step (apply_at i f c)) (step (app p q)))

abbrev Whole : NamedTree → TermTree → Type 0
Whole t m = Agree (named_step t) (step m)

-- a tree's step stands for the step of the term that the tree stands for
pub step_agrees : (t : NamedTree) (m : TermTree) → Resolves [] t m → Agree (named_step t) (step m)
step_agrees (number_at i n) m e = subst (Whole (number_at i n)) (sym e) record {}
step_agrees (name_at i x) m (j, d, e) = subst (Whole (name_at i x)) (sym e) record {}
step_agrees (word_at i the_succ a) m (b, r, e) = subst (Whole (word_at i the_succ a)) (sym e)
    (agree_spelled (named_spelled (word_at i the_succ a)) (spelled (succ_of b)) (λ v. None) (λ v. None)
    (on_spelled (named_spelled a) (λ v. Some (named_spell i (val_succ v))) (option_map (λ b. word_at i the_succ b) (named_step a)))
    (on_spelled (spelled b) (λ v. Some (spell (val_succ v))) (option_map succ_of (step b))) (next_agrees i a b r) (λ v. record {})
    (agree_spelled (named_spelled a) (spelled b) (λ v. Some (named_spell i (val_succ v))) (λ v. Some (spell (val_succ v)))
    (option_map (λ b. word_at i the_succ b) (named_step a)) (option_map succ_of (step b)) (spelled_agrees a b r)
    (λ v. spell_resolves i (val_succ v))
    (agree_map (λ b. word_at i the_succ b) succ_of (named_step a) (step b) (λ u n q. (n, q, refl)) (step_agrees a b r))))
step_agrees (word_at i the_pred a) m (b, r, e) = subst (Whole (word_at i the_pred a)) (sym e)
    (agree_spelled (named_spelled a) (spelled b) (λ v. Some (named_spell i (val_pred v))) (λ v. Some (spell (val_pred v)))
    (option_map (λ b. word_at i the_pred b) (named_step a)) (option_map pred_of (step b)) (spelled_agrees a b r)
    (λ v. spell_resolves i (val_pred v))
    (agree_map (λ b. word_at i the_pred b) pred_of (named_step a) (step b) (λ u n q. (n, q, refl)) (step_agrees a b r)))
step_agrees (word_at i (the_part s) a) m (b, r, e) = subst (Whole (word_at i (the_part s) a)) (sym e)
    (proj_agrees i s a b r (step_agrees a b r))
step_agrees (binary_at i o a b) m (c, d, r, q, e) = subst (Whole (binary_at i o a b)) (sym e)
    (agree_spelled (named_spelled a) (spelled c)
    (λ v. on_spelled (named_spelled b) (λ w. Some (named_spell i (val_op o v w))) (option_map (λ c. binary_at i o a c) (named_step b)))
    (λ v. on_spelled (spelled d) (λ w. Some (spell (val_op o v w))) (option_map (λ n. binary o c n) (step d)))
    (option_map (λ c. binary_at i o c b) (named_step a)) (option_map (λ n. binary o n d) (step c)) (spelled_agrees a c r)
    (λ v. agree_spelled (named_spelled b) (spelled d) (λ w. Some (named_spell i (val_op o v w))) (λ w. Some (spell (val_op o v w)))
    (option_map (λ c. binary_at i o a c) (named_step b)) (option_map (λ n. binary o c n) (step d)) (spelled_agrees b d q)
    (λ w. spell_resolves i (val_op o v w))
    (agree_map (λ c. binary_at i o a c) (λ n. binary o c n) (named_step b) (step d) (λ u n z. (c, n, r, z, refl)) (step_agrees b d q)))
    (agree_map (λ c. binary_at i o c b) (λ n. binary o n d) (named_step a) (step c) (λ u n z. (n, d, z, q, refl)) (step_agrees a c r)))
step_agrees (pair_at i a b) m (c, d, r, q, e) = subst (Whole (pair_at i a b)) (sym e) record {}
step_agrees (ifz_at i c a b) m (d, f, k, r, u, v, e) = subst (Whole (ifz_at i c a b)) (sym e)
    (agree_spelled (named_spelled c) (spelled d) (λ w. Some (at_zero w a b)) (λ w. Some (at_zero w f k))
    (option_map (λ n. ifz_at i n a b) (named_step c)) (option_map (λ n. ifz n f k) (step d)) (spelled_agrees c d r)
    (λ w. zero_agrees w a b f k u v)
    (agree_map (λ n. ifz_at i n a b) (λ n. ifz n f k) (named_step c) (step d) (λ x n z. (n, f, k, z, u, v, refl)) (step_agrees c d r)))
step_agrees (bind_at i the_fun x a t) m (n, r, e) = subst (Whole (bind_at i the_fun x a t)) (sym e) record {}
step_agrees (bind_at i the_fix x a t) m (n, r, e) = subst (Whole (bind_at i the_fix x a t)) (sym e)
    (put_once t x (bind_at i the_fix x a t) (fix a n) n r (n, r, refl))
step_agrees (apply_at i f a) m (c, d, r, q, e) = subst (Whole (apply_at i f a)) (sym e) (app_agrees i f a c d r q (step_agrees f c r))
