-- What keeps types: raising, putting, and each equation, in every context.
use Rattle.std.proofs.Common.{◌≡◌, ◌⊎◌, ℕ, zero, suc, ◌+◌, ◌-◌, ◌<◌, ◌≤◌, ◌^◌, List, [], ◌∷◌, ◌++◌, length, Some, refl, sym, ap, ◌∙◌}
use Rattle.std.proofs.Common.{subst, inl, inr, arith}
use Rattle.std.specs.Prelude.{slice_get}
use Rattle.std.proofs.lemmas.Bool.{cases_lt, cases_order}
use Rattle.pcf_values.specs.declared.val.Val.{Val}
use Rattle.pcf_values.specs.declared.val.Val.TheVariants.{Number}
use Rattle.pcf_values.specs.Values.{val_succ, val_pred, val_op, at_zero}
use Rattle.pcf_values.specs.declared.side.Side.{Side}
use Rattle.pcf_values.specs.declared.side.Side.TheVariants.{Left, Right}
use Rattle.pcf_values.specs.Terms.{TyTree, nat, arrow, product, at_side, TermTree, num, var, succ_of, pred_of, binary, ifz, lam, fix}
use Rattle.pcf_values.specs.Terms.{app, pair, proj}
use Rattle.pcf_values.specs.Typing.{HasType}
use Rattle.pcf_values.proofs.Plain.{get_front}
use Rattle.pcf_values.proofs.Types.{arrow_left, arrow_right, product_left, product_right}
use Rattle.pcf_values.proofs.Arithmetic.{IsSmall, within_small, op_small}
use Rattle.meaning_laws.specs.Put.{raise, put_var, put}
use Rattle.meaning_laws.specs.Contexts.{Context, hole, in_succ, in_pred, in_left, in_right, in_test, in_then, in_else, in_lam}
use Rattle.meaning_laws.specs.Contexts.{in_fix, in_function, in_argument, in_first, in_second, in_proj, fill}
use Rattle.meaning_laws.specs.Equations.{Equals, beta, unfolds, part, test, next, before, computed}
use Rattle.meaning_laws.proofs.Below.{raise_below, raise_above}
use Rattle.meaning_laws.proofs.Moving.{put_below, put_here, put_above}

-- an index behind the front of a list
behind : {A : Type 0} (f g : List A) (i k : ℕ) → i ≡ length f + k → slice_get (f ++ g) i ≡ slice_get g k
behind [] g i k e = let z : i ≡ k = omega (arith, e) in ap (slice_get g) z
behind (a ∷ f) g zero k e = absurd (omega (arith, e))
behind (a ∷ f) g (suc i) k e = behind f g i k (omega (arith, e))

-- a term that is raised has its type where more types stand in the middle
raise_var : (e f g : List TyTree) (i : ℕ) (t : TyTree) → slice_get (e ++ g) i ≡ Some t →
    HasType (e ++ (f ++ g)) (raise (length e) (length f) (var i)) t
raise_var e f g i t h = go (cases_lt i (length e))
  where
    go : (i < length e) ⊎ (length e ≤ i) → HasType (e ++ (f ++ g)) (raise (length e) (length f) (var i)) t
    go (inl l) =
        subst (λ m. HasType (e ++ (f ++ g)) m t) (sym (raise_below (length e) (length f) i l))
        (get_front e (f ++ g) i l ∙ sym (get_front e g i l) ∙ h)
    go (inr l) =
        let k = i - length e in
        subst (λ m. HasType (e ++ (f ++ g)) m t) (sym (raise_above (length e) (length f) i l))
        (behind e (f ++ g) (i + length f) (length f + k) (omega (arith, l)) ∙ behind f g (length f + k) k refl
        ∙ sym (behind e g i k (omega (arith, l))) ∙ h)

-- and so has the whole term
raise_typed : (m : TermTree) (e f g : List TyTree) (t : TyTree) → HasType (e ++ g) m t →
    HasType (e ++ (f ++ g)) (raise (length e) (length f) m) t
raise_typed (num v) e f g t h = h
raise_typed (var i) e f g t h = raise_var e f g i t h
raise_typed (succ_of a) e f g t h = (raise_typed a e f g nat h.0, h.1)
raise_typed (pred_of a) e f g t h = (raise_typed a e f g nat h.0, h.1)
raise_typed (binary o a b) e f g t h = (raise_typed a e f g nat h.0, raise_typed b e f g nat h.1, h.2)
raise_typed (ifz c p q) e f g t h =
    (raise_typed c e f g nat h.0, raise_typed p e f g nat h.1, raise_typed q e f g nat h.2, h.3)
raise_typed (lam a m) e f g t h = (h.0, raise_typed m (a ∷ e) f g h.0 h.1, h.2)
raise_typed (fix a m) e f g t h = (raise_typed m (a ∷ e) f g a h.0, h.1)
raise_typed (app m x) e f g t h = (h.0, raise_typed m e f g (arrow h.0 t) h.1, raise_typed x e f g h.0 h.2)
raise_typed (pair a b) e f g t h = (h.0, h.1, raise_typed a e f g h.0 h.2, raise_typed b e f g h.1 h.3, h.4)
raise_typed (proj s a) e f g t h = (h.0, h.1, raise_typed a e f g (product h.0 h.1) h.2, h.3)

-- a term put for a variable of its type
put_var_typed : (i : ℕ) (f g : List TyTree) (n : TermTree) (a t : TyTree) → slice_get (f ++ a ∷ g) i ≡ Some t → HasType g n a →
    HasType (f ++ g) (put_var i (length f) n) t
put_var_typed i f g n a t found typed = go i found (cases_order i (length f))
  where
    go : (i : ℕ) → slice_get (f ++ a ∷ g) i ≡ Some t → (i ≡ length f) ⊎ ((i < length f) ⊎ (length f < i)) →
        HasType (f ++ g) (put_var i (length f) n) t
    go i h (inl q) =
        let z : Some a ≡ Some t = sym (behind f (a ∷ g) (length f) 0 (omega arith)) ∙ ap (slice_get (f ++ a ∷ g)) (sym q) ∙ h in
        let y : a ≡ t = cc in
        subst (λ m. HasType (f ++ g) m t) (sym (put_here i (length f) n q))
        (subst (HasType (f ++ g) (raise 0 (length f) n)) y (raise_typed n [] f g a typed))
    go i h (inr (inl l)) =
        subst (λ m. HasType (f ++ g) m t) (sym (put_below i (length f) n l))
        (get_front f g i l ∙ sym (get_front f (a ∷ g) i l) ∙ h)
    go zero h (inr (inr l)) = absurd (omega (arith, l))
    go (suc i) h (inr (inr l)) =
        let k = i - length f in
        subst (λ m. HasType (f ++ g) m t) (sym (put_above i (length f) n (omega (arith, l))))
        (behind f g i k (omega (arith, l)) ∙ sym (behind f (a ∷ g) (suc i) (suc k) (omega (arith, l))) ∙ h)

-- and in the whole term
put_typed : (m : TermTree) (f g : List TyTree) (n : TermTree) (a t : TyTree) → HasType (f ++ a ∷ g) m t → HasType g n a →
    HasType (f ++ g) (put m (length f) n) t
put_typed (num v) f g n a t h k = h
put_typed (var i) f g n a t h k = put_var_typed i f g n a t h k
put_typed (succ_of m) f g n a t h k = (put_typed m f g n a nat h.0 k, h.1)
put_typed (pred_of m) f g n a t h k = (put_typed m f g n a nat h.0 k, h.1)
put_typed (binary o m p) f g n a t h k = (put_typed m f g n a nat h.0 k, put_typed p f g n a nat h.1 k, h.2)
put_typed (ifz c p q) f g n a t h k =
    (put_typed c f g n a nat h.0 k, put_typed p f g n a nat h.1 k, put_typed q f g n a nat h.2 k, h.3)
put_typed (lam b m) f g n a t h k = (h.0, put_typed m (b ∷ f) g n a h.0 h.1 k, h.2)
put_typed (fix b m) f g n a t h k = (put_typed m (b ∷ f) g n a b h.0 k, h.1)
put_typed (app m x) f g n a t h k = (h.0, put_typed m f g n a (arrow h.0 t) h.1 k, put_typed x f g n a h.0 h.2 k)
put_typed (pair m p) f g n a t h k = (h.0, h.1, put_typed m f g n a h.0 h.2 k, put_typed p f g n a h.1 h.3 k, h.4)
put_typed (proj s m) f g n a t h k = (h.0, h.1, put_typed m f g n a (product h.0 h.1) h.2 k, h.3)

part_typed : (s : Side) (g : List TyTree) (m n : TermTree) (a b c d : TyTree) → HasType g m c → HasType g n d →
    product c d ≡ product a b → HasType g (at_side s m n) (at_side s a b)
part_typed Left g m n a b c d h k e = subst (HasType g m) (product_left e) h
part_typed Right g m n a b c d h k e = subst (HasType g n) (product_right e) k

branch_typed : (i : ℕ) (g : List TyTree) (p q : TermTree) → HasType g p nat → HasType g q nat → HasType g (at_zero (Number i) p q) nat
branch_typed zero g p q h k = h
branch_typed (suc i) g p q h k = k

small_number : (v : Val) (z : ℕ) → v ≡ Number z → IsSmall v → z < 2 ^ 64
small_number v z e h = subst IsSmall e h

pred_small : (n : ℕ) → n < 2 ^ 64 → IsSmall (val_pred (Number n))
pred_small zero h = h
pred_small (suc n) h = omega (arith, h)

-- both sides of an equation have one type
equals_typed : {l r : TermTree} → Equals l r → (g : List TyTree) (t : TyTree) → HasType g l t → HasType g r t
equals_typed (beta {a = a} {m = m} {n = n}) g t (b, (c, h, e), k) =
    put_typed m [] g n a t (subst (HasType (a ∷ g) m) (sym (arrow_right e)) h) (subst (HasType g n) (arrow_left e) k)
equals_typed (unfolds {a = a} {m = m}) g t (h, e) =
    subst (HasType g (put m 0 (fix a m))) (sym e) (put_typed m [] g (fix a m) a a h (h, refl))
equals_typed (part {s = s} {m = m} {n = n}) g t (a, b, (c, d, h, k, e), z) =
    subst (HasType g (at_side s m n)) (sym z) (part_typed s g m n a b c d h k (sym e))
equals_typed (test {n = n} {p = p} {q = q}) g t (h, i, j, e) =
    subst (HasType g (at_zero (Number n) p q)) (sym e) (branch_typed n g p q i j)
equals_typed (next {n = n} {z = z} q) g t (h, e) = (small_number (val_succ (Number n)) z q (within_small (n + 1)), e)
equals_typed (before {n = n} {z = z} q) g t (h, e) = (small_number (val_pred (Number n)) z q (pred_small n h.0), e)
equals_typed (computed {o = o} {m = m} {n = n} {z = z} q) g t (h, k, e) =
    (small_number (val_op o (Number m) (Number n)) z q (op_small o (Number m) (Number n) h.0), e)

-- and so they have in every context
pub types_kept : (l r : TermTree) → Equals l r → (c : Context) (g : List TyTree) (t : TyTree) → HasType g (fill c l) t →
    HasType g (fill c r) t
types_kept l r q hole g t h = equals_typed q g t h
types_kept l r q (in_succ c) g t h = (types_kept l r q c g nat h.0, h.1)
types_kept l r q (in_pred c) g t h = (types_kept l r q c g nat h.0, h.1)
types_kept l r q (in_left o c b) g t h = (types_kept l r q c g nat h.0, h.1, h.2)
types_kept l r q (in_right o a c) g t h = (h.0, types_kept l r q c g nat h.1, h.2)
types_kept l r q (in_test c x y) g t h = (types_kept l r q c g nat h.0, h.1, h.2, h.3)
types_kept l r q (in_then d c y) g t h = (h.0, types_kept l r q c g nat h.1, h.2, h.3)
types_kept l r q (in_else d x c) g t h = (h.0, h.1, types_kept l r q c g nat h.2, h.3)
types_kept l r q (in_lam a c) g t h = (h.0, types_kept l r q c (a ∷ g) h.0 h.1, h.2)
types_kept l r q (in_fix a c) g t h = (types_kept l r q c (a ∷ g) a h.0, h.1)
types_kept l r q (in_function c x) g t h = (h.0, types_kept l r q c g (arrow h.0 t) h.1, h.2)
types_kept l r q (in_argument f c) g t h = (h.0, h.1, types_kept l r q c g h.0 h.2)
types_kept l r q (in_first c b) g t h = (h.0, h.1, types_kept l r q c g h.0 h.2, h.3, h.4)
types_kept l r q (in_second a c) g t h = (h.0, h.1, h.2, types_kept l r q c g h.1 h.3, h.4)
types_kept l r q (in_proj s c) g t h = (h.0, h.1, types_kept l r q c g (product h.0 h.1) h.2, h.3)
