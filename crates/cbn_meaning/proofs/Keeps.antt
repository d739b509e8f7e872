-- What keeps the type of a closed term: more context, substitution, a step at the head, and evaluation.
use Rattle.std.proofs.Common.{◌≡◌, ◌⊎◌, ℕ, zero, suc, ◌+◌, ◌<◌, ◌≤◌, List, []}
use Rattle.std.proofs.Common.{◌∷◌, ◌++◌, length, Some, refl, sym, subst, inl, inr, arith}
use Rattle.std.specs.Prelude.{slice_get}
use Rattle.std.proofs.lemmas.Bool.{cases_order}
use Rattle.pcf_values.specs.declared.val.Val.{Val}
use Rattle.pcf_values.specs.declared.val.Val.TheVariants.{Number, Overflow}
use Rattle.pcf_values.specs.Values.{within, val_succ, val_pred, val_op, at_zero}
use Rattle.pcf_values.specs.declared.operator.Operator.{Operator}
use Rattle.pcf_values.specs.Terms.{TyTree, nat, arrow, product, at_side, TermTree, num, var, succ_of, pred_of}
use Rattle.pcf_values.specs.declared.side.Side.{Side}
use Rattle.pcf_values.specs.declared.side.Side.TheVariants.{Left, Right}
use Rattle.pcf_values.specs.Terms.{binary, ifz, lam, fix, app, pair, proj}
use Rattle.pcf_values.specs.Typing.{HasType}
use Rattle.pcf_values.proofs.Types.{arrow_left, arrow_right, product_left, product_right}
use Rattle.pcf_values.proofs.Arithmetic.{IsSmall, within_small, op_small}
use Rattle.cbn_meaning.specs.Substitution.{replaced, subst_at}
use Rattle.cbn_meaning.specs.Meaning.{Res, value, closure, paired, eval, on_value}
use Rattle.cbn_meaning.specs.HeadSteps.{Head}
use Rattle.cbn_meaning.specs.Laws.{ResultHasType}
use Rattle.cbn_meaning.proofs.Close.{replaced_below, replaced_here, replaced_above}
use Rattle.cbn_meaning.proofs.Depth.{from_value, from_closure, from_pair}

get_append : {A : Type 0} (g h : List A) (i : ℕ) (t : A) → slice_get g i ≡ Some t → slice_get (g ++ h) i ≡ Some t
get_append [] h i t e = cc
get_append (a ∷ g) h zero t e = e
get_append (a ∷ g) h (suc i) t e = get_append g h i t e

-- a term has its type in a longer context
pub wider : (m : TermTree) (g h : List TyTree) (t : TyTree) → HasType g m t → HasType (g ++ h) m t
wider (num n) g h t e = e
wider (var i) g h t e = get_append g h i t e
wider (succ_of a) g h t e = (wider a g h nat e.0, e.1)
wider (pred_of a) g h t e = (wider a g h nat e.0, e.1)
wider (binary o a b) g h t e = (wider a g h nat e.0, wider b g h nat e.1, e.2)
wider (ifz c p q) g h t e = (wider c g h nat e.0, wider p g h nat e.1, wider q g h nat e.2, e.3)
wider (lam a m) g h t e = (e.0, wider m (a ∷ g) h e.0 e.1, e.2)
wider (fix a m) g h t e = (wider m (a ∷ g) h a e.0, e.1)
wider (app f x) g h t e = (e.0, wider f g h (arrow e.0 t) e.1, wider x g h e.0 e.2)
wider (pair a b) g h t e = (e.0, e.1, wider a g h e.0 e.2, wider b g h e.1 e.3, e.4)
wider (proj s a) g h t e = (e.0, e.1, wider a g h (product e.0 e.1) e.2, e.3)

-- where an index points in a context with one type in the middle
get_before : {A : Type 0} (f g : List A) (a : A) (i : ℕ) (t : A) → i < length f → slice_get (f ++ a ∷ g) i ≡ Some t →
    slice_get (f ++ g) i ≡ Some t
get_before [] g a i t l e = absurd (omega arith)
get_before (b ∷ f) g a zero t l e = e
get_before (b ∷ f) g a (suc i) t l e = get_before f g a i t (omega arith) e

get_there : {A : Type 0} (f g : List A) (a : A) (t : A) → slice_get (f ++ a ∷ g) (length f) ≡ Some t → a ≡ t
get_there [] g a t e = cc
get_there (b ∷ f) g a t e = get_there f g a t e

get_after : {A : Type 0} (f g : List A) (a : A) (i : ℕ) (t : A) → length f ≤ i → slice_get (f ++ a ∷ g) (suc i) ≡ Some t →
    slice_get (f ++ g) i ≡ Some t
get_after [] g a i t l e = e
get_after (b ∷ f) g a zero t l e = absurd (omega arith)
get_after (b ∷ f) g a (suc i) t l e = get_after f g a i t (omega arith) e

-- a variable has the type that it had after a term of the right type was put for one of the context's
subst_var_typed : (i : ℕ) (f g : List TyTree) (n : TermTree) (a t : TyTree) → slice_get (f ++ a ∷ g) i ≡ Some t →
    HasType (f ++ g) n a → HasType (f ++ g) (replaced i (length f) n) t
subst_var_typed i f g n a t found typed = go i found (cases_order i (length f))
  where
    go : (i : ℕ) → slice_get (f ++ a ∷ g) i ≡ Some t → (i ≡ length f) ⊎ ((i < length f) ⊎ (length f < i)) →
        HasType (f ++ g) (replaced i (length f) n) t
    go i e (inl q) =
        let at : slice_get (f ++ a ∷ g) (length f) ≡ Some t = subst (λ k. slice_get (f ++ a ∷ g) k ≡ Some t) q e in
        subst (λ m. HasType (f ++ g) m t) (sym (replaced_here i (length f) n q)) (subst (HasType (f ++ g) n) (get_there f g a t at) typed)
    go i e (inr (inl l)) = subst (λ m. HasType (f ++ g) m t) (sym (replaced_below i (length f) n l)) (get_before f g a i t l e)
    go zero e (inr (inr l)) = absurd (omega arith)
    go (suc i) e (inr (inr l)) = subst (λ m. HasType (f ++ g) m t) (sym (replaced_above i (length f) n (omega arith)))
        (get_after f g a i t (omega arith) e)

-- a closed term of a type put for a variable of that type
pub subst_typed : (m : TermTree) (f g : List TyTree) (n : TermTree) (a t : TyTree) → HasType (f ++ a ∷ g) m t → HasType [] n a →
    HasType (f ++ g) (subst_at m (length f) n) t
subst_typed (num v) f g n a t e h = e
subst_typed (var i) f g n a t e h = subst_var_typed i f g n a t e (wider n [] (f ++ g) a h)
subst_typed (succ_of m) f g n a t e h = (subst_typed m f g n a nat e.0 h, e.1)
subst_typed (pred_of m) f g n a t e h = (subst_typed m f g n a nat e.0 h, e.1)
subst_typed (binary o m p) f g n a t e h = (subst_typed m f g n a nat e.0 h, subst_typed p f g n a nat e.1 h, e.2)
subst_typed (ifz c p q) f g n a t e h = (
  subst_typed c f g n a nat e.0 h,
  subst_typed p f g n a nat e.1 h,
  subst_typed q f g n a nat e.2 h,
  e.3,
)
subst_typed (lam b m) f g n a t e h = (e.0, subst_typed m (b ∷ f) g n a e.0 e.1 h, e.2)
subst_typed (fix b m) f g n a t e h = (subst_typed m (b ∷ f) g n a b e.0 h, e.1)
subst_typed (app m x) f g n a t e h = (e.0, subst_typed m f g n a (arrow e.0 t) e.1 h, subst_typed x f g n a e.0 e.2 h)
subst_typed (pair m p) f g n a t e h = (e.0, e.1, subst_typed m f g n a e.0 e.2 h, subst_typed p f g n a e.1 e.3 h, e.4)
subst_typed (proj s m) f g n a t e h = (e.0, e.1, subst_typed m f g n a (product e.0 e.1) e.2 h, e.3)

pub subst_keeps_type : (g : List TyTree) (m n : TermTree) (a t : TyTree) → HasType (a ∷ g) m t → HasType [] n a →
    HasType g (subst_at m 0 n) t
subst_keeps_type g m n a t e h = subst_typed m [] g n a t e h

-- a part of a pair has the type's part
part_typed : (s : Side) (m n : TermTree) (a b c d : TyTree) → HasType [] m c → HasType [] n d → product a b ≡ product c d →
    HasType [] (at_side s m n) (at_side s a b)
part_typed Left m n a b c d i j e = subst (HasType [] m) (sym (product_left e)) i
part_typed Right m n a b c d i j e = subst (HasType [] n) (sym (product_right e)) j

-- a step at the head
pub head_keeps_type : (m n : TermTree) (t : TyTree) → HasType [] m t → Head m n → HasType [] n t
head_keeps_type (fix a m) n t (h, e) q =
    subst (λ n. HasType [] n t) (sym q) (subst (HasType [] (subst_at m 0 (fix a m))) (sym e)
    (subst_keeps_type [] m (fix a m) a a h (h, refl)))
head_keeps_type (app (lam b m) x) n t (a, (c, f, e), y) q =
    subst (λ n. HasType [] n t) (sym q) (subst_keeps_type [] m x b t (subst (HasType (b ∷ []) m) (sym (arrow_right e)) f)
    (subst (HasType [] x) (arrow_left e) y))
head_keeps_type (app f x) n t (a, h, y) (g, k, q) = subst (λ n. HasType [] n t) (sym q) (a, head_keeps_type f g (arrow a t) h k, y)
head_keeps_type (proj s (pair m p)) n t (a, b, (c, d, i, j, e), z) q =
    subst (λ n. HasType [] n t) (sym q) (subst (HasType [] (at_side s m p)) (sym z) (part_typed s m p a b c d i j e))
head_keeps_type (proj s m) n t (a, b, h, z) (g, k, q) =
    subst (λ n. HasType [] n t) (sym q) (a, b, head_keeps_type m g (product a b) h k, z)
head_keeps_type (succ_of a) n t (h, e) (b, k, q) = subst (λ n. HasType [] n t) (sym q) (head_keeps_type a b nat h k, e)
head_keeps_type (pred_of a) n t (h, e) (b, k, q) = subst (λ n. HasType [] n t) (sym q) (head_keeps_type a b nat h k, e)
head_keeps_type (binary o a b) n t (h, i, e) (c, k, q) = subst (λ n. HasType [] n t) (sym q) (head_keeps_type a c nat h k, i, e)
head_keeps_type (ifz c p r) n t (h, i, j, e) (b, k, q) = subst (λ n. HasType [] n t) (sym q) (head_keeps_type c b nat h k, i, j, e)
head_keeps_type _ n t h k = elim k [ ]

-- a value as a result: a number is below 2 ^ 64
abbrev pub Fits : Val → Type 0
Fits v = ResultHasType (value v) nat

small_fits : (v : Val) → IsSmall v → Fits v
small_fits (Number n) h = (h, refl)
small_fits Overflow h = refl

fits_small : (v : Val) → Fits v → IsSmall v
fits_small (Number n) h = h.0
fits_small Overflow h = tt

succ_fits : (v : Val) → Fits v → Fits (val_succ v)
succ_fits (Number n) h = small_fits (within (n + 1)) (within_small (n + 1))
succ_fits Overflow h = refl

pred_fits : (v : Val) → Fits v → Fits (val_pred v)
pred_fits (Number zero) h = h
pred_fits (Number (suc n)) h = (omega (arith, h.0), refl)
pred_fits Overflow h = refl

op_fits : (o : Operator) (v w : Val) → Fits v → Fits (val_op o v w)
op_fits o v w h = small_fits (val_op o v w) (op_small o v w (fits_small v h))

branch_typed : (v : Val) (p q : TermTree) → HasType [] p nat → HasType [] q nat → HasType [] (at_zero v p q) nat
branch_typed (Number zero) p q h k = h
branch_typed (Number (suc n)) p q h k = k
branch_typed Overflow p q h k = k

-- of a result of type nat that is a value, whatever its type is
pub value_nat : (v : Val) (t : TyTree) → ResultHasType (value v) t → t ≡ nat
value_nat (Number n) t h = h.1
value_nat Overflow t h = h

-- evaluation
pub result_keeps_type : (d : ℕ) (m : TermTree) (t : TyTree) (r : Res) → HasType [] m t → eval d m ≡ Some r → ResultHasType r t
result_keeps_type zero m t r h e = cc
result_keeps_type (suc d) (num n) t r h e = let q : value (Number n) ≡ r = cc in subst (λ r. ResultHasType r t) q h
result_keeps_type (suc d) (var i) t r h e = cc
result_keeps_type (suc d) (succ_of a) t r h e =
    let (v, i, g) = from_value (eval d a) (λ v. Some (value (val_succ v))) r e in
    let q : value (val_succ v) ≡ r = cc in
    subst (λ r. ResultHasType r t) q (subst (ResultHasType (value (val_succ v))) (sym h.1)
    (succ_fits v (result_keeps_type d a nat (value v) h.0 i)))
result_keeps_type (suc d) (pred_of a) t r h e =
    let (v, i, g) = from_value (eval d a) (λ v. Some (value (val_pred v))) r e in
    let q : value (val_pred v) ≡ r = cc in
    subst (λ r. ResultHasType r t) q (subst (ResultHasType (value (val_pred v))) (sym h.1)
    (pred_fits v (result_keeps_type d a nat (value v) h.0 i)))
result_keeps_type (suc d) (binary o a b) t r h e =
    let (v, i, g) = from_value (eval d a) (λ v. on_value (eval d b) (λ w. Some (value (val_op o v w)))) r e in
    let (w, j, k) = from_value (eval d b) (λ w. Some (value (val_op o v w))) r g in
    let q : value (val_op o v w) ≡ r = cc in
    subst (λ r. ResultHasType r t) q (subst (ResultHasType (value (val_op o v w))) (sym h.2)
    (op_fits o v w (result_keeps_type d a nat (value v) h.0 i)))
result_keeps_type (suc d) (ifz c p q) t r h e =
    let (v, i, g) = from_value (eval d c) (λ v. eval d (at_zero v p q)) r e in
    subst (ResultHasType r) (sym h.3) (result_keeps_type d (at_zero v p q) nat r (branch_typed v p q h.1 h.2) g)
result_keeps_type (suc d) (lam a m) t r h e = let q : closure a m ≡ r = cc in subst (λ r. ResultHasType r t) q h
result_keeps_type (suc d) (fix a m) t r h e =
    result_keeps_type d (subst_at m 0 (fix a m)) t r
    (subst (HasType [] (subst_at m 0 (fix a m))) (sym h.1) (subst_keeps_type [] m (fix a m) a a h.0 (h.0, refl))) e
result_keeps_type (suc d) (app f x) t r (a, hf, hx) e =
    let (b, m, i, g) = from_closure (eval d f) (λ m. eval d (subst_at m 0 x)) r e in
    let (c, hm, q) = result_keeps_type d f (arrow a t) (closure b m) hf i in
    result_keeps_type d (subst_at m 0 x) t r (subst_keeps_type [] m x b t (subst (HasType (b ∷ []) m) (sym (arrow_right q)) hm)
    (subst (HasType [] x) (arrow_left q) hx)) g
result_keeps_type (suc d) (pair m n) t r h e = let q : paired m n ≡ r = cc in subst (λ r. ResultHasType r t) q h
result_keeps_type (suc d) (proj s a) t r (b, c, h, z) e =
    let (m, n, i, g) = from_pair (eval d a) (λ m n. eval d (at_side s m n)) r e in
    let (b', c', hm, hn, q) = result_keeps_type d a (product b c) (paired m n) h i in
    result_keeps_type d (at_side s m n) t r (subst (HasType [] (at_side s m n)) (sym z) (part_typed s m n b c b' c' hm hn q)) g
