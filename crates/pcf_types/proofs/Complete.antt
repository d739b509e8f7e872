-- A tree that stands for a typed term is accepted; both the term and the type are unique.
use Rattle.std.proofs.Common.{◌≡◌, ℕ, List, ◌∷◌, Some, Ok, refl, sym, ap, ◌∙◌, subst}
use Rattle.std.specs.Prelude.{slice_get}
use Rattle.pcf_values.specs.Terms.{TyTree, nat, arrow, product, at_side, TermTree, num, var, succ_of, pred_of}
use Rattle.pcf_values.specs.declared.side.Side.{Side}
use Rattle.pcf_values.specs.declared.side.Side.TheVariants.{Left, Right}
use Rattle.pcf_values.specs.Terms.{binary, ifz, lam, fix, app, pair, proj}
use Rattle.pcf_values.specs.Typing.{HasType}
use Rattle.pcf_values.specs.Named.{the_succ, the_pred, the_part, the_fun, the_fix, NamedTree, number_at, name_at, word_at}
use Rattle.pcf_values.specs.Named.{binary_at, pair_at, ifz_at, bind_at, apply_at, place_of}
use Rattle.pcf_types.specs.declared.fault.TypeFault.TheVariants.{FixMismatch, ArgumentMismatch}
use Rattle.pcf_types.specs.Checking.{Context, variable, type_of}
use Rattle.pcf_types.specs.Resolution.{Resolves, word_term, binder_term}
use Rattle.pcf_types.specs.Correct.{names_in, types_in}
use Rattle.pcf_values.proofs.Types.{arrow_right, product_left, product_right}
use Rattle.pcf_types.proofs.SameTypes.{as_type_same}
use Rattle.pcf_types.proofs.Nearest.{found_nearest, one_binder}

-- accepted as this term, at each type that it has
abbrev pub Accepts : Context → NamedTree → TermTree → Type 0
Accepts g tree m = (t : TyTree) → HasType (types_in g) m t → type_of g tree ≡ Ok (m, t)

-- a tree that stands for a typed term is accepted with that term
pub complete : (tree : NamedTree) (g : Context) (m : TermTree) → Resolves (names_in g) tree m → Accepts g tree m
complete (number_at at n) g m e = subst (Accepts g (number_at at n)) (sym e) (λ t h. ap (λ t. Ok (num n, t)) (sym h.1))
complete (name_at at x) g m (i, d, e) = subst (Accepts g (name_at at x)) (sym e) (λ t h. ap (variable at) (found_nearest x g i t d h))
complete (word_at at the_succ a) g m (b, r, e) =
    subst (Accepts g (word_at at the_succ a)) (sym e) (λ t h. rw (complete a g b r nat h.0) (ap (λ t. Ok (succ_of b, t)) (sym h.1)))
complete (word_at at the_pred a) g m (b, r, e) =
    subst (Accepts g (word_at at the_pred a)) (sym e) (λ t h. rw (complete a g b r nat h.0) (ap (λ t. Ok (pred_of b, t)) (sym h.1)))
complete (word_at at (the_part s) a) g m (b, r, e) =
    subst (Accepts g (word_at at (the_part s) a)) (sym e)
    (λ t (c, d, h, q). rw (complete a g b r (product c d) h) (ap (λ t. Ok (proj s b, t)) (sym q)))
complete (binary_at at o a b) g m (c, d, r, s, e) =
    subst (Accepts g (binary_at at o a b)) (sym e)
    (λ t h. rw (complete a g c r nat h.0, complete b g d s nat h.1) (ap (λ t. Ok (binary o c d, t)) (sym h.2)))
complete (pair_at at a b) g m (c, d, r, s, e) =
    subst (Accepts g (pair_at at a b)) (sym e) (λ t (u, v, h, k, q). rw (complete a g c r u h, complete b g d s v k)
    (ap (λ t. Ok (pair c d, t)) (sym q)))
complete (ifz_at at c a b) g m (x, y, z, r, s, w, e) =
    subst (Accepts g (ifz_at at c a b)) (sym e)
    (λ t h. rw (complete c g x r nat h.0, complete a g y s nat h.1, complete b g z w nat h.2) (ap (λ t. Ok (ifz x y z, t)) (sym h.3)))
complete (bind_at at the_fun x a b) g m (n, r, e) =
    subst (Accepts g (bind_at at the_fun x a b)) (sym e)
    (λ t (c, h, q). rw (complete b ((x, a) ∷ g) n r c h) (ap (λ t. Ok (lam a n, t)) (sym q)))
complete (bind_at at the_fix x a b) g m (n, r, e) =
    subst (Accepts g (bind_at at the_fix x a b)) (sym e)
    (λ t (h, q). rw (complete b ((x, a) ∷ g) n r a h, as_type_same a a (FixMismatch (place_of b)) n refl)
    (ap (λ t. Ok (fix a n, t)) (sym q)))
complete (apply_at at f a) g m (n, b, r, s, e) =
    subst (Accepts g (apply_at at f a)) (sym e)
    (λ t (c, h, k). rw (
      complete f g n r (arrow c t) h,
      complete a g b s c k,
      as_type_same c c (ArgumentMismatch (place_of a)) b refl,
    ) refl)

pub typed_accepted : (g : Context) (tree : NamedTree) (m : TermTree) (t : TyTree) → Resolves (names_in g) tree m →
    HasType (types_in g) m t → type_of g tree ≡ Ok (m, t)
typed_accepted g tree m t r h = complete tree g m r t h

one_get : (g : List TyTree) (i : ℕ) (t u : TyTree) → slice_get g i ≡ Some t → slice_get g i ≡ Some u → t ≡ u
one_get g i t u h k = let e : Some t ≡ Some u = sym h ∙ k in cc

side_same : (s : Side) (a b c d : TyTree) → product a b ≡ product c d → at_side s a b ≡ at_side s c d
side_same Left a b c d e = product_left e
side_same Right a b c d e = product_right e

-- a term has one type in a context
pub one_type : (g : List TyTree) (m : TermTree) (t u : TyTree) → HasType g m t → HasType g m u → t ≡ u
one_type g (num n) t u h k = h.1 ∙ sym k.1
one_type g (var i) t u h k = one_get g i t u h k
one_type g (succ_of a) t u h k = h.1 ∙ sym k.1
one_type g (pred_of a) t u h k = h.1 ∙ sym k.1
one_type g (binary o a b) t u h k = h.2 ∙ sym k.2
one_type g (ifz c p q) t u h k = h.3 ∙ sym k.3
one_type g (lam a m) t u (b, h, e) (c, k, q) = e ∙ ap (arrow a) (one_type (a ∷ g) m b c h k) ∙ sym q
one_type g (fix a m) t u h k = h.1 ∙ sym k.1
one_type g (app f x) t u (a, h, i) (b, k, j) = arrow_right (one_type g f (arrow a t) (arrow b u) h k)
one_type g (pair m n) t u (a, b, h, i, e) (c, d, k, j, q) =
    let x = one_type g m a c h k in
    let y = one_type g n b d i j in
    e ∙ (λ z. product (x z) (y z)) ∙ sym q
one_type g (proj s m) t u (a, b, h, e) (c, d, k, q) = e ∙ side_same s a b c d (one_type g m (product a b) (product c d) h k) ∙ sym q

-- a tree stands for one term under the same names
pub one_term : (s : List (List ℕ)) (tree : NamedTree) (m n : TermTree) → Resolves s tree m → Resolves s tree n → m ≡ n
one_term s (number_at at v) m n h k = h ∙ sym k
one_term s (name_at at x) m n (i, d, e) (j, f, q) = e ∙ ap var (one_binder s x i j d f) ∙ sym q
one_term s (word_at at w a) m n (b, r, e) (c, f, q) = e ∙ ap (word_term w) (one_term s a b c r f) ∙ sym q
one_term s (binary_at at o a b) m n (c, d, r, f, e) (c', d', r', f', q) =
    let x = one_term s a c c' r r' in
    let y = one_term s b d d' f f' in
    e ∙ (λ z. binary o (x z) (y z)) ∙ sym q
one_term s (pair_at at a b) m n (c, d, r, f, e) (c', d', r', f', q) =
    let x = one_term s a c c' r r' in
    let y = one_term s b d d' f f' in
    e ∙ (λ z. pair (x z) (y z)) ∙ sym q
one_term s (ifz_at at t a b) m n (c, d, d2, r, f, f2, e) (c', d', d2', r', f', f2', q) =
    let w = one_term s t c c' r r' in
    let x = one_term s a d d' f f' in
    let y = one_term s b d2 d2' f2 f2' in
    e ∙ (λ z. ifz (w z) (x z) (y z)) ∙ sym q
one_term s (bind_at at b x a t) m n (c, r, e) (d, f, q) = e ∙ ap (binder_term b a) (one_term (x ∷ s) t c d r f) ∙ sym q
one_term s (apply_at at t a) m n (c, d, r, f, e) (c', d', r', f', q) =
    let x = one_term s t c c' r r' in
    let y = one_term s a d d' f f' in
    e ∙ (λ z. app (x z) (y z)) ∙ sym q
