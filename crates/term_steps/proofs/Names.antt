-- The step on terms with names is the step of the term that the tree stands for.
use Rattle.std.proofs.Common.{◌≡◌, ◌≢◌, ◌⊎◌, ℕ, zero, suc, ◌<◌, ◌≤◌, Bool, true, false, cond, List, [], ◌∷◌, ◌++◌, length, Some, refl}
use Rattle.std.proofs.Common.{sym, ap, ◌∙◌, subst, inl, inr, arith}
use Rattle.std.specs.Prelude.{slice_get}
use Rattle.std.specs.Str.{bytes_eq}
use Rattle.std.proofs.lemmas.Bool.{cases_lt}
use Rattle.std.proofs.lemmas.Option.{slice_get_within}
use Rattle.std.proofs.lemmas.Slice.Eq.{bytes_eq-Decides}
use Rattle.pcf_values.specs.Terms.{TyTree, TermTree, var}
use Rattle.pcf_values.specs.Named.{Word, the_succ, the_pred, the_part, Binder, the_fun, the_fix, NamedTree, number_at, name_at, word_at}
use Rattle.pcf_values.specs.Named.{binary_at, pair_at, ifz_at, bind_at, apply_at}
use Rattle.pcf_values.proofs.Plain.{told_apart, get_front}
use Rattle.pcf_types.specs.Resolution.{Binds, word_term, binder_term, Resolves}
use Rattle.cbn_meaning.specs.Substitution.{replaced, subst_at}
use Rattle.cbn_meaning.proofs.Close.{replaced_below, replaced_here}
use Rattle.term_steps.specs.Names.{put}

-- where an index points in a list with one more at its end
get_last : {A : Type 0} (s : List A) (x y : A) (i : ℕ) → length s ≤ i → slice_get (s ++ x ∷ []) i ≡ Some y → (i ≡ length s) × (x ≡ y)
get_last [] x y zero l h = (refl, cc)
get_last [] x y (suc i) l h = cc
get_last (b ∷ s) x y zero l h = absurd (omega arith)
get_last (b ∷ s) x y (suc i) l h = let (e, q) = get_last s x y i (omega arith) h in (ap suc e, q)

binds_wider : (s g : List (List ℕ)) (y : List ℕ) (i : ℕ) → Binds s y i → Binds (s ++ g) y i
binds_wider s g y i (e, h) =
    let l = slice_get_within s i y e in (
      get_front s g i l ∙ e,
      (λ j k q. h j k (sym (get_front s g j (omega (arith, k, l))) ∙ q)),
    )

binds_narrower : (s g : List (List ℕ)) (y : List ℕ) (i : ℕ) → i < length s → Binds (s ++ g) y i → Binds s y i
binds_narrower s g y i l (e, h) = (
  sym (get_front s g i l) ∙ e,
  (λ j k q. h j k (get_front s g j (omega (arith, k, l)) ∙ q)),
)

-- a tree stands for the same term under more binders further out
wider : (t : NamedTree) (s g : List (List ℕ)) (m : TermTree) → Resolves s t m → Resolves (s ++ g) t m
wider (number_at at n) s g m h = h
wider (name_at at x) s g m (i, d, e) = (i, binds_wider s g x i d, e)
wider (word_at at w a) s g m (b, r, e) = (b, wider a s g b r, e)
wider (binary_at at o a b) s g m (c, d, r, q, e) = (c, d, wider a s g c r, wider b s g d q, e)
wider (pair_at at a b) s g m (c, d, r, q, e) = (c, d, wider a s g c r, wider b s g d q, e)
wider (ifz_at at c p q) s g m (d, f, k, r, u, v, e) = (d, f, k, wider c s g d r, wider p s g f u, wider q s g k v, e)
wider (bind_at at b x a t) s g m (n, r, e) = (n, wider t (x ∷ s) g n r, e)
wider (apply_at at f a) s g m (c, d, r, q, e) = (c, d, wider f s g c r, wider a s g d q, e)

subst_word : (w : Word) (b : TermTree) (k : ℕ) (p : TermTree) → subst_at (word_term w b) k p ≡ word_term w (subst_at b k p)
subst_word the_succ b k p = refl
subst_word the_pred b k p = refl
subst_word (the_part s) b k p = refl

subst_binder : (b : Binder) (a : TyTree) (n : TermTree) (k : ℕ) (p : TermTree) →
    subst_at (binder_term b a n) k p ≡ binder_term b a (subst_at n (suc k) p)
subst_binder the_fun a n k p = refl
subst_binder the_fix a n k p = refl

-- a tree in which a nearer binder binds the name as well
shadowed_name : (s : List (List ℕ)) (x y : List ℕ) (i : ℕ) (p : TermTree) → (j : ℕ) → slice_get s j ≡ Some x →
    Binds (s ++ x ∷ []) y i → (i < length s) ⊎ (length s ≤ i) → Binds s y i × (replaced i (length s) p ≡ var i)
shadowed_name s x y i p j e d (inl l) = (binds_narrower s (x ∷ []) y i l d, replaced_below i (length s) p l)
shadowed_name s x y i p j e d (inr l) =
    let (q, z) = get_last s x y i l d.0 in
    let k = slice_get_within s j x e in
    absurd (d.1 j (omega (arith, k, l)) (get_front s (x ∷ []) j k ∙ e ∙ ap Some z))

-- where a nearer binder has the name already, what is put for the farther one changes nothing
shadowed : (t : NamedTree) (s : List (List ℕ)) (x : List ℕ) (p m : TermTree) (j : ℕ) → slice_get s j ≡ Some x →
    Resolves (s ++ x ∷ []) t m → Resolves s t (subst_at m (length s) p)
shadowed (number_at at n) s x p m j h e = ap (λ m. subst_at m (length s) p) e
shadowed (name_at at y) s x p m j h (i, d, e) =
    let (f, q) = shadowed_name s x y i p j h d (cases_lt i (length s)) in
    (i, f, ap (λ m. subst_at m (length s) p) e ∙ q)
shadowed (word_at at w a) s x p m j h (b, r, e) =
    (subst_at b (length s) p, shadowed a s x p b j h r, ap (λ m. subst_at m (length s) p) e ∙ subst_word w b (length s) p)
shadowed (binary_at at o a b) s x p m j h (c, d, r, q, e) = (
  subst_at c (length s) p,
  subst_at d (length s) p,
  shadowed a s x p c j h r,
  shadowed b s x p d j h q,
  ap (λ m. subst_at m (length s) p) e,
)
shadowed (pair_at at a b) s x p m j h (c, d, r, q, e) = (
  subst_at c (length s) p,
  subst_at d (length s) p,
  shadowed a s x p c j h r,
  shadowed b s x p d j h q,
  ap (λ m. subst_at m (length s) p) e,
)
shadowed (ifz_at at c a b) s x p m j h (d, f, k, r, u, v, e) = (
  subst_at d (length s) p,
  subst_at f (length s) p,
  subst_at k (length s) p,
  shadowed c s x p d j h r,
  shadowed a s x p f j h u,
  shadowed b s x p k j h v,
  ap (λ m. subst_at m (length s) p) e,
)
shadowed (bind_at at b y a t) s x p m j h (n, r, e) = (
  subst_at n (suc (length s)) p,
  shadowed t (y ∷ s) x p n (suc j) h r,
  ap (λ m. subst_at m (length s) p) e ∙ subst_binder b a n (length s) p,
)
shadowed (apply_at at f a) s x p m j h (c, d, r, q, e) = (
  subst_at c (length s) p,
  subst_at d (length s) p,
  shadowed f s x p c j h r,
  shadowed a s x p d j h q,
  ap (λ m. subst_at m (length s) p) e,
)

-- a name with a closed tree put for the outermost binder stands for its variable with the term put there
put_name : (at : ℕ) (y : List ℕ) (s : List (List ℕ)) (x : List ℕ) (n : NamedTree) (p : TermTree) (i : ℕ) →
    ((j : ℕ) → slice_get s j ≢ Some x) → Binds (s ++ x ∷ []) y i → Resolves [] n p → (i < length s) ⊎ (length s ≤ i) →
    Resolves s (cond (bytes_eq x y) n (name_at at y)) (replaced i (length s) p)
put_name at y s x n p i absent binds resolves (inl l) =
    let b = binds_narrower s (x ∷ []) y i l binds in
    let z : bytes_eq x y ≡ false = told_apart x y (λ q. absent i (b.0 ∙ ap Some (sym q))) in
    subst (λ z. Resolves s (cond z n (name_at at y)) (replaced i (length s) p)) (sym z) (i, b, replaced_below i (length s) p l)
put_name at y s x n p i absent binds resolves (inr l) =
    let (q, e) = get_last s x y i l binds.0 in
    let z : bytes_eq x y ≡ true = (bytes_eq-Decides x y).1 e in
    subst (λ z. Resolves s (cond z n (name_at at y)) (replaced i (length s) p)) (sym z)
    (subst (Resolves s n) (sym (replaced_here i (length s) p q)) (wider n [] s p resolves))

fresh : (s : List (List ℕ)) (x y : List ℕ) → x ≢ y → ((j : ℕ) → slice_get s j ≢ Some x) → (j : ℕ) → slice_get (y ∷ s) j ≢ Some x
fresh s x y n f zero e = n (cc)
fresh s x y n f (suc j) e = f j e

-- what is put for the outermost binder's name
pub put_resolves : (t : NamedTree) (s : List (List ℕ)) (x : List ℕ) (n : NamedTree) (p m : TermTree) →
    ((j : ℕ) → slice_get s j ≢ Some x) → Resolves (s ++ x ∷ []) t m → Resolves [] n p → Resolves s (put x n t) (subst_at m (length s) p)
put_resolves (number_at at k) s x n p m absent is resolves = ap (λ m. subst_at m (length s) p) is
put_resolves (name_at at y) s x n p m absent (i, d, e) resolves =
    subst (λ m. Resolves s (cond (bytes_eq x y) n (name_at at y)) (subst_at m (length s) p)) (sym e)
    (put_name at y s x n p i absent d resolves (cases_lt i (length s)))
put_resolves (word_at at w a) s x n p m absent (b, q, e) resolves =
    (subst_at b (length s) p, put_resolves a s x n p b absent q resolves, ap (λ m. subst_at m (length s) p) e ∙ subst_word w b (length s) p)
put_resolves (binary_at at o a b) s x n p m absent (c, d, q, u, e) resolves = (
  subst_at c (length s) p,
  subst_at d (length s) p,
  put_resolves a s x n p c absent q resolves,
  put_resolves b s x n p d absent u resolves,
  ap (λ m. subst_at m (length s) p) e,
)
put_resolves (pair_at at a b) s x n p m absent (c, d, q, u, e) resolves = (
  subst_at c (length s) p,
  subst_at d (length s) p,
  put_resolves a s x n p c absent q resolves,
  put_resolves b s x n p d absent u resolves,
  ap (λ m. subst_at m (length s) p) e,
)
put_resolves (ifz_at at c a b) s x n p m absent (d, g, k, q, u, v, e) resolves = (
  subst_at d (length s) p,
  subst_at g (length s) p,
  subst_at k (length s) p,
  put_resolves c s x n p d absent q resolves,
  put_resolves a s x n p g absent u resolves,
  put_resolves b s x n p k absent v resolves,
  ap (λ m. subst_at m (length s) p) e,
)
put_resolves (bind_at at b y a t) s x n p m absent (c, q, e) resolves = go (bytes_eq x y) refl (put_resolves t (y ∷ s) x n p c)
  where
    go : (z : Bool) → bytes_eq x y ≡ z → (((j : ℕ) → slice_get (y ∷ s) j ≢ Some x) → Resolves ((y ∷ s) ++ x ∷ []) t c → Resolves [] n p →
        Resolves (y ∷ s) (put x n t) (subst_at c (length (y ∷ s)) p)) →
        Resolves s (put x n (bind_at at b y a t)) (subst_at m (length s) p)
    go true z ih = (
      subst_at c (suc (length s)) p,
      subst (λ z. Resolves (y ∷ s) (cond z t (put x n t)) (subst_at c (suc (length s)) p)) (sym z)
          (shadowed t (y ∷ s) x p c zero (ap Some (sym ((bytes_eq-Decides x y).0 z))) q),
      ap (λ m. subst_at m (length s) p) e ∙ subst_binder b a c (length s) p,
    )
    go false z ih = (
      subst_at c (suc (length s)) p,
      subst (λ z. Resolves (y ∷ s) (cond z t (put x n t)) (subst_at c (suc (length s)) p)) (sym z)
          (ih (fresh s x y (λ e. let k : true ≡ false = sym ((bytes_eq-Decides x y).1 e) ∙ z in cc) absent) q resolves),
      ap (λ m. subst_at m (length s) p) e ∙ subst_binder b a c (length s) p,
    )
put_resolves (apply_at at g a) s x n p m absent (c, d, q, u, e) resolves = (
  subst_at c (length s) p,
  subst_at d (length s) p,
  put_resolves g s x n p c absent q resolves,
  put_resolves a s x n p d absent u resolves,
  ap (λ m. subst_at m (length s) p) e,
)

pub put_once : (t : NamedTree) (x : List ℕ) (n : NamedTree) (p m : TermTree) → Resolves (x ∷ []) t m → Resolves [] n p →
    Resolves [] (put x n t) (subst_at m zero p)
put_once t x n p m q r = put_resolves t [] x n p m (λ j e. cc) q r
