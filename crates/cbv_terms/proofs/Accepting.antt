-- A program has no fault exactly where its term is accepted.
use Rattle.std.proofs.Common.{◌≡◌, ◌⊎◌, ℕ, ◌<◌, ◌≤◌, true, false, List, [], ◌∷◌, Ok, refl, sym, subst}
use Rattle.std.proofs.Common.{inl, inr, arith}
use Rattle.std.proofs.lemmas.Bool.{cases_lt, false_from_ne_true, true_from_ne_false, both_ways}
use Rattle.pcf_values.specs.Terms.{TyTree, nat, arrow, product, TermTree, lam, fix}
use Rattle.pcf_values.specs.Named.{the_succ, the_pred, the_part, the_fun, the_fix, NamedTree, number_at, name_at, word_at}
use Rattle.pcf_values.specs.Named.{binary_at, pair_at, ifz_at, bind_at, apply_at, named_height}
use Rattle.pcf_types.specs.Checking.{type_of}
use Rattle.pcf_types.specs.Resolution.{Resolves}
use Rattle.pcf_types.proofs.Sound.{good}
use Rattle.pcf_types.proofs.Sizes.{typed_size}
use Rattle.cbv_terms.specs.declared.fault.ByValueFault.{ByValueFault}
use Rattle.cbv_terms.specs.declared.fault.ByValueFault.TheVariants.{NoMemory, ByValueFix, ByValuePair, ByValueDeep}
use Rattle.cbv_terms.specs.declared.limit.TheConstants.{BY_VALUE_HEIGHT}
use Rattle.cbv_terms.specs.Translation.{has_product}
use Rattle.cbv_terms.specs.Accepted.{HasTranslation, Accepted}
use Rattle.cbv_terms.specs.Faults.{is_of_fun, BinderFault, FixFault, HasFault, IsFaultless}
use Rattle.cbv_terms.proofs.Scanning.{either}

abbrev Clean : NamedTree → Type 0
Clean tree = (f : ByValueFault) → HasFault tree f → ⊥

-- a `fix` of a function's type whose body stands for a `fun`
fix_taken : (t : TyTree) (tree : NamedTree) (s : List (List ℕ)) (m : TermTree) → Resolves s tree m → HasTranslation m →
    is_of_fun t tree ≡ true → has_product t ≡ false → HasTranslation (fix t m)
fix_taken nat tree s m r h e p = cc
fix_taken (product a b) tree s m r h e p = cc
fix_taken (arrow a b) (number_at at n) s m r h e p = cc
fix_taken (arrow a b) (name_at at x) s m r h e p = cc
fix_taken (arrow a b) (word_at at w c) s m r h e p = cc
fix_taken (arrow a b) (binary_at at o c d) s m r h e p = cc
fix_taken (arrow a b) (pair_at at c d) s m r h e p = cc
fix_taken (arrow a b) (ifz_at at c d f) s m r h e p = cc
fix_taken (arrow a b) (apply_at at c d) s m r h e p = cc
fix_taken (arrow a b) (bind_at at the_fix x c d) s m r h e p = cc
fix_taken (arrow a b) (bind_at at the_fun x c d) s m (n, r, q) h e p =
    let g : HasTranslation (lam c n) = subst HasTranslation q h in
    subst (λ m. HasTranslation (fix (arrow a b) m)) (sym q) (p, g.0, g.1)

-- the term of a tree without faults has a translation
clean_taken : (tree : NamedTree) (s : List (List ℕ)) (m : TermTree) → Resolves s tree m → Clean tree → HasTranslation m
clean_taken (number_at at n) s m e h = subst HasTranslation (sym e) tt
clean_taken (name_at at x) s m (i, d, e) h = subst HasTranslation (sym e) tt
clean_taken (word_at at the_succ a) s m (b, r, e) h = subst HasTranslation (sym e) (clean_taken a s b r h)
clean_taken (word_at at the_pred a) s m (b, r, e) h = subst HasTranslation (sym e) (clean_taken a s b r h)
clean_taken (word_at at (the_part i) a) s m r h = absurd (h (ByValuePair at) (inl refl))
clean_taken (binary_at at o a b) s m (c, d, r, q, e) h =
    subst HasTranslation (sym e) (clean_taken a s c r (λ f w. h f (inl w)), clean_taken b s d q (λ f w. h f (inr w)))
clean_taken (pair_at at a b) s m r h = absurd (h (ByValuePair at) (inl refl))
clean_taken (ifz_at at c p q) s m (d, x, y, i, j, k, e) h =
    subst HasTranslation (sym e) (
      clean_taken c s d i (λ f w. h f (inl w)),
      clean_taken p s x j (λ f w. h f (inr (inl w))),
      clean_taken q s y k (λ f w. h f (inr (inr w))),
    )
clean_taken (bind_at at the_fun x t b) s m (n, r, e) h =
    subst HasTranslation (sym e) (
      false_from_ne_true (has_product t) (λ q. h (ByValuePair at) (inl (q, refl))),
      clean_taken b (x ∷ s) n r (λ f w. h f (inr w)),
    )
clean_taken (bind_at at the_fix x t b) s m (n, r, e) h =
    let p = false_from_ne_true (has_product t) (λ q. h (ByValuePair at) (inr (inl (q, refl)))) in
    let q = true_from_ne_false (is_of_fun t b) (λ q. h (ByValueFix at) (inl (q, refl))) in
    subst HasTranslation (sym e) (fix_taken t b (x ∷ s) n r (clean_taken b (x ∷ s) n r (λ f w. h f (inr (inr w)))) q p)
clean_taken (apply_at at g a) s m (c, d, r, q, e) h =
    subst HasTranslation (sym e) (clean_taken g s c r (λ f w. h f (inl w)), clean_taken a s d q (λ f w. h f (inr w)))

-- and the other way: what a `fix` that has a translation is made of
fix_product : (t : TyTree) (m : TermTree) → HasTranslation (fix t m) → has_product t ≡ false
fix_product (arrow a b) (lam c m) h = h.0
fix_product t m h = elim h [ ]

fix_body : (t : TyTree) (m : TermTree) → HasTranslation (fix t m) → HasTranslation m
fix_body (arrow a b) (lam c m) h = (h.1, h.2)
fix_body t m h = elim h [ ]

fix_of_fun : (t : TyTree) (m : TermTree) → HasTranslation (fix t m) → (a b c : TyTree) × (n : TermTree) × (t ≡ arrow a b) ×
    (m ≡ lam c n)
fix_of_fun (arrow a b) (lam c m) h = (a, b, c, m, refl, refl)
fix_of_fun t m h = elim h [ ]

-- a tree that stands for a function's term is a `fun`
lam_of_fun : (tree : NamedTree) (s : List (List ℕ)) (a b c : TyTree) (m : TermTree) → Resolves s tree (lam c m) →
    is_of_fun (arrow a b) tree ≡ true
lam_of_fun (number_at at n) s a b c m e = cc
lam_of_fun (name_at at x) s a b c m (i, d, e) = cc
lam_of_fun (word_at at the_succ t) s a b c m (n, r, e) = cc
lam_of_fun (word_at at the_pred t) s a b c m (n, r, e) = cc
lam_of_fun (word_at at (the_part i) t) s a b c m (n, r, e) = cc
lam_of_fun (binary_at at o t u) s a b c m (x, y, r, q, e) = cc
lam_of_fun (pair_at at t u) s a b c m (x, y, r, q, e) = cc
lam_of_fun (ifz_at at t u v) s a b c m (x, y, z, r, q, k, e) = cc
lam_of_fun (bind_at at the_fun x t u) s a b c m r = refl
lam_of_fun (bind_at at the_fix x t u) s a b c m (n, r, e) = cc
lam_of_fun (apply_at at t u) s a b c m (x, y, r, q, e) = cc

fix_is_of_fun : (t : TyTree) (tree : NamedTree) (s : List (List ℕ)) (m : TermTree) → Resolves s tree m → HasTranslation (fix t m) →
    is_of_fun t tree ≡ true
fix_is_of_fun t tree s m r h =
    let (a, b, c, n, e, q) = fix_of_fun t m h in
    subst (λ t. is_of_fun t tree ≡ true) (sym e) (lam_of_fun tree s a b c n (subst (Resolves s tree) q r))

-- a tree whose term has a translation has no fault
taken_clean : (tree : NamedTree) (s : List (List ℕ)) (m : TermTree) → Resolves s tree m → HasTranslation m → Clean tree
taken_clean (number_at at n) s m e h = λ f w. w
taken_clean (name_at at x) s m r h = λ f w. w
taken_clean (word_at at the_succ a) s m (b, r, e) h = taken_clean a s b r (subst HasTranslation e h)
taken_clean (word_at at the_pred a) s m (b, r, e) h = taken_clean a s b r (subst HasTranslation e h)
taken_clean (word_at at (the_part i) a) s m (b, r, e) h = absurd (subst HasTranslation e h)
taken_clean (binary_at at o a b) s m (c, d, r, q, e) h = let g = subst HasTranslation e h in
    λ f. either (taken_clean a s c r g.0 f) (taken_clean b s d q g.1 f)
taken_clean (pair_at at a b) s m (c, d, r, q, e) h = absurd (subst HasTranslation e h)
taken_clean (ifz_at at c p q) s m (d, x, y, i, j, k, e) h =
    let g = subst HasTranslation e h in λ f. either (taken_clean c s d i g.0 f)
    (either (taken_clean p s x j g.1 f) (taken_clean q s y k g.2 f))
taken_clean (bind_at at the_fun x t b) s m (n, r, e) h =
    let g = subst HasTranslation e h in λ f. either (λ (w : BinderFault at t f). both_ways (has_product t) g.0 w.0)
    (taken_clean b (x ∷ s) n r g.1 f)
taken_clean (bind_at at the_fix x t b) s m (n, r, e) h =
    let g : HasTranslation (fix t n) = subst HasTranslation e h in
    λ f. either (λ (w : FixFault at t b f). both_ways (is_of_fun t b) w.0 (fix_is_of_fun t b (x ∷ s) n r g))
    (either (λ (w : BinderFault at t f). both_ways (has_product t) (fix_product t n g) w.0) (taken_clean b (x ∷ s) n r (fix_body t n g) f))
taken_clean (apply_at at g a) s m (c, d, r, q, e) h = let i = subst HasTranslation e h in
    λ f. either (taken_clean g s c r i.0 f) (taken_clean a s d q i.1 f)

-- each fault of a node has a place
abbrev HasPlace : ByValueFault → Type 0
HasPlace f = (at : ℕ) × ((f ≡ ByValueFix at) ⊎ (f ≡ ByValuePair at))

placed_pair : (at : ℕ) (f : ByValueFault) → f ≡ ByValuePair at → HasPlace f
placed_pair at f e = (at, inr e)

-- each fault of a tree has a place, since only the whole program can be too deep
placed : (tree : NamedTree) (f : ByValueFault) → HasFault tree f → HasPlace f
placed (number_at at n) f w = absurd w
placed (name_at at x) f w = absurd w
placed (word_at at the_succ a) f w = placed a f w
placed (word_at at the_pred a) f w = placed a f w
placed (word_at at (the_part s) a) f w = either (placed_pair at f) (placed a f) w
placed (binary_at at o a b) f w = either (placed a f) (placed b f) w
placed (pair_at at a b) f w = either (placed_pair at f) (either (placed a f) (placed b f)) w
placed (ifz_at at c p q) f w = either (placed c f) (either (placed p f) (placed q f)) w
placed (bind_at at the_fun x t m) f w = either (λ (v : BinderFault at t f). placed_pair at f v.1) (placed m f) w
placed (bind_at at the_fix x t m) f w =
    either (λ (v : FixFault at t m f). (at, inl v.1)) (either (λ (v : BinderFault at t f). placed_pair at f v.1) (placed m f)) w
placed (apply_at at g a) f w = either (placed g f) (placed a f) w

no_memory : HasPlace NoMemory → ⊥
no_memory (at, inl e) = cc
no_memory (at, inr e) = cc

no_depth : HasPlace ByValueDeep → ⊥
no_depth (at, inl e) = cc
no_depth (at, inr e) = cc

clean_of : (tree : NamedTree) → IsFaultless tree → Clean tree
clean_of tree h NoMemory w = no_memory (placed tree NoMemory w)
clean_of tree h (ByValueFix at) w = h (ByValueFix at) w
clean_of tree h (ByValuePair at) w = h (ByValuePair at) w
clean_of tree h ByValueDeep w = no_depth (placed tree ByValueDeep w)

low_of : (tree : NamedTree) → IsFaultless tree → (BY_VALUE_HEIGHT < named_height tree) ⊎ (named_height tree ≤ BY_VALUE_HEIGHT) →
    named_height tree ≤ BY_VALUE_HEIGHT
low_of tree h (inl l) = absurd (h ByValueDeep l)
low_of tree h (inr l) = l

faultless_of : (tree : NamedTree) → named_height tree ≤ BY_VALUE_HEIGHT → Clean tree → IsFaultless tree
faultless_of tree l h NoMemory w = w
faultless_of tree l h (ByValueFix at) w = h (ByValueFix at) w
faultless_of tree l h (ByValuePair at) w = h (ByValuePair at) w
faultless_of tree l h ByValueDeep w = omega arith

pub faultless_accepted : (tree : NamedTree) (m : TermTree) (t : TyTree) → type_of [] tree ≡ Ok (m, t) → IsFaultless tree →
    Accepted m
faultless_accepted tree m t e h =
    let (r, _) = good tree [] (m, t) e in
    let (s, q) = typed_size [] tree m t e in
    let l = low_of tree h (cases_lt BY_VALUE_HEIGHT (named_height tree)) in
    (omega arith, clean_taken tree [] m r (clean_of tree h))

pub accepted_faultless : (tree : NamedTree) (m : TermTree) (t : TyTree) → type_of [] tree ≡ Ok (m, t) → Accepted m →
    IsFaultless tree
accepted_faultless tree m t e (l, h) =
    let (r, _) = good tree [] (m, t) e in
    let (s, q) = typed_size [] tree m t e in
    faultless_of tree (omega arith) (taken_clean tree [] m r h)
