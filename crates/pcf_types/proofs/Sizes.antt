-- The term has the tree's number of nodes and its height.
use Rattle.std.proofs.Common.{◌≡◌, ℕ, suc, ◌+◌, max, List, Ok, refl, ap, ◌∙◌}
use Rattle.pcf_values.specs.Terms.{TyTree, TermTree, size, height}
use Rattle.pcf_values.specs.Named.{Word, the_succ, the_pred, the_part, Binder, the_fun, the_fix, NamedTree, number_at, name_at}
use Rattle.pcf_values.specs.Named.{word_at, binary_at, pair_at, ifz_at, bind_at, apply_at, named_height}
use Rattle.pcf_values.specs.NamedSize.{named_size}
use Rattle.pcf_types.specs.Checking.{Context, type_of}
use Rattle.pcf_types.specs.Resolution.{Resolves, word_term, binder_term}
use Rattle.pcf_types.proofs.Sound.{good}

word_size : (w : Word) (m : TermTree) → size (word_term w m) ≡ suc (size m)
word_size the_succ m = refl
word_size the_pred m = refl
word_size (the_part s) m = refl

word_height : (w : Word) (m : TermTree) → height (word_term w m) ≡ suc (height m)
word_height the_succ m = refl
word_height the_pred m = refl
word_height (the_part s) m = refl

binder_size : (b : Binder) (a : TyTree) (m : TermTree) → size (binder_term b a m) ≡ suc (size m)
binder_size the_fun a m = refl
binder_size the_fix a m = refl

binder_height : (b : Binder) (a : TyTree) (m : TermTree) → height (binder_term b a m) ≡ suc (height m)
binder_height the_fun a m = refl
binder_height the_fix a m = refl

pub resolved_size : (tree : NamedTree) (s : List (List ℕ)) (m : TermTree) → Resolves s tree m → size m ≡ named_size tree
resolved_size (number_at at n) s m e = ap size e
resolved_size (name_at at x) s m (i, d, e) = ap size e
resolved_size (word_at at w a) s m (b, r, e) = ap size e ∙ word_size w b ∙ ap suc (resolved_size a s b r)
resolved_size (binary_at at o a b) s m (c, d, r, f, e) = ap size e ∙ (λ k. suc (resolved_size a s c r k + resolved_size b s d f k))
resolved_size (pair_at at a b) s m (c, d, r, f, e) = ap size e ∙ (λ k. suc (resolved_size a s c r k + resolved_size b s d f k))
resolved_size (ifz_at at t a b) s m (x, c, d, u, r, f, e) = ap size e ∙
    (λ k. suc (resolved_size t s x u k + resolved_size a s c r k + resolved_size b s d f k))
resolved_size (bind_at at b x a t) s m (n, r, e) = ap size e ∙ binder_size b a n ∙ ap suc (resolved_size t _ n r)
resolved_size (apply_at at f a) s m (c, d, r, q, e) = ap size e ∙ (λ k. suc (resolved_size f s c r k + resolved_size a s d q k))

-- a term is as high as the tree that stands for it
pub resolved_height : (tree : NamedTree) (s : List (List ℕ)) (m : TermTree) → Resolves s tree m → height m ≡ named_height tree
resolved_height (number_at at n) s m e = ap height e
resolved_height (name_at at x) s m (i, d, e) = ap height e
resolved_height (word_at at w a) s m (b, r, e) = ap height e ∙ word_height w b ∙ ap suc (resolved_height a s b r)
resolved_height (binary_at at o a b) s m (c, d, r, f, e) = ap height e ∙
    (λ k. suc (max (resolved_height a s c r k) (resolved_height b s d f k)))
resolved_height (pair_at at a b) s m (c, d, r, f, e) = ap height e ∙
    (λ k. suc (max (resolved_height a s c r k) (resolved_height b s d f k)))
resolved_height (ifz_at at t a b) s m (x, c, d, u, r, f, e) =
    ap height e ∙ (λ k. suc (max (resolved_height t s x u k) (max (resolved_height a s c r k) (resolved_height b s d f k))))
resolved_height (bind_at at b x a t) s m (n, r, e) = ap height e ∙ binder_height b a n ∙ ap suc (resolved_height t _ n r)
resolved_height (apply_at at f a) s m (c, d, r, q, e) = ap height e ∙
    (λ k. suc (max (resolved_height f s c r k) (resolved_height a s d q k)))

pub typed_size : (g : Context) (tree : NamedTree) (m : TermTree) (t : TyTree) → type_of g tree ≡ Ok (m, t) →
    (size m ≡ named_size tree) × (height m ≡ named_height tree)
typed_size g tree m t h = let (r, _) = good tree g (m, t) h in (resolved_size tree _ m r, resolved_height tree _ m r)
