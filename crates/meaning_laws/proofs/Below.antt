-- Terms whose variables are all below an index: what closed terms are, structurally.
use Rattle.std.proofs.Common.{◌≡◌, ◌⊎◌, ℕ, zero, suc, ◌+◌, ◌-◌, ◌<◌, ◌≤◌, cond, List, ◌∷◌, length, refl, sym, ap}
use Rattle.std.proofs.Common.{◌∙◌, subst, inl, inr, arith}
use Rattle.std.specs.Prelude.{nat_lt, nat_eq, if◌then◌else◌}
use Rattle.std.proofs.lemmas.Bool.{cases_lt, cases_order, lt-ltb, le-ltb}
use Rattle.std.proofs.lemmas.Option.{slice_get_within}
use Rattle.pcf_values.specs.declared.val.Val.{Val}
use Rattle.pcf_values.specs.declared.val.Val.TheVariants.{Number, Overflow}
use Rattle.pcf_values.specs.Values.{at_zero}
use Rattle.pcf_values.specs.declared.side.Side.{Side}
use Rattle.pcf_values.specs.declared.side.Side.TheVariants.{Left, Right}
use Rattle.pcf_values.specs.Terms.{TyTree, nat, arrow, product, at_side, TermTree, num, var, succ_of, pred_of, binary, ifz, lam, fix}
use Rattle.pcf_values.specs.Terms.{app, pair, proj}
use Rattle.pcf_values.specs.Typing.{HasType}
use Rattle.cbn_meaning.specs.Substitution.{replaced, subst_at}
use Rattle.cbn_meaning.specs.Environments.{Closed}
use Rattle.cbn_meaning.specs.Meaning.{Res, value, closure, paired}
use Rattle.cbn_meaning.specs.Derivations.{Ev, ev_num, ev_lam, ev_succ, ev_pred, ev_binary, ev_ifz, ev_fix, ev_app, ev_pair, ev_proj}
use Rattle.cbn_meaning.proofs.Close.{replaced_below, replaced_here}
use Rattle.meaning_laws.specs.Put.{raise, put_var, put}

-- each free variable is below k
abbrev pub Below : ℕ → TermTree → Type 0
Below k (num v) = Unit {0}
Below k (var i) = i < k
Below k (succ_of a) = Below k a
Below k (pred_of a) = Below k a
Below k (binary o a b) = Below k a × Below k b
Below k (ifz c p q) = Below k c × Below k p × Below k q
Below k (lam a m) = Below (suc k) m
Below k (fix a m) = Below (suc k) m
Below k (app f x) = Below k f × Below k x
Below k (pair a b) = Below k a × Below k b
Below k (proj s a) = Below k a

-- what is below an index is below a greater one
pub below_more : (m : TermTree) (j k : ℕ) → j ≤ k → Below j m → Below k m
below_more (num v) j k l h = tt
below_more (var i) j k l h = omega arith
below_more (succ_of a) j k l h = below_more a j k l h
below_more (pred_of a) j k l h = below_more a j k l h
below_more (binary o a b) j k l h = (below_more a j k l h.0, below_more b j k l h.1)
below_more (ifz c p q) j k l h = (below_more c j k l h.0, below_more p j k l h.1, below_more q j k l h.2)
below_more (lam a m) j k l h = below_more m (suc j) (suc k) (omega arith) h
below_more (fix a m) j k l h = below_more m (suc j) (suc k) (omega arith) h
below_more (app f x) j k l h = (below_more f j k l h.0, below_more x j k l h.1)
below_more (pair a b) j k l h = (below_more a j k l h.0, below_more b j k l h.1)
below_more (proj s a) j k l h = below_more a j k l h

-- a term that no substitution from an index on changes has its variables below it
abbrev pub Still : ℕ → TermTree → Type 0
Still k m = (j : ℕ) (p : TermTree) → k ≤ j → subst_at m j p ≡ m

still_var : (k i : ℕ) → Still k (var i) → i < k
still_var k i h = go (cases_lt i k)
  where
    go : (i < k) ⊎ (k ≤ i) → i < k
    go (inl l) = l
    go (inr l) = let e = sym (replaced_here i i (num 0) refl) ∙ h i (num 0) l in cc

-- below a binder one index later
still_inner : (k : ℕ) (m : TermTree) → ((j : ℕ) (p : TermTree) → k ≤ j → subst_at m (suc j) p ≡ m) → Still (suc k) m
still_inner k m g zero p l = absurd (omega arith)
still_inner k m g (suc j) p l = g j p (omega arith)

-- so it is in the whole term
pub still_below : (m : TermTree) (k : ℕ) → Still k m → Below k m
still_below (num v) k h = tt
still_below (var i) k h = still_var k i h
still_below (succ_of a) k h = still_below a k (λ j p l. let e = h j p l in cc)
still_below (pred_of a) k h = still_below a k (λ j p l. let e = h j p l in cc)
still_below (binary o a b) k h = (still_below a k (λ j p l. let e = h j p l in cc), still_below b k (λ j p l. let e = h j p l in cc))
still_below (ifz c a b) k h = (
  still_below c k (λ j p l. let e = h j p l in cc),
  still_below a k (λ j p l. let e = h j p l in cc),
  still_below b k (λ j p l. let e = h j p l in cc),
)
still_below (lam a m) k h = still_below m (suc k) (still_inner k m (λ j p l. let e = h j p l in cc))
still_below (fix a m) k h = still_below m (suc k) (still_inner k m (λ j p l. let e = h j p l in cc))
still_below (app f x) k h = (still_below f k (λ j p l. let e = h j p l in cc), still_below x k (λ j p l. let e = h j p l in cc))
still_below (pair a b) k h = (still_below a k (λ j p l. let e = h j p l in cc), still_below b k (λ j p l. let e = h j p l in cc))
still_below (proj s a) k h = still_below a k (λ j p l. let e = h j p l in cc)

-- a closed term has no free variable
pub closed_below : (m : TermTree) → Closed m → Below 0 m
closed_below m h = still_below m 0 (λ j p l. h j p)

-- a term with its variables below an index stays, whatever is put for that index or a later one
pub subst_same : (m : TermTree) (k j : ℕ) (p : TermTree) → k ≤ j → Below k m → subst_at m j p ≡ m
subst_same (num v) k j p l h = refl
subst_same (var i) k j p l h = replaced_below i j p (omega arith)
subst_same (succ_of a) k j p l h = ap succ_of (subst_same a k j p l h)
subst_same (pred_of a) k j p l h = ap pred_of (subst_same a k j p l h)
subst_same (binary o a b) k j p l h = let e = subst_same a k j p l h.0 in let f = subst_same b k j p l h.1 in cc
subst_same (ifz c a b) k j p l h =
    let d = subst_same c k j p l h.0 in let e = subst_same a k j p l h.1 in let f = subst_same b k j p l h.2 in cc
subst_same (lam a m) k j p l h = ap (lam a) (subst_same m (suc k) (suc j) p (omega arith) h)
subst_same (fix a m) k j p l h = ap (fix a) (subst_same m (suc k) (suc j) p (omega arith) h)
subst_same (app f x) k j p l h = let d = subst_same f k j p l h.0 in let e = subst_same x k j p l h.1 in cc
subst_same (pair a b) k j p l h = let e = subst_same a k j p l h.0 in let f = subst_same b k j p l h.1 in cc
subst_same (proj s a) k j p l h = ap (proj s) (subst_same a k j p l h)

pub below_closed : (m : TermTree) → Below 0 m → Closed m
below_closed m h k p = subst_same m 0 k p (omega arith) h

-- and it is raised from there on to itself
pub raise_below : (c d i : ℕ) → i < c → raise c d (var i) ≡ var i
raise_below c d i h = ap (λ b. cond b (var i) (var (i + d))) (lt-ltb i c h)

pub raise_above : (c d i : ℕ) → c ≤ i → raise c d (var i) ≡ var (i + d)
raise_above c d i h = ap (λ b. cond b (var i) (var (i + d))) (le-ltb i c h)

-- nothing in it is raised
pub raise_same : (m : TermTree) (c d : ℕ) → Below c m → raise c d m ≡ m
raise_same (num v) c d h = refl
raise_same (var i) c d h = raise_below c d i h
raise_same (succ_of a) c d h = ap succ_of (raise_same a c d h)
raise_same (pred_of a) c d h = ap pred_of (raise_same a c d h)
raise_same (binary o a b) c d h = let e = raise_same a c d h.0 in let f = raise_same b c d h.1 in cc
raise_same (ifz i a b) c d h =
    let g = raise_same i c d h.0 in let e = raise_same a c d h.1 in let f = raise_same b c d h.2 in cc
raise_same (lam a m) c d h = ap (lam a) (raise_same m (suc c) d h)
raise_same (fix a m) c d h = ap (fix a) (raise_same m (suc c) d h)
raise_same (app f x) c d h = let e = raise_same f c d h.0 in let g = raise_same x c d h.1 in cc
raise_same (pair a b) c d h = let e = raise_same a c d h.0 in let f = raise_same b c d h.1 in cc
raise_same (proj s a) c d h = ap (proj s) (raise_same a c d h)

-- so a closed term that is put is what the meaning puts
closed_var : (i k : ℕ) (n : TermTree) → raise 0 k n ≡ n → put_var i k n ≡ replaced i k n
closed_var i k n e = ap (λ x. if nat_lt i k then var i else (if nat_eq i k then x else var (i - 1))) e

-- at every variable
pub put_closed : (m n : TermTree) (k : ℕ) → Below 0 n → put m k n ≡ subst_at m k n
put_closed (num v) n k h = refl
put_closed (var i) n k h = closed_var i k n (raise_same n 0 k h)
put_closed (succ_of a) n k h = ap succ_of (put_closed a n k h)
put_closed (pred_of a) n k h = ap pred_of (put_closed a n k h)
put_closed (binary o a b) n k h = let e = put_closed a n k h in let f = put_closed b n k h in cc
put_closed (ifz c a b) n k h = let d = put_closed c n k h in let e = put_closed a n k h in let f = put_closed b n k h in cc
put_closed (lam a m) n k h = ap (lam a) (put_closed m n (suc k) h)
put_closed (fix a m) n k h = ap (fix a) (put_closed m n (suc k) h)
put_closed (app f x) n k h = let d = put_closed f n k h in let e = put_closed x n k h in cc
put_closed (pair a b) n k h = let e = put_closed a n k h in let f = put_closed b n k h in cc
put_closed (proj s a) n k h = ap (proj s) (put_closed a n k h)

-- a closed term put for the last free variable
below_var : (i k : ℕ) (n : TermTree) → i < suc k → Below 0 n → Below k (replaced i k n)
below_var i k n l h = go (cases_order i k)
  where
    go : (i ≡ k) ⊎ ((i < k) ⊎ (k < i)) → Below k (replaced i k n)
    go (inl q) = subst (Below k) (sym (replaced_here i k n q)) (below_more n 0 k (omega arith) h)
    go (inr (inl b)) = subst (Below k) (sym (replaced_below i k n b)) b
    go (inr (inr a)) = absurd (omega arith)

-- the whole term's variables are below the index then
pub below_subst : (m n : TermTree) (k : ℕ) → Below (suc k) m → Below 0 n → Below k (subst_at m k n)
below_subst (num v) n k b h = tt
below_subst (var i) n k b h = below_var i k n b h
below_subst (succ_of a) n k b h = below_subst a n k b h
below_subst (pred_of a) n k b h = below_subst a n k b h
below_subst (binary o a c) n k b h = (below_subst a n k b.0 h, below_subst c n k b.1 h)
below_subst (ifz c p q) n k b h = (below_subst c n k b.0 h, below_subst p n k b.1 h, below_subst q n k b.2 h)
below_subst (lam a m) n k b h = below_subst m n (suc k) b h
below_subst (fix a m) n k b h = below_subst m n (suc k) b h
below_subst (app f x) n k b h = (below_subst f n k b.0 h, below_subst x n k b.1 h)
below_subst (pair a c) n k b h = (below_subst a n k b.0 h, below_subst c n k b.1 h)
below_subst (proj s a) n k b h = below_subst a n k b h

pub below_side : (s : Side) (k : ℕ) (m n : TermTree) → Below k m → Below k n → Below k (at_side s m n)
below_side Left k m n a b = a
below_side Right k m n a b = b

pub below_branch : (v : Val) (k : ℕ) (m n : TermTree) → Below k m → Below k n → Below k (at_zero v m n)
below_branch (Number zero) k m n a b = a
below_branch (Number (suc i)) k m n a b = b
below_branch Overflow k m n a b = b

-- the result of a closed term is closed
abbrev pub ResultBelow : Res → Type 0
ResultBelow (value v) = Unit {0}
ResultBelow (closure a m) = Below 1 m
ResultBelow (paired m n) = Below 0 m × Below 0 n

-- what a derivation comes to
pub result_below : {s : ℕ} {m : TermTree} {x : Res} → Ev s m x → Below 0 m → ResultBelow x
result_below ev_num b = tt
result_below ev_lam b = b
result_below (ev_succ h) b = tt
result_below (ev_pred h) b = tt
result_below (ev_binary h g) b = tt
result_below (ev_ifz {p = p} {q = q} {v = v} h g) b = result_below g (below_branch v 0 p q b.1 b.2)
result_below (ev_fix {a = a} {m = m} h) b = result_below h (below_subst m (fix a m) 0 b b)
result_below (ev_app {y = y} {m = m} h g) b = result_below g (below_subst m y 0 (result_below h b.0) b.1)
result_below ev_pair b = b
result_below (ev_proj {d = d} {m = m} {n = n} h g) b =
    let (i, j) = result_below h b in result_below g (below_side d 0 m n i j)

-- a term with a type has its variables below the number of types that are given
pub typed_below : (m : TermTree) (g : List TyTree) (t : TyTree) → HasType g m t → Below (length g) m
typed_below (num v) g t h = tt
typed_below (var i) g t h = slice_get_within g i t h
typed_below (succ_of a) g t h = typed_below a g nat h.0
typed_below (pred_of a) g t h = typed_below a g nat h.0
typed_below (binary o a b) g t h = (typed_below a g nat h.0, typed_below b g nat h.1)
typed_below (ifz c p q) g t h = (typed_below c g nat h.0, typed_below p g nat h.1, typed_below q g nat h.2)
typed_below (lam a m) g t h = typed_below m (a ∷ g) h.0 h.1
typed_below (fix a m) g t h = typed_below m (a ∷ g) a h.0
typed_below (app f x) g t h = (typed_below f g (arrow h.0 t) h.1, typed_below x g h.0 h.2)
typed_below (pair a b) g t h = (typed_below a g h.0 h.2, typed_below b g h.1 h.3)
typed_below (proj s a) g t h = typed_below a g (product h.0 h.1) h.2
