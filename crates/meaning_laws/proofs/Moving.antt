-- A closed term put beside a term that is put: the order of both doesn't matter.
use Rattle.std.proofs.Common.{◌≡◌, ◌⊎◌, ℕ, zero, suc, ◌+◌, ◌-◌, ◌<◌, ◌≤◌, cond, refl, sym, ap, ◌∙◌, inl, inr, arith}
use Rattle.std.specs.Prelude.{nat_eq, if◌then◌else◌}
use Rattle.std.proofs.lemmas.Bool.{cases_lt, cases_order, lt-ltb, le-ltb, eq-eqb, ne_eqb}
use Rattle.pcf_values.specs.Terms.{TermTree, num, var, succ_of, pred_of, binary, ifz, lam, fix, app, pair, proj}
use Rattle.cbn_meaning.specs.Substitution.{replaced, subst_at}
use Rattle.cbn_meaning.proofs.Close.{replaced_below, replaced_here, replaced_above}
use Rattle.meaning_laws.specs.Put.{raise, put_var, put}
use Rattle.meaning_laws.proofs.Below.{Below, raise_below, raise_above, raise_same, below_more, raise_same}

pub put_below : (i k : ℕ) (n : TermTree) → i < k → put_var i k n ≡ var i
put_below i k n h = ap (λ b. cond b (var i) (if nat_eq i k then raise 0 k n else var (i - 1))) (lt-ltb i k h)

pub put_here : (i k : ℕ) (n : TermTree) → i ≡ k → put_var i k n ≡ raise 0 k n
put_here i k n h = ap (λ b. cond b (var i) (if nat_eq i k then raise 0 k n else var (i - 1))) (le-ltb i k (omega arith)) ∙
    ap (λ b. cond b (raise 0 k n) (var (i - 1))) (eq-eqb i k h)

pub put_above : (i k : ℕ) (n : TermTree) → k ≤ i → put_var (suc i) k n ≡ var i
put_above i k n h = let z : suc i - 1 ≡ i = omega arith in
    ap (λ b. cond b (var (suc i)) (if nat_eq (suc i) k then raise 0 k n else var (suc i - 1))) (le-ltb (suc i) k (omega arith)) ∙
    ap (λ b. cond b (raise 0 k n) (var (suc i - 1))) (ne_eqb (suc i) k (λ e. omega arith)) ∙ ap var z

-- nothing is put into a term with its variables below the index
put_same : (m : TermTree) (k : ℕ) (n : TermTree) → Below k m → put m k n ≡ m
put_same (num v) k n h = refl
put_same (var i) k n h = put_below i k n h
put_same (succ_of a) k n h = ap succ_of (put_same a k n h)
put_same (pred_of a) k n h = ap pred_of (put_same a k n h)
put_same (binary o a b) k n h = let e = put_same a k n h.0 in let f = put_same b k n h.1 in cc
put_same (ifz c a b) k n h = let d = put_same c k n h.0 in let e = put_same a k n h.1 in let f = put_same b k n h.2 in cc
put_same (lam a m) k n h = ap (lam a) (put_same m (suc k) n h)
put_same (fix a m) k n h = ap (fix a) (put_same m (suc k) n h)
put_same (app f x) k n h = let d = put_same f k n h.0 in let e = put_same x k n h.1 in cc
put_same (pair a b) k n h = let e = put_same a k n h.0 in let f = put_same b k n h.1 in cc
put_same (proj s a) k n h = ap (proj s) (put_same a k n h)

module _ (x : TermTree) (h : Below 0 x) where
  -- a closed term is raised to itself
  raise_closed : (c d : ℕ) → raise c d x ≡ x
  raise_closed c d = raise_same x c d (below_more x 0 c (omega arith) h)

  -- a closed term put into a term that is raised, below so many binders at least
  raised_var : (i c d j k : ℕ) → c ≤ j → j + d ≡ k →
      subst_at (raise c d (var i)) k x ≡ raise c d (replaced i j x)
  raised_var i c d j k l s = go i (cases_lt i c) (cases_order i j)
    where
      go : (i : ℕ) → (i < c) ⊎ (c ≤ i) → (i ≡ j) ⊎ ((i < j) ⊎ (j < i)) → subst_at (raise c d (var i)) k x ≡ raise c d (replaced i j x)
      go i (inl b) o =
          ap (λ m. subst_at m k x) (raise_below c d i b) ∙ replaced_below i k x (omega arith)
          ∙ sym (ap (raise c d) (replaced_below i j x (omega arith)) ∙ raise_below c d i b)
      go i (inr b) (inl q) =
          ap (λ m. subst_at m k x) (raise_above c d i b) ∙ replaced_here (i + d) k x (omega arith)
          ∙ sym (ap (raise c d) (replaced_here i j x q) ∙ raise_closed c d)
      go i (inr b) (inr (inl a)) =
          ap (λ m. subst_at m k x) (raise_above c d i b) ∙ replaced_below (i + d) k x (omega arith)
          ∙ sym (ap (raise c d) (replaced_below i j x a) ∙ raise_above c d i b)
      go zero (inr b) (inr (inr a)) = absurd (omega arith)
      go (suc i) (inr b) (inr (inr a)) =
          let z : suc i + d ≡ suc (i + d) = omega arith in
          ap (λ m. subst_at m k x) (raise_above c d (suc i) b) ∙ ap (λ n. replaced n k x) z ∙ replaced_above (i + d) k x (omega arith)
          ∙ sym (ap (raise c d) (replaced_above i j x (omega arith)) ∙ raise_above c d i (omega arith))

  -- and into the whole term
  pub raised : (m : TermTree) (c d j k : ℕ) → c ≤ j → j + d ≡ k →
      subst_at (raise c d m) k x ≡ raise c d (subst_at m j x)
  raised (num v) c d j k l s = refl
  raised (var i) c d j k l s = raised_var i c d j k l s
  raised (succ_of a) c d j k l s = ap succ_of (raised a c d j k l s)
  raised (pred_of a) c d j k l s = ap pred_of (raised a c d j k l s)
  raised (binary o a b) c d j k l s = let e = raised a c d j k l s in let f = raised b c d j k l s in cc
  raised (ifz i a b) c d j k l s =
      let g = raised i c d j k l s in let e = raised a c d j k l s in let f = raised b c d j k l s in cc
  raised (lam a m) c d j k l s = ap (lam a) (raised m (suc c) d (suc j) (suc k) (omega arith) (omega arith))
  raised (fix a m) c d j k l s = ap (fix a) (raised m (suc c) d (suc j) (suc k) (omega arith) (omega arith))
  raised (app f y) c d j k l s = let e = raised f c d j k l s in let g = raised y c d j k l s in cc
  raised (pair a b) c d j k l s = let e = raised a c d j k l s in let f = raised b c d j k l s in cc
  raised (proj i a) c d j k l s = ap (proj i) (raised a c d j k l s)

  -- a closed term put into what a term was put into, is put into both before
  put_var_subst : (i j k l : ℕ) (n : TermTree) → j + k ≡ l →
      subst_at (put_var i j n) l x ≡ put (replaced i (suc l) x) j (subst_at n k x)
  put_var_subst i j k l n s = go i (cases_order i j)
    where
      y : TermTree
      y = subst_at n k x

      far : (i : ℕ) → j ≤ i → (i ≡ l) ⊎ ((i < l) ⊎ (l < i)) → replaced i l x ≡ put (replaced (suc i) (suc l) x) j y
      far i b (inl q) =
          replaced_here i l x q ∙ sym (put_same x j y (below_more x 0 j (omega arith) h))
          ∙ sym (ap (λ m. put m j y) (replaced_here (suc i) (suc l) x (omega arith)))
      far i b (inr (inl a)) =
          replaced_below i l x a ∙ sym (ap (λ m. put m j y) (replaced_below (suc i) (suc l) x (omega arith)) ∙ put_above i j y b)
      far zero b (inr (inr a)) = absurd (omega arith)
      far (suc i) b (inr (inr a)) =
          replaced_above i l x (omega arith)
          ∙ sym (ap (λ m. put m j y) (replaced_above (suc i) (suc l) x (omega arith)) ∙ put_above i j y (omega arith))

      go : (i : ℕ) → (i ≡ j) ⊎ ((i < j) ⊎ (j < i)) → subst_at (put_var i j n) l x ≡ put (replaced i (suc l) x) j y
      go i (inl q) =
          ap (λ m. subst_at m l x) (put_here i j n q) ∙ raised n 0 j k l (omega arith) (omega arith)
          ∙ sym (ap (λ m. put m j y) (replaced_below i (suc l) x (omega arith)) ∙ put_here i j y q)
      go i (inr (inl b)) =
          ap (λ m. subst_at m l x) (put_below i j n b) ∙ replaced_below i l x (omega arith)
          ∙ sym (ap (λ m. put m j y) (replaced_below i (suc l) x (omega arith)) ∙ put_below i j y b)
      go zero (inr (inr a)) = absurd (omega arith)
      go (suc i) (inr (inr a)) = ap (λ m. subst_at m l x) (put_above i j n (omega arith)) ∙ far i (omega arith) (cases_order i l)

  -- and so in the whole term
  pub put_subst : (m n : TermTree) (j k l : ℕ) → j + k ≡ l →
      subst_at (put m j n) l x ≡ put (subst_at m (suc l) x) j (subst_at n k x)
  put_subst (num v) n j k l s = refl
  put_subst (var i) n j k l s = put_var_subst i j k l n s
  put_subst (succ_of a) n j k l s = ap succ_of (put_subst a n j k l s)
  put_subst (pred_of a) n j k l s = ap pred_of (put_subst a n j k l s)
  put_subst (binary o a b) n j k l s = let e = put_subst a n j k l s in let f = put_subst b n j k l s in cc
  put_subst (ifz c a b) n j k l s =
      let d = put_subst c n j k l s in let e = put_subst a n j k l s in let f = put_subst b n j k l s in cc
  put_subst (lam a m) n j k l s = ap (lam a) (put_subst m n (suc j) k (suc l) (omega arith))
  put_subst (fix a m) n j k l s = ap (fix a) (put_subst m n (suc j) k (suc l) (omega arith))
  put_subst (app f y) n j k l s = let d = put_subst f n j k l s in let e = put_subst y n j k l s in cc
  put_subst (pair a b) n j k l s = let e = put_subst a n j k l s in let f = put_subst b n j k l s in cc
  put_subst (proj i a) n j k l s = ap (proj i) (put_subst a n j k l s)
