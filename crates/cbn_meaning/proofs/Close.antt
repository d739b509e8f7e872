-- Closed terms put for all variables at once.
use Rattle.std.proofs.Common.{◌≡◌, ◌⊎◌, ℕ, zero, suc, ◌-◌, ◌<◌, ◌≤◌, cond, List, ◌∷◌, length, refl, sym}
use Rattle.std.proofs.Common.{ap, ◌∙◌, inl, inr, arith}
use Rattle.std.specs.Prelude.{nat_eq, if◌then◌else◌}
use Rattle.std.proofs.lemmas.Bool.{cases_lt, cases_order, lt-ltb, le-ltb, eq-eqb, ne_eqb}
use Rattle.std.proofs.lemmas.Option.{slice_get_within}
use Rattle.pcf_values.specs.Terms.{TyTree, nat, arrow, product, TermTree, num, var, succ_of, pred_of, binary, ifz, lam, fix, app, pair}
use Rattle.pcf_values.specs.Terms.{proj}
use Rattle.pcf_values.specs.Typing.{HasType}
use Rattle.cbn_meaning.specs.Substitution.{replaced, subst_at}
use Rattle.cbn_meaning.specs.Environments.{Closed, Env, cons, AllClosed, close_var, close}

pub cons_closed : (n : TermTree) (e : Env) → Closed n → AllClosed e → AllClosed (cons n e)
cons_closed n e h g zero = h
cons_closed n e h g (suc i) = g i

var_below : (k : ℕ) (e : Env) (i : ℕ) → i < k → close_var k e i ≡ var i
var_below k e i h = ap (λ b. cond b (var i) (e (i - k))) (lt-ltb i k h)

var_above : (k : ℕ) (e : Env) (i : ℕ) → k ≤ i → close_var k e i ≡ e (i - k)
var_above k e i h = ap (λ b. cond b (var i) (e (i - k))) (le-ltb i k h)

pub replaced_below : (i k : ℕ) (n : TermTree) → i < k → replaced i k n ≡ var i
replaced_below i k n h = ap (λ b. cond b (var i) (if nat_eq i k then n else var (i - 1))) (lt-ltb i k h)

pub replaced_here : (i k : ℕ) (n : TermTree) → i ≡ k → replaced i k n ≡ n
replaced_here i k n h = ap (λ b. cond b (var i) (if nat_eq i k then n else var (i - 1))) (le-ltb i k (omega arith)) ∙
    ap (λ b. cond b n (var (i - 1))) (eq-eqb i k h)

pub replaced_above : (i k : ℕ) (n : TermTree) → k ≤ i → replaced (suc i) k n ≡ var i
replaced_above i k n h = let z : suc i - 1 ≡ i = omega arith in
    ap (λ b. cond b (var (suc i)) (if nat_eq (suc i) k then n else var (suc i - 1))) (le-ltb (suc i) k (omega arith)) ∙
    ap (λ b. cond b n (var (suc i - 1))) (ne_eqb (suc i) k (λ e. omega arith)) ∙ ap var z

-- at a variable: what closes all but the first of the open ones, and then a term for that one, is what closes all of them
subst_var : (k : ℕ) (e : Env) (n : TermTree) (i : ℕ) → AllClosed e →
    subst_at (close_var (suc k) e i) k n ≡ close_var k (cons n e) i
subst_var k e n i h = go (cases_order i k)
  where
    go : (i ≡ k) ⊎ ((i < k) ⊎ (k < i)) → subst_at (close_var (suc k) e i) k n ≡ close_var k (cons n e) i
    go (inl q) =
        let z : i - k ≡ zero = omega arith in
        ap (λ m. subst_at m k n) (var_below (suc k) e i (omega arith)) ∙ replaced_here i k n q
        ∙ sym (var_above k (cons n e) i (omega arith) ∙ ap (cons n e) z)
    go (inr (inl l)) =
        ap (λ m. subst_at m k n) (var_below (suc k) e i (omega arith)) ∙ replaced_below i k n l ∙ sym (var_below k (cons n e) i l)
    go (inr (inr l)) =
        let z : i - k ≡ suc (i - suc k) = omega arith in
        ap (λ m. subst_at m k n) (var_above (suc k) e i (omega arith)) ∙ h (i - suc k) k n
        ∙ sym (var_above k (cons n e) i (omega arith) ∙ ap (cons n e) z)

-- one more substitution is one more term in the environment
pub close_subst : (m : TermTree) (k : ℕ) (e : Env) (n : TermTree) → AllClosed e →
    subst_at (close (suc k) e m) k n ≡ close k (cons n e) m
close_subst (num v) k e n h = refl
close_subst (var i) k e n h = subst_var k e n i h
close_subst (succ_of a) k e n h = ap succ_of (close_subst a k e n h)
close_subst (pred_of a) k e n h = ap pred_of (close_subst a k e n h)
close_subst (binary o a b) k e n h = let p = close_subst a k e n h in let q = close_subst b k e n h in cc
close_subst (ifz c a b) k e n h = let r = close_subst c k e n h in let p = close_subst a k e n h in let q = close_subst b k e n h in cc
close_subst (lam a m) k e n h = ap (lam a) (close_subst m (suc k) e n h)
close_subst (fix a m) k e n h = ap (fix a) (close_subst m (suc k) e n h)
close_subst (app f x) k e n h = let p = close_subst f k e n h in let q = close_subst x k e n h in cc
close_subst (pair a b) k e n h = let p = close_subst a k e n h in let q = close_subst b k e n h in cc
close_subst (proj s a) k e n h = ap (proj s) (close_subst a k e n h)

still_var : (k j : ℕ) (e : Env) (n : TermTree) (i : ℕ) → k ≤ j → AllClosed e →
    subst_at (close_var k e i) j n ≡ close_var k e i
still_var k j e n i l h = go (cases_lt i k)
  where
    go : (i < k) ⊎ (k ≤ i) → subst_at (close_var k e i) j n ≡ close_var k e i
    go (inl a) = ap (λ m. subst_at m j n) (var_below k e i a) ∙ replaced_below i j n (omega arith) ∙ sym (var_below k e i a)
    go (inr a) = ap (λ m. subst_at m j n) (var_above k e i a) ∙ h (i - k) j n ∙ sym (var_above k e i a)

-- in a term that is closed from k on, nothing is substituted at k or at a later index
still : (m : TermTree) (k j : ℕ) (e : Env) (n : TermTree) → k ≤ j → AllClosed e → subst_at (close k e m) j n ≡ close k e m
still (num v) k j e n l h = refl
still (var i) k j e n l h = still_var k j e n i l h
still (succ_of a) k j e n l h = ap succ_of (still a k j e n l h)
still (pred_of a) k j e n l h = ap pred_of (still a k j e n l h)
still (binary o a b) k j e n l h = let p = still a k j e n l h in let q = still b k j e n l h in cc
still (ifz c a b) k j e n l h = let r = still c k j e n l h in let p = still a k j e n l h in let q = still b k j e n l h in cc
still (lam a m) k j e n l h = ap (lam a) (still m (suc k) (suc j) e n (omega arith) h)
still (fix a m) k j e n l h = ap (fix a) (still m (suc k) (suc j) e n (omega arith) h)
still (app f x) k j e n l h = let p = still f k j e n l h in let q = still x k j e n l h in cc
still (pair a b) k j e n l h = let p = still a k j e n l h in let q = still b k j e n l h in cc
still (proj s a) k j e n l h = ap (proj s) (still a k j e n l h)

pub close_closed : (m : TermTree) (e : Env) → AllClosed e → Closed (close zero e m)
close_closed m e h k p = still m zero k e p (omega arith) h

pub close_var_zero : (e : Env) (i : ℕ) → close_var zero e i ≡ e i
close_var_zero e i = let z : i - zero ≡ i = omega arith in var_above zero e i (omega arith) ∙ ap e z

-- a closed term stays
pub close_same : (m : TermTree) (g : List TyTree) (t : TyTree) (e : Env) → HasType g m t → close (length g) e m ≡ m
close_same (num v) g t e h = refl
close_same (var i) g t e h = var_below (length g) e i (slice_get_within g i t h)
close_same (succ_of a) g t e h = ap succ_of (close_same a g nat e h.0)
close_same (pred_of a) g t e h = ap pred_of (close_same a g nat e h.0)
close_same (binary o a b) g t e h = let p = close_same a g nat e h.0 in let q = close_same b g nat e h.1 in cc
close_same (ifz c a b) g t e h = let r = close_same c g nat e h.0 in let p = close_same a g nat e h.1 in let q = close_same b g nat e h.2 in
    cc
close_same (lam a m) g t e h = ap (lam a) (close_same m (a ∷ g) h.0 e h.1)
close_same (fix a m) g t e h = ap (fix a) (close_same m (a ∷ g) a e h.0)
close_same (app f x) g t e h = let p = close_same f g (arrow h.0 t) e h.1 in let q = close_same x g h.0 e h.2 in cc
close_same (pair a b) g t e h = let p = close_same a g h.0 e h.2 in let q = close_same b g h.1 e h.3 in cc
close_same (proj s a) g t e h = ap (proj s) (close_same a g (product h.0 h.1) e h.2)
