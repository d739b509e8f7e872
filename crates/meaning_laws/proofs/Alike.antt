-- Terms that are alike but for equations that are used from the left to the right, at any places, one at a place after another.
-- Where both sides of a place are alike after a step at its root, the left side comes first: so what holds of the right side's
-- evaluation is had of the left one's by a longer derivation (Plotkin's standard reductions, 1975).
use Rattle.std.proofs.Common.{◌≡◌, ℕ, zero, suc, Bool, true, false, cond, refl, sym, subst, arith}
use Rattle.std.specs.Prelude.{nat_lt, nat_eq}
use Rattle.pcf_values.specs.declared.val.Val.TheVariants.{Number}
use Rattle.pcf_values.specs.Values.{at_zero}
use Rattle.pcf_values.specs.declared.operator.Operator.{Operator}
use Rattle.pcf_values.specs.declared.side.Side.{Side}
use Rattle.pcf_values.specs.declared.side.Side.TheVariants.{Left, Right}
use Rattle.pcf_values.specs.Terms.{TyTree, at_side, TermTree, num, var, succ_of, pred_of, binary, ifz, lam, fix, app, pair, proj}
use Rattle.cbn_meaning.specs.Substitution.{replaced, subst_at}
use Rattle.meaning_laws.specs.Contexts.{Context, hole, in_succ, in_pred, in_left, in_right, in_test, in_then, in_else, in_lam}
use Rattle.meaning_laws.specs.Contexts.{in_fix, in_function, in_argument, in_first, in_second, in_proj, fill}
use Rattle.meaning_laws.specs.Equations.{Equals, beta, unfolds, part, test, next, before, computed}
use Rattle.meaning_laws.proofs.Below.{Below}
use Rattle.meaning_laws.proofs.Moving.{put_subst}

pub data Alike : TermTree → TermTree → Type 0 where
  a_num : {v : ℕ} → Alike (num v) (num v)
  a_var : {i : ℕ} → Alike (var i) (var i)
  a_succ : {a a' : TermTree} → Alike a a' → Alike (succ_of a) (succ_of a')
  a_pred : {a a' : TermTree} → Alike a a' → Alike (pred_of a) (pred_of a')
  a_binary : {o : Operator} {a b a' b' : TermTree} → Alike a a' → Alike b b' → Alike (binary o a b) (binary o a' b')
  a_ifz : {c p q c' p' q' : TermTree} → Alike c c' → Alike p p' → Alike q q' → Alike (ifz c p q) (ifz c' p' q')
  a_lam : {a : TyTree} {m m' : TermTree} → Alike m m' → Alike (lam a m) (lam a m')
  a_fix : {a : TyTree} {m m' : TermTree} → Alike m m' → Alike (fix a m) (fix a m')
  a_app : {f x f' x' : TermTree} → Alike f f' → Alike x x' → Alike (app f x) (app f' x')
  a_pair : {a b a' b' : TermTree} → Alike a a' → Alike b b' → Alike (pair a b) (pair a' b')
  a_proj : {s : Side} {a a' : TermTree} → Alike a a' → Alike (proj s a) (proj s a')
  a_step : {m p n : TermTree} → Equals m p → Alike p n → Alike m n

-- a term is like itself
pub alike_self : (m : TermTree) → Alike m m
alike_self (num v) = a_num
alike_self (var i) = a_var
alike_self (succ_of a) = a_succ (alike_self a)
alike_self (pred_of a) = a_pred (alike_self a)
alike_self (binary o a b) = a_binary (alike_self a) (alike_self b)
alike_self (ifz c p q) = a_ifz (alike_self c) (alike_self p) (alike_self q)
alike_self (lam a m) = a_lam (alike_self m)
alike_self (fix a m) = a_fix (alike_self m)
alike_self (app f x) = a_app (alike_self f) (alike_self x)
alike_self (pair a b) = a_pair (alike_self a) (alike_self b)
alike_self (proj s a) = a_proj (alike_self a)

-- and both sides of an equation are in every context
pub alike_in : (c : Context) (l r : TermTree) → Equals l r → Alike (fill c l) (fill c r)
alike_in hole l r e = a_step e (alike_self r)
alike_in (in_succ c) l r e = a_succ (alike_in c l r e)
alike_in (in_pred c) l r e = a_pred (alike_in c l r e)
alike_in (in_left o c b) l r e = a_binary (alike_in c l r e) (alike_self b)
alike_in (in_right o a c) l r e = a_binary (alike_self a) (alike_in c l r e)
alike_in (in_test c p q) l r e = a_ifz (alike_in c l r e) (alike_self p) (alike_self q)
alike_in (in_then d c q) l r e = a_ifz (alike_self d) (alike_in c l r e) (alike_self q)
alike_in (in_else d p c) l r e = a_ifz (alike_self d) (alike_self p) (alike_in c l r e)
alike_in (in_lam a c) l r e = a_lam (alike_in c l r e)
alike_in (in_fix a c) l r e = a_fix (alike_in c l r e)
alike_in (in_function c x) l r e = a_app (alike_in c l r e) (alike_self x)
alike_in (in_argument f c) l r e = a_app (alike_self f) (alike_in c l r e)
alike_in (in_first c b) l r e = a_pair (alike_in c l r e) (alike_self b)
alike_in (in_second a c) l r e = a_pair (alike_self a) (alike_in c l r e)
alike_in (in_proj s c) l r e = a_proj (alike_in c l r e)

side_subst : (s : Side) (m n : TermTree) (k : ℕ) (x : TermTree) →
    subst_at (at_side s m n) k x ≡ at_side s (subst_at m k x) (subst_at n k x)
side_subst Left m n k x = refl
side_subst Right m n k x = refl

branch_subst : (i : ℕ) (m n : TermTree) (k : ℕ) (x : TermTree) →
    subst_at (at_zero (Number i) m n) k x ≡ at_zero (Number i) (subst_at m k x) (subst_at n k x)
branch_subst zero m n k x = refl
branch_subst (suc i) m n k x = refl

-- an equation is one after a closed term was put
equals_subst : {m p : TermTree} → Equals m p → (k : ℕ) (x : TermTree) → Below 0 x → Equals (subst_at m k x) (subst_at p k x)
equals_subst (beta {a = a} {m = m} {n = n}) k x h =
    subst (Equals (app (lam a (subst_at m (suc k) x)) (subst_at n k x))) (sym (put_subst x h m n 0 k k (omega arith))) beta
equals_subst (unfolds {a = a} {m = m}) k x h =
    subst (Equals (fix a (subst_at m (suc k) x))) (sym (put_subst x h m (fix a m) 0 k k (omega arith))) unfolds
equals_subst (part {s = s} {m = m} {n = n}) k x h =
    subst (Equals (proj s (pair (subst_at m k x) (subst_at n k x)))) (sym (side_subst s m n k x)) part
equals_subst (test {n = n} {p = p} {q = q}) k x h =
    subst (Equals (ifz (num n) (subst_at p k x) (subst_at q k x))) (sym (branch_subst n p q k x)) test
equals_subst (next e) k x h = next e
equals_subst (before e) k x h = before e
equals_subst (computed e) k x h = computed e

-- like terms put for a variable
like_cond : (b : Bool) {m n m' n' : TermTree} → Alike m m' → Alike n n' → Alike (cond b m n) (cond b m' n')
like_cond true h g = h
like_cond false h g = g

like_var : (i k : ℕ) {x x' : TermTree} → Alike x x' → Alike (replaced i k x) (replaced i k x')
like_var i k h = like_cond (nat_lt i k) a_var (like_cond (nat_eq i k) h a_var)

-- what is alike stays so where like terms are put into it, of which the left one is closed
pub alike_subst : {m n : TermTree} → Alike m n → (k : ℕ) {x x' : TermTree} → Below 0 x → Alike x x' →
    Alike (subst_at m k x) (subst_at n k x')
alike_subst a_num k b h = a_num
alike_subst (a_var {i = i}) k b h = like_var i k h
alike_subst (a_succ a) k b h = a_succ (alike_subst a k b h)
alike_subst (a_pred a) k b h = a_pred (alike_subst a k b h)
alike_subst (a_binary a c) k b h = a_binary (alike_subst a k b h) (alike_subst c k b h)
alike_subst (a_ifz c p q) k b h = a_ifz (alike_subst c k b h) (alike_subst p k b h) (alike_subst q k b h)
alike_subst (a_lam m) k b h = a_lam (alike_subst m (suc k) b h)
alike_subst (a_fix m) k b h = a_fix (alike_subst m (suc k) b h)
alike_subst (a_app f y) k b h = a_app (alike_subst f k b h) (alike_subst y k b h)
alike_subst (a_pair a c) k b h = a_pair (alike_subst a k b h) (alike_subst c k b h)
alike_subst (a_proj a) k b h = a_proj (alike_subst a k b h)
alike_subst (a_step e p) k {x} b h = a_step (equals_subst e k x b) (alike_subst p k b h)
