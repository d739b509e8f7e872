-- Derivations of what a term comes to, with their number of rules.
-- They say what evaluation says, with no depth. Their size gets smaller in each part and at each head step, so that arguments about
-- meaning can go by induction on it.
use Rattle.std.specs.Prelude.{ℕ, suc, ◌+◌, ◌<◌}
use Rattle.pcf_values.specs.declared.val.Val.{Val}
use Rattle.pcf_values.specs.declared.val.Val.TheVariants.{Number}
use Rattle.pcf_values.specs.Values.{val_succ, val_pred, val_op, at_zero}
use Rattle.pcf_values.specs.declared.operator.Operator.{Operator}
use Rattle.pcf_values.specs.Terms.{TyTree, at_side, TermTree, num, succ_of, pred_of, binary, ifz, lam, fix, app, pair, proj}
use Rattle.pcf_values.specs.declared.side.Side.{Side}
use Rattle.cbn_meaning.specs.Substitution.{subst_at}
use Rattle.cbn_meaning.specs.Meaning.{Res, value, closure, paired}

-- this many rules derive that the term comes to the result
pub data Ev : ℕ → TermTree → Res → Type 0 where
  ev_num : {n : ℕ} → Ev 1 (num n) (value (Number n))
  ev_lam : {a : TyTree} {m : TermTree} → Ev 1 (lam a m) (closure a m)
  ev_succ : {s : ℕ} {a : TermTree} {v : Val} → Ev s a (value v) → Ev (suc s) (succ_of a) (value (val_succ v))
  ev_pred : {s : ℕ} {a : TermTree} {v : Val} → Ev s a (value v) → Ev (suc s) (pred_of a) (value (val_pred v))
  ev_binary : {s r : ℕ} {o : Operator} {a b : TermTree} {v w : Val} → Ev s a (value v) → Ev r b (value w) →
      Ev (suc (s + r)) (binary o a b) (value (val_op o v w))
  ev_ifz : {s r : ℕ} {c p q : TermTree} {v : Val} {x : Res} → Ev s c (value v) → Ev r (at_zero v p q) x →
      Ev (suc (s + r)) (ifz c p q) x
  ev_fix : {s : ℕ} {a : TyTree} {m : TermTree} {x : Res} → Ev s (subst_at m 0 (fix a m)) x → Ev (suc s) (fix a m) x
  ev_app : {s r : ℕ} {f y : TermTree} {a : TyTree} {m : TermTree} {x : Res} → Ev s f (closure a m) → Ev r (subst_at m 0 y) x →
      Ev (suc (s + r)) (app f y) x
  ev_pair : {m n : TermTree} → Ev 1 (pair m n) (paired m n)
  ev_proj : {s r : ℕ} {d : Side} {a m n : TermTree} {x : Res} → Ev s a (paired m n) → Ev r (at_side d m n) x →
      Ev (suc (s + r)) (proj d a) x

-- some derivation has this result
abbrev pub HasEv : TermTree → Res → Type 0
HasEv m x = (s : ℕ) × Ev s m x

-- m comes to all that n comes to, and to nothing else, always by a larger derivation
pub record Steps (m n : TermTree) : Type 0 where
  pub forth : (s : ℕ) (r : Res) → Ev s n r → HasEv m r
  pub back : (s : ℕ) (r : Res) → Ev s m r → (z : ℕ) × (z < s) × Ev z n r
