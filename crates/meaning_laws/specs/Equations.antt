-- The equations of terms, read from the left to the right: of a `fun` that is applied, of a `fix`, of a part that is taken of a pair, and
-- of what is computed of numbers. A sum past the greatest number is no number, and has no equation. Terms needn't be closed.
use Rattle.std.specs.Prelude.{◌≡◌, ℕ}
use Rattle.pcf_values.specs.declared.val.Val.TheVariants.{Number}
use Rattle.pcf_values.specs.Values.{val_succ, val_pred, val_op, at_zero}
use Rattle.pcf_values.specs.declared.operator.Operator.{Operator}
use Rattle.pcf_values.specs.declared.side.Side.{Side}
use Rattle.pcf_values.specs.Terms.{TyTree, at_side, TermTree, num, succ_of, pred_of, binary, ifz, lam, fix, app, pair, proj}
use Rattle.meaning_laws.specs.Put.{put}
use Rattle.meaning_laws.specs.Contexts.{Context, fill}

pub data Equals : TermTree → TermTree → Type 0 where
  -- (fun x. m) n is m with n for x
  beta : {a : TyTree} {m n : TermTree} → Equals (app (lam a m) n) (put m 0 n)
  -- fix x. m is m with fix x. m for x
  unfolds : {a : TyTree} {m : TermTree} → Equals (fix a m) (put m 0 (fix a m))
  -- fst (m, n) is m, and snd (m, n) is n
  part : {s : Side} {m n : TermTree} → Equals (proj s (pair m n)) (at_side s m n)
  -- ifz 0 then p else q is p, and with another number it is q
  test : {n : ℕ} {p q : TermTree} → Equals (ifz (num n) p q) (at_zero (Number n) p q)
  -- succ, pred and the operators of numbers
  next : {n z : ℕ} → val_succ (Number n) ≡ Number z → Equals (succ_of (num n)) (num z)
  before : {n z : ℕ} → val_pred (Number n) ≡ Number z → Equals (pred_of (num n)) (num z)
  computed : {o : Operator} {m n z : ℕ} → val_op o (Number m) (Number n) ≡ Number z →
      Equals (binary o (num m) (num n)) (num z)

-- any number of equations one after the other, each at some place
pub data Rewrites : TermTree → TermTree → Type 0 where
  ends : {m : TermTree} → Rewrites m m
  goes_on : {l r n : TermTree} (c : Context) → Equals l r → Rewrites (fill c r) n → Rewrites (fill c l) n
