-- The same step as rules of inference, as a book on semantics writes them: what is rewritten, and where. `step` computes them
-- (`RulesAreStep` in `Laws`), so that a term is rewritten in one way at most.
use Rattle.std.specs.Prelude.{◌≡◌, zero, Some, None}
use Rattle.pcf_values.specs.declared.val.Val.{Val}
use Rattle.pcf_values.specs.Values.{val_succ, val_pred, val_op, at_zero}
use Rattle.pcf_values.specs.declared.operator.Operator.{Operator}
use Rattle.pcf_values.specs.Terms.{TyTree, at_side, TermTree, succ_of, pred_of, binary, ifz, lam, fix, app, pair, proj}
use Rattle.pcf_values.specs.declared.side.Side.{Side}
use Rattle.cbn_meaning.specs.Substitution.{subst_at}
use Rattle.term_steps.specs.Steps.{spelled, spell}

pub data Reduces : TermTree → TermTree → Type 0 where
  -- what is rewritten
  by_fix : {a : TyTree} {m : TermTree} → Reduces (fix a m) (subst_at m zero (fix a m))
  by_fun : {a : TyTree} {m x : TermTree} → Reduces (app (lam a m) x) (subst_at m zero x)
  by_part : {s : Side} {m n : TermTree} → Reduces (proj s (pair m n)) (at_side s m n)
  by_succ : {a : TermTree} {v : Val} → spelled a ≡ Some v → spelled (succ_of a) ≡ None → Reduces (succ_of a) (spell (val_succ v))
  by_pred : {a : TermTree} {v : Val} → spelled a ≡ Some v → Reduces (pred_of a) (spell (val_pred v))
  by_op : {o : Operator} {a b : TermTree} {v w : Val} → spelled a ≡ Some v → spelled b ≡ Some w →
      Reduces (binary o a b) (spell (val_op o v w))
  by_ifz : {c p q : TermTree} {v : Val} → spelled c ≡ Some v → Reduces (ifz c p q) (at_zero v p q)
  -- and where
  in_succ : {a b : TermTree} → Reduces a b → Reduces (succ_of a) (succ_of b)
  in_pred : {a b : TermTree} → Reduces a b → Reduces (pred_of a) (pred_of b)
  in_left : {o : Operator} {a b c : TermTree} → Reduces a c → Reduces (binary o a b) (binary o c b)
  in_right : {o : Operator} {a b c : TermTree} {v : Val} → spelled a ≡ Some v → Reduces b c → Reduces (binary o a b) (binary o a c)
  in_test : {c d p q : TermTree} → Reduces c d → Reduces (ifz c p q) (ifz d p q)
  in_app : {f g x : TermTree} → Reduces f g → Reduces (app f x) (app g x)
  in_proj : {s : Side} {a b : TermTree} → Reduces a b → Reduces (proj s a) (proj s b)
