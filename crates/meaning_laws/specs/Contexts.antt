-- Contexts: terms with a hole at one place, which may stand below binders. A term that fills it is not closed then: its variables are
-- bound by what stands around.
use Rattle.pcf_values.specs.declared.operator.Operator.{Operator}
use Rattle.pcf_values.specs.declared.side.Side.{Side}
use Rattle.pcf_values.specs.Terms.{TyTree, TermTree, succ_of, pred_of, binary, ifz, lam, fix, app, pair, proj}

pub data Context : Type 0 where
  hole : Context
  in_succ : Context → Context
  in_pred : Context → Context
  in_left : Operator → Context → TermTree → Context
  in_right : Operator → TermTree → Context → Context
  in_test : Context → TermTree → TermTree → Context
  in_then : TermTree → Context → TermTree → Context
  in_else : TermTree → TermTree → Context → Context
  in_lam : TyTree → Context → Context
  in_fix : TyTree → Context → Context
  in_function : Context → TermTree → Context
  in_argument : TermTree → Context → Context
  in_first : Context → TermTree → Context
  in_second : TermTree → Context → Context
  in_proj : Side → Context → Context

-- the term stands in the hole
abbrev pub fill : Context → TermTree → TermTree
fill hole m = m
fill (in_succ c) m = succ_of (fill c m)
fill (in_pred c) m = pred_of (fill c m)
fill (in_left o c b) m = binary o (fill c m) b
fill (in_right o a c) m = binary o a (fill c m)
fill (in_test c p q) m = ifz (fill c m) p q
fill (in_then e c q) m = ifz e (fill c m) q
fill (in_else e p c) m = ifz e p (fill c m)
fill (in_lam a c) m = lam a (fill c m)
fill (in_fix a c) m = fix a (fill c m)
fill (in_function c x) m = app (fill c m) x
fill (in_argument f c) m = app f (fill c m)
fill (in_first c b) m = pair (fill c m) b
fill (in_second a c) m = pair a (fill c m)
fill (in_proj s c) m = proj s (fill c m)
