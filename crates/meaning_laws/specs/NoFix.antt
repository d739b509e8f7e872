-- Terms in which no `fix` stands.
use Rattle.pcf_values.specs.Terms.{TermTree, num, var, succ_of, pred_of, binary, ifz, lam, fix, app, pair, proj}

abbrev pub NoFix : TermTree → Type 0
NoFix (num v) = Unit {0}
NoFix (var i) = Unit {0}
NoFix (succ_of a) = NoFix a
NoFix (pred_of a) = NoFix a
NoFix (binary o a b) = NoFix a × NoFix b
NoFix (ifz c p q) = NoFix c × NoFix p × NoFix q
NoFix (lam a m) = NoFix m
NoFix (fix a m) = ⊥
NoFix (app f x) = NoFix f × NoFix x
NoFix (pair a b) = NoFix a × NoFix b
NoFix (proj s a) = NoFix a
