-- Substitution of a closed term for an index.
-- What is put is closed, since evaluation begins at a closed program and looks under no binder. So no index of it is ever shifted,
-- and there is nothing to capture.
use Rattle.std.specs.Prelude.{ℕ, suc, ◌-◌, nat_lt, nat_eq, if◌then◌else◌}
use Rattle.pcf_values.specs.Terms.{TermTree, num, var, succ_of, pred_of, binary, ifz, lam, fix, app, pair, proj}

-- what becomes of variable i where n is put for index k: lower ones stay, and higher ones go down by one
abbrev pub replaced : ℕ → ℕ → TermTree → TermTree
replaced i k n = if nat_lt i k then var i else (if nat_eq i k then n else var (i - 1))

-- the closed term n put for index k
abbrev pub subst_at : TermTree → ℕ → TermTree → TermTree
subst_at (num v) k n = num v
subst_at (var i) k n = replaced i k n
subst_at (succ_of a) k n = succ_of (subst_at a k n)
subst_at (pred_of a) k n = pred_of (subst_at a k n)
subst_at (binary o a b) k n = binary o (subst_at a k n) (subst_at b k n)
subst_at (ifz c p q) k n = ifz (subst_at c k n) (subst_at p k n) (subst_at q k n)
subst_at (lam a m) k n = lam a (subst_at m (suc k) n)
subst_at (fix a m) k n = fix a (subst_at m (suc k) n)
subst_at (app f x) k n = app (subst_at f k n) (subst_at x k n)
subst_at (pair a b) k n = pair (subst_at a k n) (subst_at b k n)
subst_at (proj s a) k n = proj s (subst_at a k n)
