-- A term put for an index, where the term needn't be closed: its own variables are those of the place where it was, and so they are
-- raised by as many binders as stand between (de Bruijn 1972). Nothing is captured.
use Rattle.std.specs.Prelude.{ℕ, suc, ◌+◌, ◌-◌, nat_lt, nat_eq, if◌then◌else◌}
use Rattle.pcf_values.specs.Terms.{TermTree, num, var, succ_of, pred_of, binary, ifz, lam, fix, app, pair, proj}

-- the variables from c on are d higher
abbrev pub raise : (c d : ℕ) → TermTree → TermTree
raise c d (num v) = num v
raise c d (var i) = if nat_lt i c then var i else var (i + d)
raise c d (succ_of a) = succ_of (raise c d a)
raise c d (pred_of a) = pred_of (raise c d a)
raise c d (binary o a b) = binary o (raise c d a) (raise c d b)
raise c d (ifz e p q) = ifz (raise c d e) (raise c d p) (raise c d q)
raise c d (lam a m) = lam a (raise (suc c) d m)
raise c d (fix a m) = fix a (raise (suc c) d m)
raise c d (app f x) = app (raise c d f) (raise c d x)
raise c d (pair a b) = pair (raise c d a) (raise c d b)
raise c d (proj s a) = proj s (raise c d a)

-- what becomes of variable i where n is put for index k, below k binders: lower ones stay, and higher ones go down by one
abbrev pub put_var : ℕ → ℕ → TermTree → TermTree
put_var i k n = if nat_lt i k then var i else (if nat_eq i k then raise 0 k n else var (i - 1))

-- n put for index k, below k binders that n knows nothing of
abbrev pub put : TermTree → ℕ → TermTree → TermTree
put (num v) k n = num v
put (var i) k n = put_var i k n
put (succ_of a) k n = succ_of (put a k n)
put (pred_of a) k n = pred_of (put a k n)
put (binary o a b) k n = binary o (put a k n) (put b k n)
put (ifz c p q) k n = ifz (put c k n) (put p k n) (put q k n)
put (lam a m) k n = lam a (put m (suc k) n)
put (fix a m) k n = fix a (put m (suc k) n)
put (app f x) k n = app (put f k n) (put x k n)
put (pair a b) k n = pair (put a k n) (put b k n)
put (proj s a) k n = proj s (put a k n)
