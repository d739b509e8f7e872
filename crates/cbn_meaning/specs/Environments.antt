-- Closed terms, and substitution of one for each index at once: what proofs about open terms go by.
use Rattle.std.specs.Prelude.{◌≡◌, ℕ, zero, suc, ◌-◌, nat_lt, if◌then◌else◌}
use Rattle.pcf_values.specs.Terms.{TermTree, num, var, succ_of, pred_of, binary, ifz, lam, fix, app, pair, proj}
use Rattle.cbn_meaning.specs.Substitution.{subst_at}

-- no substitution changes the term
abbrev pub Closed : TermTree → Type 0
Closed n = (k : ℕ) (p : TermTree) → subst_at n k p ≡ n

-- a term for each index
abbrev pub Env : Type 0
Env = ℕ → TermTree

-- n for index 0, and the others one higher
abbrev pub cons : TermTree → Env → Env
cons n e zero = n
cons n e (suc i) = e i

abbrev pub AllClosed : Env → Type 0
AllClosed e = (i : ℕ) → Closed (e i)

abbrev pub close_var : ℕ → Env → ℕ → TermTree
close_var k e i = if nat_lt i k then var i else e (i - k)

-- the environment's terms put for the indexes from k on, all at once
abbrev pub close : ℕ → Env → TermTree → TermTree
close k e (num v) = num v
close k e (var i) = close_var k e i
close k e (succ_of a) = succ_of (close k e a)
close k e (pred_of a) = pred_of (close k e a)
close k e (binary o a b) = binary o (close k e a) (close k e b)
close k e (ifz c p q) = ifz (close k e c) (close k e p) (close k e q)
close k e (lam a m) = lam a (close (suc k) e m)
close k e (fix a m) = fix a (close (suc k) e m)
close k e (app f x) = app (close k e f) (close k e x)
close k e (pair a b) = pair (close k e a) (close k e b)
close k e (proj s a) = proj s (close k e a)
