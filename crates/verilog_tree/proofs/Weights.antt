-- How many nodes a tree has: what printing it takes.
use Rattle.std.proofs.Common.{ℕ, suc, ◌+◌}
use Rattle.verilog_tree.specs.Tree.{Size, count, named, more, less, Expr, num, sized, const, name, bit, part, word, cat, inverse, two}
use Rattle.verilog_tree.specs.Tree.{shift, test, logic, none, any, every, pick, Stmt, skip, put, seq, branch, cases, Arms}
use Rattle.verilog_tree.specs.Tree.{otherwise, arm}

-- of a size
abbrev pub size_weight : Size → ℕ
size_weight (count n) = 1
size_weight (named x) = 1
size_weight (more a b) = suc (size_weight a + size_weight b)
size_weight (less a b) = suc (size_weight a + size_weight b)

-- of an expression
abbrev pub expr_weight : Expr → ℕ
expr_weight (num n) = 1
expr_weight (sized w n) = 1
expr_weight (const x) = 1
expr_weight (name x) = 1
expr_weight (bit x e) = suc (expr_weight e)
expr_weight (part x h l) = 1
expr_weight (word m e) = suc (expr_weight e)
expr_weight (cat a b) = suc (expr_weight a + expr_weight b)
expr_weight (inverse a) = suc (expr_weight a)
expr_weight (two o a b) = suc (expr_weight a + expr_weight b)
expr_weight (shift o a b) = suc (expr_weight a + expr_weight b)
expr_weight (test o a b) = suc (expr_weight a + expr_weight b)
expr_weight (logic o a b) = suc (expr_weight a + expr_weight b)
expr_weight (none a) = suc (expr_weight a)
expr_weight (any a) = suc (expr_weight a)
expr_weight (every a) = suc (expr_weight a)
expr_weight (pick c a b) = suc (expr_weight c + (expr_weight a + expr_weight b))

-- of a statement, and of arms
abbrev mutual
  pub stmt_weight : Stmt → ℕ
  stmt_weight skip = 1
  stmt_weight (put t e) = 1
  stmt_weight (seq s t) = suc (stmt_weight s + stmt_weight t)
  stmt_weight (branch e s t) = suc (stmt_weight s + stmt_weight t)
  stmt_weight (cases e arms) = suc (arms_weight arms)

  pub arms_weight : Arms → ℕ
  arms_weight (otherwise s) = suc (stmt_weight s)
  arms_weight (arm es s c arms) = suc (stmt_weight s + arms_weight arms)
