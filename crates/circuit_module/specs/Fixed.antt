-- Small parts of a circuit's module: assignments, and the parts of a value.
use Rattle.std.specs.Prelude.{List, [], ◌∷◌}
use Prim.Native.String.{String}
use Rattle.verilog_tree.specs.Tree.{count, Expr, num, bit, part, whole, Stmt, skip, put, seq}

-- x = e
abbrev pub set : String → Expr → Stmt
set x e = put (whole x) e

-- one after the other
abbrev pub block : List Stmt → Stmt
block [] = skip
block (s ∷ []) = s
block (s ∷ t ∷ ss) = seq s (block (t ∷ ss))

-- the bit of a value that says overflow
abbrev pub high : String → Expr
high x = bit x (num 64)

-- the number of a value
abbrev pub low : String → Expr
low x = part x (count 63) (count 0)
