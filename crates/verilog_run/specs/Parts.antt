-- Parts of the meaning that functions of this crate speak of.
use Rattle.std.specs.Prelude.{ℕ, max}
use Rattle.verilog_tree.specs.Tree.{Test, Expr}
use Rattle.verilog_tree.specs.Meaning.{Scope, Store, bits, value, flag, test_value}

-- a comparison of two expressions, at the wider's width
abbrev pub compared_at : Scope → Store → Test → Expr → Expr → ℕ
compared_at P S o a b =
    flag (test_value o (value P S (max (bits P a) (bits P b)) a) (value P S (max (bits P a) (bits P b)) b))
