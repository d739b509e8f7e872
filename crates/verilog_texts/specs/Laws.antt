-- What holds of the texts of trees.
use Rattle.std.specs.Prelude.{◌≡◌, ℕ, Bool, true, ◌&&◌, List, codes}
use Prim.Native.String.{String}
use Rattle.verilog_tree.specs.Tree.{Expr, Stmt, Item}
use Rattle.verilog_tree.specs.Meaning.{Scope, Store, run, fire, edge}
use Rattle.verilog_tree.specs.Print.{expr_text, stmt_text, module_text}
use Rattle.verilog_tree.specs.WellFormed.{Entry, identifier, expr_ok, stmt_ok, limits_of, stmt_fits, WellFormed}
use Rattle.verilog_texts.specs.Small.{names_ok, Small}

-- where names are declared, no two expressions print alike
abbrev pub OneExpression : Type 0
OneExpression = (env : List Entry) → names_ok env ≡ true → (c : Bool) (a b : Expr) → expr_ok env a ≡ true → expr_ok env b ≡ true →
    Small a → Small b → expr_text c a ≡ expr_text c b → a ≡ b

-- a statement of a block that drives these, as a module has it
abbrev pub fine_block : List Entry → Scope → (String → Bool) → List String → Stmt → Bool
fine_block env P sizes mine s = stmt_ok env mine s && stmt_fits (limits_of P sizes) s

-- two statements of blocks that settle, and two of the clock, that print alike do the same
abbrev pub OneBlock : Type 0
OneBlock = (env : List Entry) → names_ok env ≡ true → (P : Scope) (sizes : String → Bool) (mine other : List String) (s t : Stmt) →
    fine_block env P sizes mine s ≡ true → fine_block env P sizes other t ≡ true → (n : ℕ) →
    (stmt_text (codes " = ") n s ≡ stmt_text (codes " = ") n t → (Q : Scope) (S : Store) → run Q s S ≡ run Q t S) ×
    (stmt_text (codes " <= ") n s ≡ stmt_text (codes " <= ") n t → (Q : Scope) (R S : Store) → fire Q R s S ≡ fire Q R t S)

-- two modules that print alike have one name and the same edges
abbrev pub OneMeaning : Type 0
OneMeaning = (is js : List Item) → WellFormed is ≡ true → WellFormed js ≡ true →
    (x y : String) → identifier x ≡ true → identifier y ≡ true → module_text x is ≡ module_text y js →
    (x ≡ y) × ((S : Store) → edge is S ≡ edge js S)
