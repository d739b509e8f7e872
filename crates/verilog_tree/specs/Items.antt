-- Items that stand in a tree, what they declare, and what a statement assigns to.
use Rattle.std.specs.Prelude.{ℕ, Option, Some, None, List, ◌∷◌}
use Prim.Native.String.{String}
use Rattle.verilog_tree.specs.Tree.{Expr, Stmt, whole, put, seq, branch, Item, note, gap, size, constant, input, output, reg, memory, wire}
use Rattle.verilog_tree.specs.Tree.{settles, clocked}
use Rattle.verilog_tree.specs.Meaning.{width_of}

-- an item is among these
pub data Has (i : Item) : List Item → Type 0 where
  here : (is : List Item) → Has i (i ∷ is)
  further : (j : Item) (is : List Item) → Has i is → Has i (j ∷ is)

-- the name that an item declares
abbrev pub item_name : Item → Option String
item_name (note s) = None
item_name gap = None
item_name (size x n) = Some x
item_name (constant w x n) = Some x
item_name (input w x) = Some x
item_name (output w x) = Some x
item_name (reg w x) = Some x
item_name (memory w x k) = Some x
item_name (wire w x e) = Some x
item_name (settles s) = None
item_name (clocked s) = None

-- how wide it is
abbrev pub item_wide : (String → ℕ) → Item → ℕ
item_wide p (size x n) = 32
item_wide p (constant w x n) = width_of p w
item_wide p (input w x) = width_of p w
item_wide p (output w x) = width_of p w
item_wide p (reg w x) = width_of p w
item_wide p (memory w x k) = width_of p w
item_wide p (wire w x e) = width_of p w
item_wide p i = 0

-- a statement assigns to a name somewhere
pub data Sets (x : String) : Stmt → Type 0 where
  assigns : (e : Expr) → Sets x (put (whole x) e)
  in_first : (s t : Stmt) → Sets x s → Sets x (seq s t)
  in_second : (s t : Stmt) → Sets x t → Sets x (seq s t)
  in_then : (e : Expr) (s t : Stmt) → Sets x s → Sets x (branch e s t)
  in_else : (e : Expr) (s t : Stmt) → Sets x t → Sets x (branch e s t)
