-- The views: which tree each tree of the code stands for. Contracts speak of the code's trees through these, since equality of the code's
-- own values would compare where their parts lie. A name of the code is a list of bytes, and stands for the text of these characters.
use Rattle.std.specs.Prelude.{ℕ, zero, suc, map}
use Rattle.verilog_tree.specs.Names.{text_of}
use Rattle.verilog_tree.specs.Tree.{Size, count, named, more, less, Two, plus, minus, times, Way, left, right}
use Rattle.verilog_tree.specs.Tree.{Test, same, below, Logic, both, one_of, Expr, num, sized, const, name, bit, part, word}
use Rattle.verilog_tree.specs.Tree.{cat, inverse, two, shift, test, logic, none, any, every, pick, Target, whole, word_at}
use Rattle.verilog_tree.specs.Tree.{Stmt, skip, put, seq, branch, cases, Arms, otherwise, arm, Width, one, upto, wide}
use Rattle.verilog_tree.specs.Tree.{Said, word_said, number_said}
use Rattle.verilog_tree.specs.Tree as tree
use Rattle.verilog_tree.specs.declared.tree.Extent.{Extent}
use Rattle.verilog_tree.specs.declared.tree.Extent.TheVariants as extent
use Rattle.verilog_tree.specs.declared.tree.Operation.{Operation}
use Rattle.verilog_tree.specs.declared.tree.Operation.TheVariants as operation
use Rattle.verilog_tree.specs.declared.tree.Direction.{Direction}
use Rattle.verilog_tree.specs.declared.tree.Direction.TheVariants as direction
use Rattle.verilog_tree.specs.declared.tree.Comparison.{Comparison}
use Rattle.verilog_tree.specs.declared.tree.Comparison.TheVariants as comparison
use Rattle.verilog_tree.specs.declared.tree.Connective.{Connective}
use Rattle.verilog_tree.specs.declared.tree.Connective.TheVariants as connective
use Rattle.verilog_tree.specs.declared.tree.Expression.{Expression}
use Rattle.verilog_tree.specs.declared.tree.Expression.TheVariants as expression
use Rattle.verilog_tree.specs.declared.tree.Place.{Place}
use Rattle.verilog_tree.specs.declared.tree.Place.TheVariants as place
use Rattle.verilog_tree.specs.declared.tree.Remark.{Remark}
use Rattle.verilog_tree.specs.declared.tree.Remark.TheVariants as remark
use Rattle.verilog_tree.specs.declared.tree.Statement.{Statement}
use Rattle.verilog_tree.specs.declared.tree.Statement.TheVariants as statement
use Rattle.verilog_tree.specs.declared.tree.Cases.{Cases}
use Rattle.verilog_tree.specs.declared.tree.Cases.TheVariants as arms
use Rattle.verilog_tree.specs.declared.tree.Range.{Range}
use Rattle.verilog_tree.specs.declared.tree.Range.TheVariants as range
use Rattle.verilog_tree.specs.declared.tree.Item.{Item}
use Rattle.verilog_tree.specs.declared.tree.Item.TheVariants as item
use Rattle.verilog_tree.specs.declared.tree.Margin.{Margin}
use Rattle.verilog_tree.specs.declared.tree.Margin.TheVariants as margin

-- a constant expression
abbrev pub size_of : Extent → Size
size_of (extent.Count n) = count n
size_of (extent.Named x) = named (text_of x.now)
size_of (extent.More' p a q b) = more (size_of a) (size_of b)
size_of (extent.Less' p a q b) = less (size_of a) (size_of b)

-- operators
abbrev pub two_of : Operation → Two
two_of operation.Plus = plus
two_of operation.Minus = minus
two_of operation.Times = times

-- of shifts
abbrev pub way_of : Direction → Way
way_of direction.Left = left
way_of direction.Right = right

-- of comparisons
abbrev pub test_of : Comparison → Test
test_of comparison.Same = same
test_of comparison.Below = below

-- of truth values
abbrev pub logic_of : Connective → Logic
logic_of connective.Both = both
logic_of connective.OneOf = one_of

-- an expression
abbrev pub expr_of : Expression → Expr
expr_of (expression.Number n) = num n
expr_of (expression.Sized w n) = sized w n
expr_of (expression.Constant x) = const (text_of x.now)
expr_of (expression.Name x) = name (text_of x.now)
expr_of (expression.Bit' x p e) = bit (text_of x.now) (expr_of e)
expr_of (expression.Part x h l) = part (text_of x.now) (size_of h) (size_of l)
expr_of (expression.Word' m p e) = word (text_of m.now) (expr_of e)
expr_of (expression.Cat' p a q b) = cat (expr_of a) (expr_of b)
expr_of (expression.Inverse' p a) = inverse (expr_of a)
expr_of (expression.Two' o p a q b) = two (two_of o) (expr_of a) (expr_of b)
expr_of (expression.Shift' o p a q b) = shift (way_of o) (expr_of a) (expr_of b)
expr_of (expression.Test' o p a q b) = test (test_of o) (expr_of a) (expr_of b)
expr_of (expression.Logic' o p a q b) = logic (logic_of o) (expr_of a) (expr_of b)
expr_of (expression.Not' p a) = none (expr_of a)
expr_of (expression.Any' p a) = any (expr_of a)
expr_of (expression.Every' p a) = every (expr_of a)
expr_of (expression.Pick' p c q a r b) = pick (expr_of c) (expr_of a) (expr_of b)

-- what is assigned to
abbrev pub target_of : Place → Target
target_of (place.Whole x) = whole (text_of x.now)
target_of (place.Word m e) = word_at (text_of m.now) (expr_of e)

-- a part of what is said of an arm
abbrev pub said_of : Remark → Said
said_of (remark.Word s) = word_said (text_of s.now)
said_of (remark.Figure n) = number_said n

-- statements, and the arms of a case
abbrev mutual
  pub stmt_of : Statement → Stmt
  stmt_of statement.Skip = skip
  stmt_of (statement.Put t e) = put (target_of t) (expr_of e)
  stmt_of (statement.Seq' p s q t) = seq (stmt_of s) (stmt_of t)
  stmt_of (statement.Branch' e p s q t) = branch (expr_of e) (stmt_of s) (stmt_of t)
  stmt_of (statement.Case' e p cs) = cases (expr_of e) (arms_of cs)

  pub arms_of : Cases → Arms
  arms_of (arms.Otherwise' p s) = otherwise (stmt_of s)
  arms_of (arms.Arm' es p s c q cs) = arm (map expr_of es.now) (stmt_of s) (map said_of c.now) (arms_of cs)

-- a declared width
abbrev pub width_of : Range → Width
width_of range.One = one
width_of (range.UpTo h) = upto (size_of h)
width_of (range.Wide k) = wide (size_of k)

-- what a module consists of
abbrev pub item_of : Item → tree.Item
item_of (item.Note s) = tree.note (text_of s.now)
item_of item.Gap = tree.gap
item_of (item.Size x n) = tree.size (text_of x.now) n
item_of (item.Constant w x n) = tree.constant (width_of w) (text_of x.now) n
item_of (item.Input w x) = tree.input (width_of w) (text_of x.now)
item_of (item.Output w x) = tree.output (width_of w) (text_of x.now)
item_of (item.Reg w x) = tree.reg (width_of w) (text_of x.now)
item_of (item.Memory w x k) = tree.memory (width_of w) (text_of x.now) (size_of k)
item_of (item.Wire w x e) = tree.wire (width_of w) (text_of x.now) (expr_of e)
item_of (item.Settles s) = tree.settles (stmt_of s)
item_of (item.Clocked s) = tree.clocked (stmt_of s)

-- how many levels a margin is wide
abbrev pub levels_of : Margin → ℕ
levels_of margin.Edge = zero
levels_of (margin.Within' p m) = suc (levels_of m)
