-- Types and terms as trees: what contracts see of `Ty` and `Term`, without where their parts lie in memory.
-- Variables are indexes, the nearest binder first, so that no name can be captured. The strict operators are one form with its
-- operator, and `fst` and `snd` are one form with its side, so that each rule for them is stated and proved once.
use Rattle.std.specs.Prelude.{ℕ, suc, ◌+◌, max, Bool, true, false, ◌&&◌}
use Rattle.pcf_values.specs.declared.operator.Operator.{Operator}
use Rattle.pcf_values.specs.declared.side.Side.{Side}
use Rattle.pcf_values.specs.declared.side.Side.TheVariants.{Left, Right}

-- the type of numbers, of functions, and of pairs
pub data TyTree : Type 0 where
  nat : TyTree
  arrow : TyTree → TyTree → TyTree
  product : TyTree → TyTree → TyTree

-- whether both are one type
abbrev pub same_type : TyTree → TyTree → Bool
same_type nat nat = true
same_type (arrow a b) (arrow c d) = same_type a c && same_type b d
same_type (product a b) (product c d) = same_type a c && same_type b d
same_type nat _ = false
same_type (arrow a b) _ = false
same_type (product a b) _ = false

-- the first on the left, the second on the right
abbrev pub at_side : {A : Type 0} → Side → A → A → A
at_side Left a b = a
at_side Right a b = b

pub data TermTree : Type 0 where
  num : ℕ → TermTree
  var : ℕ → TermTree
  succ_of : TermTree → TermTree
  pred_of : TermTree → TermTree
  binary : Operator → TermTree → TermTree → TermTree
  ifz : TermTree → TermTree → TermTree → TermTree
  lam : TyTree → TermTree → TermTree
  fix : TyTree → TermTree → TermTree
  app : TermTree → TermTree → TermTree
  pair : TermTree → TermTree → TermTree
  proj : Side → TermTree → TermTree

-- how many nodes a term has, its types not counted
abbrev pub size : TermTree → ℕ
size (num n) = 1
size (var i) = 1
size (succ_of a) = suc (size a)
size (pred_of a) = suc (size a)
size (binary o a b) = suc (size a + size b)
size (ifz c p q) = suc (size c + size p + size q)
size (lam a m) = suc (size m)
size (fix a m) = suc (size m)
size (app f x) = suc (size f + size x)
size (pair a b) = suc (size a + size b)
size (proj s a) = suc (size a)

-- the length of a longest path from the root to a leaf, types aside; a leaf has height 1
abbrev pub height : TermTree → ℕ
height (num n) = 1
height (var i) = 1
height (succ_of a) = suc (height a)
height (pred_of a) = suc (height a)
height (binary o a b) = suc (max (height a) (height b))
height (ifz c p q) = suc (max (height c) (max (height p) (height q)))
height (lam a m) = suc (height m)
height (fix a m) = suc (height m)
height (app f x) = suc (max (height f) (height x))
height (pair a b) = suc (max (height a) (height b))
height (proj s a) = suc (height a)
