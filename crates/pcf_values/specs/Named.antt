-- Terms as they are read: with names in place of indexes, and with the place in the text of each node.
-- A place is an offset in bytes from the beginning of the text. The words that stand before an atom are one form, and so are the
-- binders and the operators, as in the grammar.
use Rattle.std.specs.Prelude.{ℕ, suc, max, List}
use Rattle.pcf_values.specs.declared.operator.Operator.{Operator}
use Rattle.pcf_values.specs.declared.side.Side.{Side}
use Rattle.pcf_values.specs.Terms.{TyTree}

-- a word before an atom
pub data Word : Type 0 where
  the_succ : Word
  the_pred : Word
  -- `fst` or `snd`, the part of a pair on a side
  the_part : Side → Word

pub data Binder : Type 0 where
  the_fun : Binder
  the_fix : Binder

-- each node begins with its place; a name is the list of its bytes
pub data NamedTree : Type 0 where
  number_at : ℕ → ℕ → NamedTree
  name_at : ℕ → List ℕ → NamedTree
  word_at : ℕ → Word → NamedTree → NamedTree
  binary_at : ℕ → Operator → NamedTree → NamedTree → NamedTree
  pair_at : ℕ → NamedTree → NamedTree → NamedTree
  ifz_at : ℕ → NamedTree → NamedTree → NamedTree → NamedTree
  bind_at : ℕ → Binder → List ℕ → TyTree → NamedTree → NamedTree
  apply_at : ℕ → NamedTree → NamedTree → NamedTree

abbrev pub place_of : NamedTree → ℕ
place_of (number_at at n) = at
place_of (name_at at x) = at
place_of (word_at at w a) = at
place_of (binary_at at o a b) = at
place_of (pair_at at a b) = at
place_of (ifz_at at c p q) = at
place_of (bind_at at b x t m) = at
place_of (apply_at at f a) = at

-- the length of a longest path from the root to a leaf, types and parentheses aside; a leaf has height 1
abbrev pub named_height : NamedTree → ℕ
named_height (number_at at n) = 1
named_height (name_at at x) = 1
named_height (word_at at w a) = suc (named_height a)
named_height (binary_at at o a b) = suc (max (named_height a) (named_height b))
named_height (pair_at at a b) = suc (max (named_height a) (named_height b))
named_height (ifz_at at c p q) = suc (max (named_height c) (max (named_height p) (named_height q)))
named_height (bind_at at b x t m) = suc (named_height m)
named_height (apply_at at f a) = suc (max (named_height f) (named_height a))
