-- The size of the numbers of a tree, of which the checker's definition says nothing: the reader sees to it.
use Rattle.std.specs.Prelude.{◌^◌, ◌<◌}
use Rattle.pcf_values.specs.Named.{NamedTree, number_at, name_at, word_at, binary_at, pair_at, ifz_at, bind_at, apply_at}

-- each number in the tree is a value
abbrev pub NumbersFit : NamedTree → Type 0
NumbersFit (number_at at n) = n < 2 ^ 64
NumbersFit (name_at at x) = Unit {0}
NumbersFit (word_at at w a) = NumbersFit a
NumbersFit (binary_at at o a b) = NumbersFit a × NumbersFit b
NumbersFit (pair_at at a b) = NumbersFit a × NumbersFit b
NumbersFit (ifz_at at c a b) = NumbersFit c × NumbersFit a × NumbersFit b
NumbersFit (bind_at at b x t m) = NumbersFit m
NumbersFit (apply_at at f a) = NumbersFit f × NumbersFit a
