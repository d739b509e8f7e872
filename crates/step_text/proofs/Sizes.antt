-- A term has a node.
use Rattle.std.proofs.Common.{◌<◌, arith}
use Rattle.pcf_values.specs.Named.{NamedTree, number_at, name_at, word_at, binary_at, pair_at, ifz_at, bind_at, apply_at}
use Rattle.pcf_values.specs.NamedSize.{named_size}

pub some_node : (t : NamedTree) → 0 < named_size t
some_node (number_at at n) = omega arith
some_node (name_at at x) = omega arith
some_node (word_at at w a) = omega arith
some_node (binary_at at o a b) = omega arith
some_node (pair_at at a b) = omega arith
some_node (ifz_at at c p q) = omega arith
some_node (bind_at at b x t m) = omega arith
some_node (apply_at at f a) = omega arith
