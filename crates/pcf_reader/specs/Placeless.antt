-- What is left of a tree without its places: a tree that is printed and read back has others.
use Rattle.pcf_values.specs.Named.{NamedTree, number_at, name_at, word_at, binary_at, pair_at, ifz_at, bind_at, apply_at}

-- the tree with each place put to 0
abbrev pub placeless : NamedTree → NamedTree
placeless (number_at _ n) = number_at 0 n
placeless (name_at _ x) = name_at 0 x
placeless (word_at _ w a) = word_at 0 w (placeless a)
placeless (binary_at _ op a b) = binary_at 0 op (placeless a) (placeless b)
placeless (pair_at _ a b) = pair_at 0 (placeless a) (placeless b)
placeless (ifz_at _ c p q) = ifz_at 0 (placeless c) (placeless p) (placeless q)
placeless (bind_at _ b x t m) = bind_at 0 b x t (placeless m)
placeless (apply_at _ f a) = apply_at 0 (placeless f) (placeless a)
