-- The size of a term as it is read: what laws and measures speak of.
use Rattle.std.specs.Prelude.{ℕ, suc, ◌+◌}
use Rattle.pcf_values.specs.Named.{NamedTree, number_at, name_at, word_at, binary_at, pair_at, ifz_at, bind_at, apply_at}

-- how many nodes the term has, its types and its parentheses not counted
abbrev pub named_size : NamedTree → ℕ
named_size (number_at at n) = 1
named_size (name_at at x) = 1
named_size (word_at at w a) = suc (named_size a)
named_size (binary_at at o a b) = suc (named_size a + named_size b)
named_size (pair_at at a b) = suc (named_size a + named_size b)
named_size (ifz_at at c p q) = suc (named_size c + named_size p + named_size q)
named_size (bind_at at b x t m) = suc (named_size m)
named_size (apply_at at f a) = suc (named_size f + named_size a)
