-- How large a tree is that was read: what the crates above need to know of every program.
-- The count of the limit takes the `nat`s of types with the nodes of the term, as the text shows them; the size takes the nodes alone.
use Rattle.std.specs.Prelude.{ℕ, suc, ◌+◌}
use Rattle.pcf_values.specs.Terms.{TyTree, nat, arrow, product}
use Rattle.pcf_values.specs.Named.{NamedTree, number_at, name_at, word_at, binary_at, pair_at, ifz_at, bind_at, apply_at}

-- how often `nat` stands in a type
abbrev pub nats : TyTree → ℕ
nats nat = 1
nats (arrow a b) = nats a + nats b
nats (product a b) = nats a + nats b

-- how many nodes a text counts for this tree
abbrev pub node_count : NamedTree → ℕ
node_count (number_at _ _) = 1
node_count (name_at _ _) = 1
node_count (word_at _ _ a) = suc (node_count a)
node_count (binary_at _ _ a b) = suc (node_count a + node_count b)
node_count (pair_at _ a b) = suc (node_count a + node_count b)
node_count (ifz_at _ c p q) = suc (node_count c + node_count p + node_count q)
node_count (bind_at _ _ _ t m) = suc (nats t + node_count m)
node_count (apply_at _ f a) = suc (node_count f + node_count a)

-- The greatest height of a tree that is read. Each open phrase adds at most 4 to it, by itself and as the last part of a sum, of a
-- product and of an application; what is written where no more can be opened is at most 504 high.
abbrev pub most_read_height : ℕ
most_read_height = 2504
