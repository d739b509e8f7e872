-- Trees in which no number has more digits than its text. A number of more than 64 digits has a text of its last 64 alone, so without this
-- two numbers would print alike. The code's trees have numbers of 64 bits, and constants of 128.
use Rattle.std.specs.Prelude.{◌^◌, ◌<◌, Bool, true, ◌&&◌, List, [], ◌∷◌}
use Rattle.verilog_tree.specs.Tree.{Size, count, named, more, less, Expr, num, sized, const, name, bit, part, word, cat, inverse, two}
use Rattle.verilog_tree.specs.Tree.{shift, test, logic, none, any, every, pick}
use Rattle.verilog_tree.specs.WellFormed.{Entry, identifier}

-- all names that are declared are identifiers
abbrev pub names_ok : List Entry → Bool
names_ok [] = true
names_ok (e ∷ env) = identifier e.name && names_ok env

abbrev pub SmallSize : Size → Type 0
SmallSize (count n) = n < 10 ^ 64
SmallSize (named x) = Unit {0}
SmallSize (more a b) = SmallSize a × SmallSize b
SmallSize (less a b) = SmallSize a × SmallSize b

abbrev pub Small : Expr → Type 0
Small (num n) = n < 10 ^ 64
Small (sized w n) = (w < 10 ^ 64) × (n < 10 ^ 64)
Small (const x) = Unit {0}
Small (name x) = Unit {0}
Small (bit x e) = Small e
Small (part x h l) = SmallSize h × SmallSize l
Small (word m e) = Small e
Small (cat a b) = Small a × Small b
Small (inverse a) = Small a
Small (two o a b) = Small a × Small b
Small (shift o a b) = Small a × Small b
Small (test o a b) = Small a × Small b
Small (logic o a b) = Small a × Small b
Small (none a) = Small a
Small (any a) = Small a
Small (every a) = Small a
Small (pick c a b) = Small c × Small a × Small b
