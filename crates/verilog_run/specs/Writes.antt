-- What the clock's blocks are to write: numbers for vectors, and for words of memories.
use Rattle.std.specs.Prelude.{List, [], ◌∷◌}
use Rattle.verilog_tree.specs.Meaning.{Store, set_vec}
use Rattle.verilog_tree.specs.Names.{text_of}
use Rattle.verilog_run.specs.Held.{with_word}
use Rattle.verilog_run.specs.declared.writes.Write.{Write}
use Rattle.verilog_run.specs.declared.writes.Write.TheVariants.{Vector, Word}

-- a store after one of them
abbrev pub after_one : Write → Store → Store
after_one (Vector x n) S = set_vec (text_of x.items) n S
after_one (Word m i n) S = with_word (text_of m.items) i n S

-- and after all, from the first to the last
abbrev pub after_all : List Write → Store → Store
after_all [] S = S
after_all (w ∷ ws) S = after_all ws (after_one w S)
