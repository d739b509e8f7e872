-- The names of wires and registers of which there are as many as the table says, or as there are ports.
-- Names of different groups differ in their first letters, before any number stands.
use Rattle.std.specs.Prelude.{ℕ, ◌++◌, codes, decimal}
use Prim.Native.String.{String}
use Rattle.verilog_tree.specs.Names.{text_of}

-- a name with a number behind it
abbrev pub numbered : String → ℕ → String
numbered x n = text_of (codes x ++ decimal n)

-- and one name behind another
abbrev pub joined_name : String → String → String
joined_name x y = text_of (codes x ++ codes y)

-- the ports of a function's arguments, and the registers that hold what they were at reset
abbrev pub arg_name : ℕ → String
arg_name i = numbered "arg" i

abbrev pub held_name : ℕ → String
held_name i = numbered "held" i

-- the registers of both lists
abbrev pub sig_name : ℕ → String
sig_name i = numbered "signature" i

abbrev pub box_name : ℕ → String
box_name i = numbered "box" i

-- the words of the cell that was read, and the innermost fork's boxes
abbrev pub word_name : ℕ → String
word_name i = numbered "word" i

abbrev pub fork_box_name : ℕ → String
fork_box_name i = numbered "fork_box" i

-- both lists after the row, the boxes of a fork that it opens, and the words of its new cell
abbrev pub next_sig_name : ℕ → String
next_sig_name i = numbered "next_signature" i

abbrev pub next_box_name : ℕ → String
next_box_name i = numbered "next_box" i

abbrev pub open_box_name : ℕ → String
open_box_name i = numbered "open_box" i

abbrev pub new_word_name : ℕ → String
new_word_name i = numbered "new_word" i

-- which source a slot or an operand has, its tag, and its number
abbrev pub by_name : String → String
by_name x = joined_name "by_" x

abbrev pub tag_name : String → String
tag_name x = joined_name "tag_" x

abbrev pub number_name : String → String
number_name x = joined_name "number_" x

-- what is found for a field
abbrev pub found : String → String
found x = joined_name "found_" x
