-- What the contents of a module are, as a store of the meaning. What isn't written yet, and what is read past an end, is 0.
use Rattle.std.specs.Prelude.{ℕ, nat_eq, ◌&&◌, List}
use Prim.Native.String.{String}
use lib.Text.{eqt}
use Rattle.verilog_tree.specs.Meaning.{Store, chosen}
use Rattle.verilog_run.specs.Entries.{Entry, rows, under}
use Rattle.verilog_run.specs.declared.contents.Contents.{Contents}

-- what two tables hold
abbrev pub store_of : List (List Entry) → List (List Entry) → Store
store_of vs ws = record { vec = λ x. under vs x 0; mem = λ m i. under ws m i; stray = λ x i. 0 }

-- what is held
abbrev pub held : Contents → Store
held c = store_of (rows c.vectors) (rows c.words)

-- nothing is written yet
abbrev pub nothing : Store
nothing = record { vec = λ x. 0; mem = λ m i. 0; stray = λ x i. 0 }

-- word i of a memory is n
abbrev pub with_word : String → ℕ → ℕ → Store → Store
with_word m i n S = record S { mem = λ y j. chosen (eqt m y && nat_eq i j) n (S.mem y j) }
