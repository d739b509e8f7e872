-- What the code's own values stand for.
use Prim.Native.String.{String}
use Rattle.verilog_tree.specs.Names.{text_of}
use Rattle.verilog_waves.specs.Shown as specs
use Rattle.verilog_waves.specs.declared.shown.Kind.{Kind}
use Rattle.verilog_waves.specs.declared.shown.Kind.TheVariants.{Wire, Reg}
use Rattle.verilog_waves.specs.declared.shown.Shown.{Shown}

-- the word for what a name is
abbrev pub word_of : Kind → String
word_of Wire = "wire"
word_of Reg = "reg"

-- a name that is shown
abbrev pub shown_of : Shown → specs.Shown
shown_of v = record { place = v.place; kind = word_of v.kind; bits = v.bits; name = text_of v.name.now }
