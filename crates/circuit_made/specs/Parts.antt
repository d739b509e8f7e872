-- The parts of the text in their order. None has to be believed: they are proved to be the text.
use Rattle.std.specs.Prelude.{ℕ, List, [], ◌++◌, codes}
use Prim.Native.String.{String}
use Rattle.verilog_tree.specs.Tree.{Item}
use Rattle.verilog_tree.specs.Print.{module_text, is_port, then_port, items_text, ports_text}

-- the directives in front of the module
unfoldable pub front_text : List ℕ
front_text = codes "// verilator lint_save\n// verilator lint_off DECLFILENAME\n// verilator lint_off UNUSED\n`default_nettype none\n"

-- and behind it
unfoldable pub back_text : List ℕ
back_text = codes "`default_nettype wire\n// verilator lint_restore\n"

-- a port behind others
abbrev pub next_port : Item → List ℕ
next_port i = then_port (is_port i) i []

-- a module from its ports to its end
unfoldable pub after_name : List Item → List ℕ
after_name is = codes " (\n" ++ (ports_text is ++ (codes "\n);\n" ++ (items_text is ++ codes "endmodule\n")))

-- what stands around a net's module
unfoldable pub around_text : String → List Item → List ℕ
around_text name is = front_text ++ (module_text name is ++ back_text)
