-- The text of a net's circuit: a comment, and the text of the tree of its module. Around the module stand two directives by which a tool
-- makes no wire of a name that isn't declared (IEEE 1364-2005, 19.2); behind them that is as it was. Comments that only Verilator reads say
-- that it shall not warn of a file named otherwise than the module, nor of bits that no row of this net uses; behind them its warnings are
-- as they were.
use Rattle.std.specs.Prelude.{◌≡◌, ℕ, List, ◌++◌, length, codes, decimal}
use Prim.Native.String.{String}
use Rattle.net_build.specs.Nets.{NetTree}
use Rattle.verilog_tree.specs.Tree.{Item}
use Rattle.verilog_tree.specs.Print.{module_text}
use Rattle.circuit_made.specs.Made.{CircuitOf}

-- the first line
unfoldable pub head_text : (nodes wires : ℕ) → List ℕ
head_text nodes wires =
    codes "// goi circuit 1: the net of a program, of " ++ (decimal nodes ++ (codes " nodes and "
    ++ (decimal wires ++ codes " wires, with a processor of one token.\n")))

-- a text of which Verilator doesn't say that something isn't used
abbrev pub unwarned_text : List ℕ → List ℕ
unwarned_text t =
    codes "// verilator lint_save\n// verilator lint_off DECLFILENAME\n// verilator lint_off UNUSED\n"
    ++ (t ++ codes "// verilator lint_restore\n")

-- a text in which each name has to be declared
abbrev pub declared_text : List ℕ → List ℕ
declared_text t = codes "`default_nettype none\n" ++ (t ++ codes "`default_nettype wire\n")

-- the text of these items, with this name of the module
unfoldable pub circuit_text : (name : String) → NetTree → List Item → List ℕ
circuit_text name net is =
    head_text (length net.nodes) (length net.wires) ++ unwarned_text (declared_text (module_text name is))

-- a text is that of a net's circuit, with a port for each of these places in its list of nodes and so many cells and forks
pub record Prints (name : String) (net : NetTree) (ports : List ℕ) (cells forks : ℕ) (t : List ℕ) : Type 0 where
  pub items : List Item
  pub circuit : CircuitOf net ports cells forks items
  pub text : t ≡ circuit_text name net items
