-- The text of a second module, which stands behind a circuit's own: by it the circuit is called as often as is wanted, one call at a time,
-- with a pair of wires on either side of a call, so that it can sit on a bus. The module is named as the circuit is, with `_call` behind
-- it, and the circuit is an instance in it. It has one register, `busy`, and no latch. Around the module stand the directives and the
-- comments for Verilator that stand around the circuit's, but for the one of what isn't used, since all is used here. The text is stated
-- line by line, and what it does isn't stated here: docs/CIRCUIT.md tells what is tried of it.
use Rattle.std.specs.Prelude.{ℕ, zero, suc, List, [], ◌∷◌, ◌++◌, codes, decimal}
use Rattle.circuit_calls.specs.Lines.{lines, each}

-- what stands in front of the module's name
unfoldable pub call_head : List ℕ
call_head =
    lines ("// goi call 1: a module that calls a circuit as often as it is asked to, one call at a time." ∷
    "// verilator lint_save" ∷
    "// verilator lint_off DECLFILENAME" ∷
    "`default_nettype none" ∷ []) ++ codes "module "

-- the end of the name, and the first ports
unfoldable pub call_begin : List ℕ
call_begin =
    lines ("_call (" ∷
    "  input wire clk," ∷
    "  input wire rst," ∷
    "  input wire start," ∷ []) ++ codes "  output wire ready"

-- the port of an argument
unfoldable pub call_port : ℕ → List ℕ
call_port i = codes ",\n  input wire [63:0] arg" ++ decimal i

-- the other ports
unfoldable pub call_more : List ℕ
call_more =
    lines ("," ∷
    "  output wire valid," ∷
    "  input wire taken," ∷
    "  output wire [64:0] result," ∷
    "  output wire full," ∷
    "  output wire [63:0] moves" ∷
    ");" ∷ [])

-- what is said of so many arguments
abbrev pub call_note : ℕ → List ℕ
call_note zero = []
call_note (suc n) =
    codes "  // arg0 and so on: the arguments, in order, as they are at the edge at which a call begins; later they may be anything.\n"

-- what is said of the other ports, the register, and what is told by it
unfoldable pub call_notes : List ℕ
call_notes =
    lines ("  // clk: every register changes at its rising edges. rst: high at a rising edge, where a call that runs is dropped." ∷
    "  // start, ready: where both are high at a rising edge with rst low, a call begins." ∷
    "  // valid: the call has ended. It stays high, and result, full and moves stay as they are, until they are taken." ∷
    "  // taken: where it is high at a rising edge with valid high, they are taken, and from then on the next call can begin." ∷
    "  // result: the value, where full is low; bit 64 says overflow. full: the call has ended without a value, since the cells or" ∷
    "  // the forks were too few. moves: the moves of the call so far." ∷
    "" ∷
    "  // Whether a call has begun that isn't taken yet. While there is none the circuit is reset at each edge: so a call begins with" ∷
    "  // the arguments as they are at its first edge, and nothing is left of the call before." ∷
    "  reg busy;" ∷
    "  wire done;" ∷
    "  assign ready = !busy;" ∷
    "  assign valid = busy && (done || full);" ∷
    "" ∷ []) ++ codes "  "

-- the instance of the circuit, behind the circuit's name
unfoldable pub call_reset : List ℕ
call_reset =
    lines (" circuit (" ∷
    "    .clk(clk)," ∷ []) ++ codes "    .rst(rst || (!busy))"

-- the port of an argument there
unfoldable pub call_joint : ℕ → List ℕ
call_joint i = codes ",\n    .arg" ++ (decimal i ++ (codes "(arg" ++ (decimal i ++ codes ")")))

-- its end, the block of the clock, and the end of the module
unfoldable pub call_last : List ℕ
call_last =
    lines ("," ∷
    "    .done(done)," ∷
    "    .result(result)," ∷
    "    .full(full)," ∷
    "    .moves(moves)" ∷
    "  );" ∷
    "" ∷
    "  always @(posedge clk) begin" ∷
    "    if (rst || (valid && taken)) begin" ∷
    "      busy <= 0;" ∷
    "    end else begin" ∷
    "      if (!busy) begin" ∷
    "        busy <= start;" ∷
    "      end" ∷
    "    end" ∷
    "  end" ∷
    "endmodule" ∷
    "`default_nettype wire" ∷
    "// verilator lint_restore" ∷ [])

-- what stands behind the module's name and in front of the instance's, for so many arguments
unfoldable pub call_ports : (arguments : ℕ) → List ℕ
call_ports n = call_begin ++ (each call_port n ++ (call_more ++ (call_note n ++ call_notes)))

-- what stands behind these: the instance of the circuit of this name with so many arguments, and the block of the clock
unfoldable pub call_body : (name : List ℕ) → (arguments : ℕ) → List ℕ
call_body name n = name ++ (call_reset ++ (each call_joint n ++ call_last))

-- the text for a circuit of this name with so many arguments
unfoldable pub call_text : (name : List ℕ) → (arguments : ℕ) → List ℕ
call_text name n = call_head ++ (name ++ (call_ports n ++ call_body name n))
