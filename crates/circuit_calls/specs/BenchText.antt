-- The text of a bench for the circuit of a program, which runs the circuit once and says whether it answers what it should: the value and
-- the moves. A circuit makes a row of moves within 133 cycles, and takes the most where a product of 64 bits is waited for. The bench is a
-- module without ports, named as the circuit is with `_bench` behind it, that makes its clock and its reset by itself, waits for at most
-- 133 cycles for each move and for one more, and prints one line, `passed` or `failed: ..` with what came and what was wanted. A register
-- may be anything before the reset, so the comparisons tell an unknown bit from each known one. A failed bench ends by `$fatal`, which is
-- a task of IEEE 1800-2017 (20.10) and none of IEEE 1364-2005: Verilog itself has no task that tells whoever called the simulator that
-- something went wrong. The text is stated line by line; docs/CIRCUIT.md tells what is tried of it.
use Rattle.std.specs.Prelude.{ℕ, List, [], ◌∷◌, ◌++◌, codes, decimal}
use Rattle.pcf_values.specs.declared.val.Val.{Val}
use Rattle.pcf_values.specs.declared.val.Val.TheVariants.{Number, Overflow}
use Rattle.circuit_calls.specs.Lines.{lines}

-- what stands in front of the module's name
unfoldable pub bench_head : List ℕ
bench_head =
    lines ("// goi bench 1: a bench that runs a circuit once, and says whether it answers what the machine does." ∷
    "// verilator lint_save" ∷
    "// verilator lint_off DECLFILENAME" ∷
    "`default_nettype none" ∷ []) ++ codes "module "

-- the end of the name, up to the value
unfoldable pub bench_begin : List ℕ
bench_begin =
    lines ("_bench;" ∷
    "  // The value of the program, where bit 64 says overflow, and the moves of its run." ∷ [])
    ++ codes "  localparam [64:0] RESULT = 65'd"

-- a value as a number of 65 bits
abbrev pub value_text : Val → List ℕ
value_text (Number n) = decimal n
value_text Overflow = codes "18446744073709551616"

-- what is between the value and the moves
unfoldable pub bench_between : List ℕ
bench_between = codes ";\n  localparam [63:0] MOVES = 64'd"

-- what the circuit has, up to its name
unfoldable pub bench_wires : List ℕ
bench_wires =
    lines (";" ∷
    "" ∷
    "  reg clk;" ∷
    "  reg rst;" ∷
    "  wire done;" ∷
    "  wire [64:0] result;" ∷
    "  wire full;" ∷
    "  wire [63:0] moves;" ∷
    "  reg [63:0] cycles;" ∷
    "" ∷ []) ++ codes "  "

-- the instance of the circuit, behind its name
unfoldable pub bench_circuit : List ℕ
bench_circuit =
    lines (" circuit (" ∷
    "    .clk(clk)," ∷
    "    .rst(rst)," ∷
    "    .done(done)," ∷
    "    .result(result)," ∷
    "    .full(full)," ∷
    "    .moves(moves)" ∷
    "  );" ∷
    "" ∷ [])

-- the run
unfoldable pub bench_loop : List ℕ
bench_loop =
    lines ("  // One edge with rst high, and then edges with rst low until the circuit has ended, or there were 133 for each move and for" ∷
    "  // one more. The outputs are looked at between the edges. Where the bench has failed, $fatal tells whoever runs it." ∷
    "  initial begin" ∷
    "    clk = 0;" ∷
    "    rst = 1;" ∷
    "    cycles = 0;" ∷
    "    #5 clk = 1;" ∷
    "    #5 clk = 0;" ∷
    "    rst = 0;" ∷
    "    while (done === 0 && full === 0 && cycles < 133 * (MOVES + 1)) begin" ∷
    "      #5 clk = 1;" ∷
    "      #5 clk = 0;" ∷
    "      cycles = cycles + 1;" ∷
    "    end" ∷ [])

-- what is compared and told
unfoldable pub bench_told : List ℕ
bench_told =
    lines ("    if (done === 1 && full === 0 && result === RESULT && moves === MOVES) begin" ∷
    "      $display(\"passed\");" ∷
    "      $finish;" ∷
    "    end else begin" ∷
    "      $display(\"failed: done %b, full %b, result %0d, moves %0d after %0d cycles; wanted 1, 0, %0d, %0d\"," ∷ [])

-- the rest
unfoldable pub bench_last : List ℕ
bench_last =
    lines ("        done, full, result, moves, cycles, RESULT, MOVES);" ∷
    "      $fatal(0);" ∷
    "    end" ∷
    "  end" ∷
    "endmodule" ∷
    "`default_nettype wire" ∷
    "// verilator lint_restore" ∷ [])

-- the numbers of a bench for a program of this value and so many moves
unfoldable pub bench_numbers : Val → (moves : ℕ) → List ℕ
bench_numbers value moves = bench_begin ++ (value_text value ++ (bench_between ++ decimal moves))

-- what stands behind them
unfoldable pub bench_body : (name : List ℕ) → List ℕ
bench_body name = bench_wires ++ (name ++ (bench_circuit ++ (bench_loop ++ (bench_told ++ bench_last))))

-- the text for a circuit of this name, of a program of this value and so many moves
unfoldable pub bench_text : (name : List ℕ) → Val → (moves : ℕ) → List ℕ
bench_text name value moves = bench_head ++ (name ++ (bench_numbers value moves ++ bench_body name))
