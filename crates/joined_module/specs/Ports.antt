-- Ports for arguments: their inputs, the registers that hold what they were at reset, and edges with whatever numbers at them.
use Rattle.std.specs.Prelude.{ℕ, zero, suc, List, [], ◌∷◌}
use Prim.Native.String.{String}
use Rattle.verilog_tree.specs.Tree.{count, name, Stmt, upto, Item, input, reg}
use Rattle.verilog_tree.specs.Meaning.{Store, edge, set_vec}
use Rattle.circuit_module.specs.Fixed.{set}
use Rattle.joined_module.specs.Names.{arg_name, held_name}

-- the ports of so many arguments, from the i-th on
abbrev pub arg_inputs : (i n : ℕ) → List Item
arg_inputs i zero = []
arg_inputs i (suc n) = input (upto (count 63)) (arg_name i) ∷ arg_inputs (suc i) n

-- the registers that hold them
abbrev pub held_regs : (i n : ℕ) → List Item
held_regs i zero = []
held_regs i (suc n) = reg (upto (count 63)) (held_name i) ∷ held_regs (suc i) n

-- each register takes its port
abbrev pub held_sets : (i n : ℕ) → List Stmt
held_sets i zero = []
held_sets i (suc n) = set (held_name i) (name (arg_name i)) ∷ held_sets (suc i) n

-- these numbers at the ports, from the i-th on
abbrev pub set_args : ℕ → List ℕ → Store → Store
set_args i [] S = S
set_args i (v ∷ vs) S = set_args (suc i) vs (set_vec (arg_name i) v S)

-- an edge with `rst` at 1 and these numbers
abbrev pub port_reset : List Item → List ℕ → Store → Store
port_reset is vs S = edge is (set_args 0 vs (set_vec "rst" 1 S))

-- an edge with `rst` at 0, and whatever numbers
abbrev pub port_edge : List Item → List ℕ → Store → Store
port_edge is ws S = edge is (set_args 0 ws (set_vec "rst" 0 S))

-- so many edges, with what is read past ends and what is at the ports at each
abbrev pub port_edges : List Item → (strays : ℕ → String → ℕ → ℕ) → List (List ℕ) → Store → Store
port_edges is strays [] S = S
port_edges is strays (ws ∷ more) S = port_edges is (λ n. strays (suc n)) more (port_edge is ws (record S { stray = strays 0 }))
