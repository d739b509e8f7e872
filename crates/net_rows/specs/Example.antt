-- Worked rows: the nets of `succ 4`, of `1 + 2` and of `(fun x:nat. x + x) 3`. The prover computes them.
use Rattle.std.specs.Prelude.{◌≡◌, ℕ, zero, suc, List, [], ◌∷◌, Option, Some}
use Rattle.pcf_values.specs.declared.operator.Operator.TheVariants.{Plus}
use Rattle.pcf_values.specs.Terms.{nat, num, succ_of, binary}
use Rattle.pcf_values.specs.declared.side.Side.TheVariants.{Left, Right}
use Rattle.net_build.specs.declared.node.Node.TheVariants.{Const, Succ, Root, Binary}
use Rattle.net_build.specs.Nets.{NetTree, value_wire}
use Rattle.net_build.specs.NetOf.{net_of}
use Rattle.net_build.specs.Example.{doubled_net}
use Rattle.net_rows.specs.Rows.{rises, falls, Row, GO, CONST, SUCC, FORK, JOIN, ANSWER, STAR, UNSTAR, LEFT, RIGHT, CON, PUSHR}
use Rattle.net_rows.specs.Rows.{PUSHL, SELECT, BOXIN, BOXOUT, row_of}

-- the rows of wires from k on
abbrev pub rows_from : NetTree → ℕ → ℕ → List (Option (ℕ × Row))
rows_from net k zero = []
rows_from net k (suc n) = row_of net (rises k) ∷ row_of net (falls k) ∷ rows_from net (suc k) n

-- the net of `succ 4`
abbrev pub succ_net : NetTree
succ_net = record { wires = value_wire 0 nat ∷ value_wire 0 nat ∷ []; nodes = Const 4 0 ∷ Succ 0 1 ∷ Root 1 ∷ [] }

-- the net of `1 + 2`
abbrev pub sum_net : NetTree
sum_net = record {
  wires = value_wire 0 nat ∷ value_wire 0 nat ∷ value_wire 0 nat ∷ [];
  nodes = Const 1 0 ∷ Const 2 1 ∷ Binary Plus 0 1 2 ∷ Root 2 ∷ [];
}

abbrev pub ExampleNets : Type 0
ExampleNets = (net_of (succ_of (num 4)) ≡ succ_net) × (net_of (binary Plus (num 1) (num 2)) ≡ sum_net)

abbrev pub ExampleSuccRows : Type 0
ExampleSuccRows = rows_from succ_net 0 2 ≡ Some (0, CONST 4 (falls 0)) ∷ Some (1, SUCC (falls 1)) ∷ Some (1, GO (rises 0)) ∷
    Some (2, ANSWER) ∷ []

abbrev pub ExampleSumRows : Type 0
ExampleSumRows =
    rows_from sum_net 0 3 ≡
    Some (0, CONST 1 (falls 0)) ∷ Some (2, JOIN Plus Left 2) ∷ Some (1, CONST 2 (falls 1)) ∷
    Some (2, JOIN Plus Right 2) ∷ Some (2, FORK (rises 0) (rises 1)) ∷ Some (3, ANSWER) ∷ []

-- twenty rows, in the order of the printed text
abbrev pub ExampleDoubleRows : Type 0
ExampleDoubleRows =
    rows_from doubled_net 0 10 ≡
    Some (0, STAR (falls 1)) ∷ Some (3, JOIN Plus Left 5)
    ∷ Some (0, UNSTAR (falls 0)) ∷ Some (2, LEFT (falls 4))
    ∷ Some (1, STAR (falls 3)) ∷ Some (3, JOIN Plus Right 5)
    ∷ Some (1, UNSTAR (falls 2)) ∷ Some (2, RIGHT (falls 4))
    ∷ Some (2, CON (rises 1) (rises 3)) ∷ Some (4, PUSHL (falls 6))
    ∷ Some (3, FORK (rises 0) (rises 2)) ∷ Some (4, PUSHR (falls 6))
    ∷ Some (4, SELECT (rises 5) (rises 4)) ∷ Some (7, SELECT (falls 9) (rises 8))
    ∷ Some (5, CONST 3 (falls 7)) ∷ Some (6, BOXOUT (falls 8))
    ∷ Some (6, BOXIN (rises 7)) ∷ Some (7, PUSHL (rises 6))
    ∷ Some (7, PUSHR (rises 6)) ∷ Some (8, ANSWER)
    ∷ []
