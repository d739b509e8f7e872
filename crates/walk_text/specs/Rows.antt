-- Whole traces with their texts. The prover computes them.
use Rattle.std.specs.Prelude.{◌≡◌, ℕ, zero, suc, List, [], ◌∷◌, ◌++◌, codes}
use Rattle.pcf_values.specs.declared.operator.Operator.TheVariants.{Plus}
use Rattle.pcf_values.specs.Terms.{nat}
use Rattle.net_build.specs.declared.node.Node.TheVariants.{Const, Succ, Root, Binary}
use Rattle.net_build.specs.Nets.{NetTree, value_wire}
use Rattle.net_build.specs.Example.{doubled_net}
use Rattle.schedule_log.specs.declared.entry.Entry.{Entry}
use Rattle.walk_text.specs.Traces.{trace_text}

-- so many moves of a ticket by worker 0, and then others
abbrev pub moves : ℕ → ℕ → List Entry → List Entry
moves zero ticket es = es
moves (suc n) ticket es = record { ticket = ticket; worker = 0 } ∷ moves n ticket es

-- the net of `succ 4`
abbrev pub succ_net : NetTree
succ_net = record { wires = value_wire 0 nat ∷ value_wire 0 nat ∷ []; nodes = Const 4 0 ∷ Succ 0 1 ∷ Root 1 ∷ [] }

-- the net of `1 + 2`
abbrev pub sum_net : NetTree
sum_net = record {
  wires = value_wire 0 nat ∷ value_wire 0 nat ∷ value_wire 0 nat ∷ [];
  nodes = Const 1 0 ∷ Const 2 1 ∷ Binary Plus 0 1 2 ∷ Root 2 ∷ [];
}

-- the trace of `succ 4`
abbrev pub succ_text : List ℕ
succ_text =
    codes "trace 1\n" ++ (
    codes "live 0 ? up 1 - -\n" ++ (
    codes "move 0 worker 0 ticket 0 node 1 Succ conclusion operand ? up 1 - - => ? up 0 - -\n" ++ (
    codes "move 1 worker 0 ticket 0 node 0 Const conclusion conclusion ? up 0 - - => 4 down 0 - -\n" ++ (
    codes "move 2 worker 0 ticket 0 node 1 Succ operand conclusion 4 down 0 - - => 5 down 1 - -\n" ++ (
    codes "move 3 worker 0 ticket 0 node 2 Root value - 5 down 1 - - => answer 5\n" ++ (
    codes "end\n"))))))

-- the trace of `(fun x:nat. x + x) 3`
abbrev pub doubled_text : List ℕ
doubled_text =
    codes "trace 1\n" ++ (
    codes "live 0 ? up 9 - -\n" ++ (
    codes "move 0 worker 0 ticket 0 node 7 App conclusion function ? up 9 - - => ? up 6 R -\n" ++ (
    codes "move 1 worker 0 ticket 0 node 4 Lam conclusion body ? up 6 R - => ? up 5 - -\n" ++ (
    codes "move 2 worker 0 ticket 0 node 3 Plus conclusion left ? up 5 - - => ? up 0 - - fork 1 ? up 2 - -\n" ++ (
    codes "move 3 worker 0 ticket 0 node 0 Der value variable ? up 0 - - => ? down 1 * -\n" ++ (
    codes "move 4 worker 0 ticket 0 node 2 Con left conclusion ? down 1 * - => ? down 4 l* -\n" ++ (
    codes "move 5 worker 0 ticket 0 node 4 Lam variable conclusion ? down 4 l* - => ? down 6 L.l* -\n" ++ (
    codes "move 6 worker 0 ticket 0 node 7 App function argument ? down 6 L.l* - => ? up 8 l* -\n" ++ (
    codes "move 7 worker 0 ticket 0 node 6 Box outside inside ? up 8 l* - => ? up 7 - l*\n" ++ (
    codes "move 8 worker 0 ticket 0 node 5 Const conclusion conclusion ? up 7 - l* => 3 down 7 - l*\n" ++ (
    codes "move 9 worker 0 ticket 0 node 6 Box inside outside 3 down 7 - l* => 3 down 8 l* -\n" ++ (
    codes "move 10 worker 0 ticket 0 node 7 App argument function 3 down 8 l* - => 3 up 6 L.l* -\n" ++ (
    codes "move 11 worker 0 ticket 0 node 4 Lam conclusion variable 3 up 6 L.l* - => 3 up 4 l* -\n" ++ (
    codes "move 12 worker 0 ticket 0 node 2 Con conclusion left 3 up 4 l* - => 3 up 1 * -\n" ++ (
    codes "move 13 worker 0 ticket 0 node 0 Der variable value 3 up 1 * - => 3 down 0 - -\n" ++ (
    codes "move 14 worker 0 ticket 0 node 3 Plus left - 3 down 0 - - => kept\n" ++ (
    codes "move 15 worker 0 ticket 1 node 1 Der value variable ? up 2 - - => ? down 3 * -\n" ++ (
    codes "move 16 worker 0 ticket 1 node 2 Con right conclusion ? down 3 * - => ? down 4 r* -\n" ++ (
    codes "move 17 worker 0 ticket 1 node 4 Lam variable conclusion ? down 4 r* - => ? down 6 L.r* -\n" ++ (
    codes "move 18 worker 0 ticket 1 node 7 App function argument ? down 6 L.r* - => ? up 8 r* -\n" ++ (
    codes "move 19 worker 0 ticket 1 node 6 Box outside inside ? up 8 r* - => ? up 7 - r*\n" ++ (
    codes "move 20 worker 0 ticket 1 node 5 Const conclusion conclusion ? up 7 - r* => 3 down 7 - r*\n" ++ (
    codes "move 21 worker 0 ticket 1 node 6 Box inside outside 3 down 7 - r* => 3 down 8 r* -\n" ++ (
    codes "move 22 worker 0 ticket 1 node 7 App argument function 3 down 8 r* - => 3 up 6 L.r* -\n" ++ (
    codes "move 23 worker 0 ticket 1 node 4 Lam conclusion variable 3 up 6 L.r* - => 3 up 4 r* -\n" ++ (
    codes "move 24 worker 0 ticket 1 node 2 Con conclusion right 3 up 4 r* - => 3 up 3 * -\n" ++ (
    codes "move 25 worker 0 ticket 1 node 1 Der variable value 3 up 3 * - => 3 down 2 - -\n" ++ (
    codes "move 26 worker 0 ticket 1 node 3 Plus right conclusion 3 down 2 - - => 6 down 5 - - joined 3 3\n" ++ (
    codes "move 27 worker 0 ticket 1 node 4 Lam body conclusion 6 down 5 - - => 6 down 6 R -\n" ++ (
    codes "move 28 worker 0 ticket 1 node 7 App function conclusion 6 down 6 R - => 6 down 9 - -\n" ++ (
    codes "move 29 worker 0 ticket 1 node 8 Root value - 6 down 9 - - => answer 6\n" ++ (
    codes "end\n"))))))))))))))))))))))))))))))))

-- the trace of `1 + 2`, with the right operand first
abbrev pub sum_text : List ℕ
sum_text =
    codes "trace 1\n" ++ (
    codes "live 0 ? up 2 - -\n" ++ (
    codes "move 0 worker 0 ticket 0 node 2 Plus conclusion left ? up 2 - - => ? up 0 - - fork 1 ? up 1 - -\n" ++ (
    codes "move 1 worker 0 ticket 1 node 1 Const conclusion conclusion ? up 1 - - => 2 down 1 - -\n" ++ (
    codes "move 2 worker 0 ticket 1 node 2 Plus right - 2 down 1 - - => kept\n" ++ (
    codes "move 3 worker 0 ticket 0 node 0 Const conclusion conclusion ? up 0 - - => 1 down 0 - -\n" ++ (
    codes "move 4 worker 0 ticket 0 node 2 Plus left conclusion 1 down 0 - - => 3 down 2 - - joined 1 2\n" ++ (
    codes "move 5 worker 0 ticket 0 node 3 Root value - 3 down 2 - - => answer 3\n" ++ (
    codes "end\n"))))))))

-- these are whole traces: of the one worker's run of the first two programs, and of tickets 0, 1, 1, 0, 0, 0 of the third, in which the
-- right answer is kept first
pub record ExampleTraces : Type 0 where
  pub succ : trace_text succ_net (moves 4 0 []) 0 100000 ≡ succ_text
  pub doubled : trace_text doubled_net (moves 15 0 (moves 15 1 [])) 0 100000 ≡ doubled_text
  pub sum : trace_text sum_net (moves 1 0 (moves 2 1 (moves 3 0 []))) 0 100000 ≡ sum_text
