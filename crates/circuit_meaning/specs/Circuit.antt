-- What the circuit of a function of numbers does, told by the meaning of Verilog and of the function alone. A program is a function of no
-- numbers.
-- Which rows a circuit has isn't told by its function, and no row is named here. But what it comes to is: a circuit that isn't full tells
-- what the function means. And whether it is full is told by how many cells and forks it has: there are as many as it needs, or there is no
-- row.
-- Of the world it is asked that `rst` and, while it is high, the arguments are stable around each edge, and that all has settled before it.
-- What is read past the end of a vector or a memory is anything, afresh at each edge.
use Rattle.std.specs.Prelude.{◌≡◌, ◌⊎◌, ◌↔◌, ◌≤◌, ◌<◌, ◌^◌, ℕ, true, List, length, Option, None, Some}
use Prim.Native.String.{String}
use Rattle.pcf_values.specs.Terms.{TermTree}
use Rattle.open_net_laws.specs.Applied.{applied}
use Rattle.open_net_laws.specs.Arguments.{AreNumbers}
use Rattle.verilog_tree.specs.Tree.{Item}
use Rattle.verilog_tree.specs.Meaning.{Store, scope}
use Rattle.verilog_tree.specs.WellFormed.{WellFormed}
use Rattle.joined_module.specs.Ports.{port_reset, port_edges}
use Rattle.joined_means.specs.Laws.{AtPorts, RunTells}

-- a circuit: the tree of its module for each number of cells and of forks; and how many of both it needs for so many edges after a reset
-- with these arguments, where it has a row for each of them
pub record Circuit : Type 0 where
  pub items : (cells forks : ℕ) → List Item
  pub needs : (arguments : List ℕ) → (edges : ℕ) → Option (ℕ × ℕ)

-- a number of cells or of forks that it can have
abbrev pub IsSize : ℕ → Type 0
IsSize k = (1 ≤ k) × (k < 2 ^ 31)

-- it has that many
abbrev pub HasRoom : Option (ℕ × ℕ) → (cells forks : ℕ) → Type 0
HasRoom None cells forks = ⊥
HasRoom (Some needed) cells forks = (needed.0 ≤ cells) × (needed.1 ≤ forks)

-- the registers of a module after a reset with these arguments at its ports, from anything, and so many edges, with whatever is at the
-- ports then
abbrev pub registers_after : List Item → (vs : List ℕ) → Store → (strays : ℕ → String → ℕ → ℕ) → List (List ℕ) → Store
registers_after is vs S strays more = port_edges is strays more (port_reset is vs S)

-- what is so at all arguments below 2 ^ 64, with every number of cells and forks, whatever the registers and memories had before the reset,
-- whatever is read past ends, whatever is at the ports after it, and after every number of edges
abbrev pub OfEveryCall : ℕ → Circuit → ((vs : List ℕ) → (cells forks edges : ℕ) → Store → Type 0) → Type 0
OfEveryCall n C Says =
    (vs : List ℕ) → length vs ≡ n → AreNumbers vs → (cells forks : ℕ) → IsSize cells → IsSize forks →
    (S : Store) (strays : ℕ → String → ℕ → ℕ) (more : List (List ℕ)) → AtPorts n more →
    Says vs cells forks (length more) (registers_after (C.items cells forks) vs S strays more)

-- its module is one that the standard takes, and its memories have so many words
pub record IsModule (is : List Item) (cells forks : ℕ) : Type 0 where
  pub formed : WellFormed is ≡ true
  pub cells_are : (scope is).words "cells" ≡ cells
  pub forks_are : (scope is).words "forks" ≡ forks

-- the circuit of a term as a function of so many numbers
pub record IsCircuit (m : TermTree) (n : ℕ) (C : Circuit) : Type 0 where
  pub modules : (cells forks : ℕ) → IsSize cells → IsSize forks → IsModule (C.items cells forks) cells forks
  -- it is full, or it tells what the term means, applied to the arguments
  pub tells : OfEveryCall n C (λ vs cells forks edges T. (T.vec "full" ≡ 1) ⊎ ((T.vec "full" ≡ 0) × RunTells (applied m vs) edges T))
  -- it isn't full just where it has the cells and the forks that it needs by then, and a row for each edge
  pub full : OfEveryCall n C (λ vs cells forks edges T. (T.vec "full" ≡ 0) ↔ HasRoom (C.needs vs edges) cells forks)

-- the tree is that of such a circuit, with so many cells and forks
pub record IsItems (m : TermTree) (n cells forks : ℕ) (items : List Item) : Type 0 where
  pub cells_fit : IsSize cells
  pub forks_fit : IsSize forks
  pub circuit : Circuit
  pub is : IsCircuit m n circuit
  pub items_are : items ≡ circuit.items cells forks
