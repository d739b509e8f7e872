-- Which names of a module are shown, and as what: its inputs, outputs, registers and wires, in the order in which they are declared.
-- Memories are left out, since the format has none.
use Rattle.std.specs.Prelude.{ℕ, suc, List, [], ◌∷◌}
use Prim.Native.String.{String}
use Rattle.verilog_tree.specs.Tree.{Item, input, output, reg, wire}
use Rattle.verilog_tree.specs.Meaning.{width_of, param_in}

-- a name that is shown: its place among them, the word for what it is, how many bits it has
pub record Shown : Type 0 where
  pub place : ℕ
  pub kind : String
  pub bits : ℕ
  pub name : String

-- those of some items, where the numbers of parameters are p, from the i-th place on
abbrev pub shown_in : (p : String → ℕ) → (i : ℕ) → List Item → List Shown
shown_in p i [] = []
shown_in p i (input w x ∷ is) = record { place = i; kind = "wire"; bits = width_of p w; name = x } ∷ shown_in p (suc i) is
shown_in p i (output w x ∷ is) = record { place = i; kind = "reg"; bits = width_of p w; name = x } ∷ shown_in p (suc i) is
shown_in p i (reg w x ∷ is) = record { place = i; kind = "reg"; bits = width_of p w; name = x } ∷ shown_in p (suc i) is
shown_in p i (wire w x e ∷ is) = record { place = i; kind = "wire"; bits = width_of p w; name = x } ∷ shown_in p (suc i) is
shown_in p i (j ∷ is) = shown_in p i is

-- those of a module
abbrev pub shown : List Item → List Shown
shown is = shown_in (param_in is) 0 is
