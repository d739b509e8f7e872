-- What the registers and memories of the module stand for: the rows with their waits.
use Rattle.std.specs.Prelude.{◌≡◌, ◌<◌, ◌≤◌, ℕ, suc, ◌+◌, ◌*◌, ◌/◌, ◌%◌, ◌^◌, Bool, true, false, not, List, [], ◌∷◌, length}
use Rattle.std.specs.Prelude.{Some}
use Prim.Native.String.{String}
use Rattle.pcf_values.specs.declared.val.Val.{Val}
use Rattle.verilog_tree.specs.Meaning.{Store, flag}
use Rattle.circuit_module.specs.Stands.{value_number, Small}
use Rattle.late_unit.specs.Works.{Works}
use Rattle.joined_core.specs.Circuit.{Room}
use Rattle.joined_core.specs.Rows.{is_zero}
use Rattle.joined_module.specs.Names.{held_name, sig_name, box_name}
use Rattle.joined_module.specs.Rows.{ModuleRow}
use Rattle.joined_module.specs.Fields.{row_fields}
use Rattle.joined_module.specs.Module.{ModuleTable, found_rows, Widths, widths, has_product}
use Rattle.joined_module.specs.Machine.{Tagged, RowFork, innermost, looked_place, has_cell, is_open}
use Rattle.joined_found.specs.Found.{Each, next_field}
use Rattle.joined_edges.specs.Timed.{Timed}

-- ---- pointers

abbrev pub pointer_width : Widths → ℕ
pointer_width W = W.place + W.tag

-- the place stands above the tag
abbrev pub pointer_number : Widths → Tagged → ℕ
pointer_number W p = p.place * 2 ^ W.tag + p.tag

-- both fit: the place is one of the memory, or the first behind it
pub record PointerFits (W : Widths) (p : Tagged) : Type 0 where
  pub tag : p.tag < 2 ^ W.tag
  pub place : p.place ≤ W.cells

-- these registers, from the i-th on, are these pointers
abbrev pub InRegisters : Widths → Store → (ℕ → String) → ℕ → List Tagged → Type 0
InRegisters W S x i [] = Unit {0}
InRegisters W S x i (p ∷ ps) = (S.vec (x i) ≡ pointer_number W p) × (PointerFits W p × InRegisters W S x (suc i) ps)

-- a vector has these pointers from this bit on
abbrev pub InVector : Widths → ℕ → ℕ → List Tagged → Type 0
InVector W v l [] = Unit {0}
InVector W v l (p ∷ ps) =
    (v / 2 ^ l % 2 ^ pointer_width W ≡ pointer_number W p) × (PointerFits W p × InVector W v (l + pointer_width W) ps)

-- a cell's vector has its words
pub record InCell (W : Widths) (v : ℕ) (f : ℕ → Tagged) : Type 0 where
  pub words : (i : ℕ) → i < W.words → v / 2 ^ (pointer_width W * i) % 2 ^ pointer_width W ≡ pointer_number W (f i)
  pub fit : (i : ℕ) → i < W.words → PointerFits W (f i)

-- ---- forks

-- a fork's words: the cells in use when it was opened, above that its boxes; and its left answer, where that came
pub record ForkIs (W : Widths) (v a : ℕ) (f : RowFork) : Type 0 where
  pub top : v % 2 ^ W.place ≡ f.top
  pub low : f.top ≤ W.cells
  pub boxes : InVector W v W.place f.boxes
  pub short : length f.boxes ≤ W.saved
  pub answered : (u : Val) → f.answered ≡ Some u → (a ≡ value_number u) × Small u

-- the open forks stand in the memories from the outermost on
abbrev pub InForks : Widths → (String → ℕ → ℕ) → List RowFork → Type 0
InForks W m [] = Unit {0}
InForks W m (f ∷ fs) = ForkIs W (m "forks" (length fs)) (m "answers" (length fs)) f × InForks W m fs

-- no fork was opened with more cells in use than those inside it, and than there are now
abbrev pub Falling : ℕ → List RowFork → Type 0
Falling n [] = Unit {0}
Falling n (f ∷ fs) = (f.top ≤ n) × Falling f.top fs

-- ---- a run that goes on

pub record Going (rows : List ModuleRow) (W : Widths) (t : Timed) (S : Store) : Type 0 where
  pub row : Each (λ f. S.vec f.title ≡ next_field f t.row) (row_fields (found_rows rows))
  pub sigs : InRegisters W S sig_name 0 t.circuit.sigs
  pub few_sigs : length t.circuit.sigs ≤ W.sigs
  pub boxes : InRegisters W S box_name 0 t.circuit.boxes
  pub few_boxes : length t.circuit.boxes ≤ W.boxes
  pub cells : (i : ℕ) → i < t.circuit.top → InCell W (S.mem "cells" i) (t.circuit.cells i)
  pub read : t.seen ≡ true → has_cell t.circuit.site ≡ true →
      looked_place t.circuit.site t.circuit.sigs t.circuit.boxes < t.circuit.top → InCell W (S.vec "cell_has") t.circuit.read
  pub top : S.vec "top" ≡ t.circuit.top
  pub few : t.circuit.top ≤ W.cells
  pub forks : InForks W S.mem t.circuit.forks
  pub depth : S.vec "depth" ≡ length t.circuit.forks
  pub few_forks : length t.circuit.forks ≤ W.forks
  pub falling : Falling t.circuit.top t.circuit.forks
  pub fresh : S.vec "fresh" ≡ flag t.fresh
  pub innermost : t.fresh ≡ false → is_open t.circuit.forks ≡ true →
      ForkIs W (S.vec "fork_has") (S.vec "kept") (innermost t.circuit.forks)
  pub changed : S.vec "changed" ≡ flag t.changed
  pub nonzero : t.late ≡ 0 → t.changed ≡ false → S.vec "nonzero" ≡ flag (not (is_zero t.circuit.value))

-- ---- and one that isn't full

pub record Standing (rows : List ModuleRow) (W : Widths) (b : Bool) (n : ℕ) (ps : ℕ → ℕ) (t : Timed) (S : Store) : Type 0 where
  -- the count of moves, with the carry that its upper half wants
  pub moves : (S.vec "moves" + 2 ^ 32 * S.vec "carried") % 2 ^ 64 ≡ t.circuit.moves % 2 ^ 64
  pub moves_low : S.vec "moves" < 2 ^ 64
  pub carried : S.vec "carried" ≤ 1
  -- the value, where it is there, and else the unit of numbers tells it
  pub value : t.late ≡ 0 → S.vec "result" ≡ value_number t.circuit.value
  pub small : Small t.circuit.value
  pub works : Works b t.late t.circuit.value S
  pub held : (i : ℕ) → i < n → S.vec (held_name i) ≡ ps i
  pub going : t.circuit.ended ≡ false → Going rows W t S
  -- once the run has ended nothing is on its way at `done`
  pub late_done : t.done ≡ true → t.late ≡ 0
  pub carried_done : t.done ≡ true → S.vec "carried" ≡ 0

-- the module's registers stand for rows with their waits
pub record Stands (T : ModuleTable) (z : Room) (n : ℕ) (ps : ℕ → ℕ) (t : Timed) (S : Store) : Type 0 where
  pub full : S.vec "full" ≡ flag t.circuit.full
  pub done : S.vec "done" ≡ flag t.done
  pub ended : S.vec "ended" ≡ flag t.circuit.ended
  pub not_both : t.circuit.full ≡ true → t.circuit.ended ≡ false
  pub not_ended : t.circuit.ended ≡ false → t.done ≡ false
  pub standing : t.circuit.full ≡ false →
      Standing T.rows (widths (found_rows T.rows) z) (has_product (found_rows T.rows)) n ps t S
