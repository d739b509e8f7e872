-- What the row in the registers makes, in wires and memories: the statements of `law_row_wires` and `law_row_memories`.
use Rattle.std.specs.Prelude.{◌≡◌, ◌<◌, ◌≤◌, ℕ, ◌+◌, ◌^◌, Bool, true, false, ◌||◌, List, length, Some}
use Prim.Native.String.{String}
use Rattle.verilog_tree.specs.Tree.{Item}
use Rattle.verilog_tree.specs.Meaning.{Scope, Store, flag, fire, scope}
use Rattle.circuit_module.specs.Stands.{value_number, Small}
use Rattle.joined_core.specs.Circuit.{Room}
use Rattle.joined_module.specs.Rows.{Operand, ModuleRow, opened_boxes}
use Rattle.joined_module.specs.Names.{held_name, next_sig_name, next_box_name, open_box_name, new_word_name}
use Rattle.joined_module.specs.Fields.{answers_in, needs_value, opens_fork, is_kept, kept_operand, first_operand, second_operand}
use Rattle.joined_module.specs.Fields.{row_fields}
use Rattle.joined_module.specs.Module.{Widths, widths, found_rows, fork_stmt, module_items}
use Rattle.joined_module.specs.Machine.{Tagged, tagged_at, RowCircuit, innermost, is_open, base_of, forks_after, cells_after, pointers_from}
use Rattle.joined_module.specs.Machine.{operand_value, takes_words, row_there}
use Rattle.joined_module.specs.Fits.{row_within, row_sound}
use Rattle.verilog_tree.specs.Laws.{Declares, Settles}
use Rattle.joined_clock.specs.Laws.{now_stmt}
use Rattle.joined_edges.specs.Timed.{Timed, Among}
use Rattle.joined_edges.specs.Stands.{pointer_number, PointerFits, InRegisters, InCell, ForkIs, InForks, Going}

-- ---- what is asked of a row

-- it names what is declared, and what it reads is there
pub record RowSound (W : Widths) (n : ℕ) (D : RowCircuit) (r : ModuleRow) : Type 0 where
  pub within : row_within W n r ≡ true
  pub sound : row_sound W r ≡ true
  pub there : row_there D r ≡ true

-- what it reads of a fork or of a cell was read
pub record RowReads (W : Widths) (t : Timed) (r : ModuleRow) : Type 0 where
  pub fork : answers_in r.fork ≡ true → (t.fresh ≡ false) × (is_open t.circuit.forks ≡ true)
  pub cell : takes_words (Some r) ≡ true → t.seen ≡ true

-- the value and the ports, where the value is there
pub record Values (n : ℕ) (ps : ℕ → ℕ) (D : RowCircuit) (R : Store) : Type 0 where
  pub result : R.vec "result" ≡ value_number D.value
  pub small : Small D.value
  pub held : (i : ℕ) → i < n → R.vec (held_name i) ≡ ps i
  pub ports : (i : ℕ) → i < n → ps i < 2 ^ 64

-- where no product goes on
abbrev pub NoProduct : Bool → Store → Type 0
NoProduct false R = Unit {0}
NoProduct true R = R.vec "begun" ≡ 0

-- ---- what is told

-- a name holds a pointer
pub record Reads (W : Widths) (R : Store) (x : String) (p : Tagged) : Type 0 where
  pub is : R.vec x ≡ pointer_number W p
  pub fit : PointerFits W p

-- the wires of the place of its cell, of both lists behind it, and of what it puts into a cell and a fork
pub record RowWires (W : Widths) (R : Store) (r : ModuleRow) (D : RowCircuit) : Type 0 where
  pub base : R.vec "base" ≡ base_of r D
  pub top : base_of r D + flag r.makes ≤ W.cells → R.vec "next_top" ≡ base_of r D + flag r.makes
  pub sigs : InRegisters W R next_sig_name 0 (pointers_from r D r.sigs)
  pub boxes : InRegisters W R next_box_name 0 (pointers_from r D r.boxes)
  pub opened : InRegisters W R open_box_name 0 (pointers_from r D (opened_boxes r.fork))
  pub words : r.makes ≡ true → (i : ℕ) → i < W.words → Reads W R (new_word_name i) (tagged_at (pointers_from r D r.words) i)

-- both operands, and memories behind an edge at which it is made and there is room
pub record RowMemories (W : Widths) (P : Scope) (R : Store) (ps : ℕ → ℕ) (r : ModuleRow) (D : RowCircuit) : Type 0 where
  pub first : (x : Operand) → first_operand r ≡ Some x → (R.vec "first" ≡ value_number (operand_value ps D x)) × Small
      (operand_value ps D x)
  pub second : (x : Operand) → second_operand r ≡ Some x →
      (R.vec "second" ≡ value_number (operand_value ps D x)) × Small (operand_value ps D x)
  pub cells : (i : ℕ) → i < base_of r D + flag r.makes → InCell W ((fire P R (now_stmt W) R).mem "cells" i) (cells_after r D i)
  pub forks : InForks W (fire P R (fork_stmt W) R).mem (forks_after ps r D r.fork)
  pub depth : (fire P R (fork_stmt W) R).vec "depth" ≡ length (forks_after ps r D r.fork)
  pub fresh : (fire P R (fork_stmt W) R).vec "fresh" ≡ flag (opens_fork r.fork || is_kept (kept_operand r.fork))
  pub innermost : (opens_fork r.fork || is_kept (kept_operand r.fork)) ≡ false → is_open (forks_after ps r D r.fork) ≡ true →
      ForkIs W ((fire P R (fork_stmt W) R).vec "fork_has") ((fire P R (fork_stmt W) R).vec "kept") (innermost (forks_after ps r D r.fork))

-- ---- the laws

-- the items of a table's module
abbrev pub items_of : List ModuleRow → Room → (start n : ℕ) → Bool → List Item
items_of rows z start n b = module_items (widths rows z) start rows (row_fields rows) n b

-- the row in the registers of a module in which all has settled, which is one of its rows
pub record RowStands (rows : List ModuleRow) (z : Room) (start n : ℕ) (b : Bool) (S R : Store) (t : Timed) (r : ModuleRow) : Type 0 where
  pub declares : Declares (items_of (found_rows rows) z start n b)
  pub settles : Settles (items_of (found_rows rows) z start n b) S R
  pub going : Going rows (widths (found_rows rows) z) t R
  pub row : t.row ≡ Some r
  pub among : Among r (found_rows rows)
  pub sound : RowSound (widths (found_rows rows) z) n t.circuit r
  pub reads : RowReads (widths (found_rows rows) z) t r

abbrev pub RowMakesWires : Type 0
RowMakesWires = (rows : List ModuleRow) (z : Room) (start n : ℕ) (b : Bool) (S R : Store) (t : Timed) (r : ModuleRow) →
    RowStands rows z start n b S R t r → RowWires (widths (found_rows rows) z) R r t.circuit

-- where the value is there that it needs
abbrev pub RowMakesMemories : Type 0
RowMakesMemories = (rows : List ModuleRow) (z : Room) (start n : ℕ) (b : Bool) (S R : Store) (t : Timed) (r : ModuleRow) →
    RowStands rows z start n b S R t r → (ps : ℕ → ℕ) → (needs_value r ≡ true → Values n ps t.circuit R × NoProduct b R) →
    R.vec "acts" ≡ 1 → base_of r t.circuit + flag r.makes ≤ z.cells → length (forks_after ps r t.circuit r.fork) ≤ z.forks →
    RowMemories (widths (found_rows rows) z) (scope (items_of (found_rows rows) z start n b)) R ps r t.circuit
