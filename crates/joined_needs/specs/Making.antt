-- What a row makes, before it is put into the circuit.
use Rattle.std.specs.Prelude.{◌≡◌, ℕ, ◌+◌, Bool, not, ◌&&◌, List, ◌∷◌, Some, nat_lt, if◌then◌else◌}
use Rattle.verilog_tree.specs.Meaning.{flag}
use Rattle.joined_module.specs.Rows.{ModuleRow, is_new_cell, row_looks}
use Rattle.joined_module.specs.Machine.{RowFork, RowCircuit, innermost, around, looked_place, base_of, pointers_from, worth_value}
use Rattle.joined_module.specs.Machine.{forks_after}
use Rattle.joined_needs.specs.Views.{pointers_of, forks_of}
use Rattle.joined_needs.specs.declared.walk.Open.{Open}
use Rattle.joined_needs.specs.declared.makes.Forking.{Forking}
use Rattle.joined_needs.specs.declared.makes.Forking.TheVariants.{Leaving, Opening, Keeping, Closing}
use Rattle.joined_needs.specs.declared.makes.Made.{Made}

-- the open forks behind what a row does with them, where its cell is at base, and so many are in use after it
abbrev pub forked : Forking → (base top : ℕ) → List RowFork → List RowFork
forked Leaving base top fs = fs
forked (Opening boxes above answered) base top fs = record {
  boxes = pointers_of boxes;
  answered = answered;
  top = if above then top else base;
} ∷ fs
forked (Keeping v) base top fs = record (innermost fs) { answered = Some v } ∷ around fs
forked Closing base top fs = around fs

-- these are the row's
abbrev pub Forks : (ℕ → ℕ) → ModuleRow → RowCircuit → Forking → Type 0
Forks ps r D f = forked f (base_of r D) (base_of r D + flag r.makes) D.forks ≡ forks_after ps r D r.fork

pub record Makes (ps : ℕ → ℕ) (r : ModuleRow) (D : RowCircuit) (m : Made) : Type 0 where
  pub value : m.value ≡ worth_value ps D r.worth
  pub sigs : pointers_of m.sigs ≡ pointers_from r D r.sigs
  pub boxes : pointers_of m.boxes ≡ pointers_from r D r.boxes
  pub words : pointers_of m.words ≡ pointers_from r D r.words
  pub forks : Forks ps r D m.forking
  pub base : m.base ≡ base_of r D

-- the cell that is looked at next was read: it isn't the new one, and there was one
abbrev pub seen_after : ModuleRow → Made → Bool
seen_after r m =
    not (is_new_cell (row_looks r)) && nat_lt (looked_place r.site (pointers_of m.sigs) (pointers_of m.boxes)) m.base

-- what is left where the innermost was taken off, and what was taken
pub record Taken (old new : List Open) (f : RowFork) : Type 0 where
  pub innermost : f ≡ innermost (forks_of old)
  pub around : forks_of new ≡ around (forks_of old)
