-- Stores with the same registers stand for the same.
use Rattle.std.proofs.Common.{◌≡◌, ◌≤◌, ◌<◌, ℕ, zero, suc, ◌+◌, ◌*◌, ◌%◌, ◌^◌, Bool, List, [], ◌∷◌, length, sym}
use Rattle.std.proofs.Common.{subst, ◌∙◌, arith}
use Prim.Native.String.{String}
use Rattle.verilog_tree.specs.Meaning.{Store}
use Rattle.late_unit.proofs.Steps.{late_same}
use Rattle.joined_module.specs.Names.{held_name, sig_name, box_name}
use Rattle.joined_module.specs.Rows.{ModuleRow}
use Rattle.joined_module.specs.Fields.{row_fields}
use Rattle.joined_module.specs.Module.{ModuleTable, found_rows, Widths, widths, has_product}
use Rattle.joined_core.specs.Circuit.{Room}
use Rattle.joined_module.specs.Machine.{Tagged, innermost}
use Rattle.joined_found.specs.Found.{next_field}
use Rattle.joined_edges.specs.Timed.{Timed}
use Rattle.joined_edges.specs.Stands.{InRegisters, InCell, ForkIs, InForks, Going, Standing, Stands}
use Rattle.joined_edges.proofs.Reset.{upto_at}
use Rattle.joined_found.proofs.Eaches.{each_both}
use Rattle.joined_clock.proofs.Fetched.{Upto}
use Rattle.joined_steps.proofs.Kept.{Regs}

module _ (W : Widths) (S R : Store) (x : ℕ → String) where
  pub registers_same : (i n : ℕ) → Upto (λ k. R.vec (x k) ≡ S.vec (x k)) i n → (ps : List Tagged) → length ps ≤ n →
      InRegisters W S x i ps → InRegisters W R x i ps
  registers_same i n e [] l h = tt
  registers_same i zero e (p ∷ ps) l h = absurd (omega arith)
  registers_same i (suc n) e (p ∷ ps) l h = (e.0 ∙ h.0, (h.1.0, registers_same (suc i) n e.1 ps (omega arith) h.1.1))

module _ (rows : List ModuleRow) (W : Widths) (b : Bool) (n : ℕ) (ps : ℕ → ℕ) (t : Timed) (S R : Store)
    (g : Regs W (row_fields (found_rows rows)) n b S R) where
  pub going_same : Going rows W t S → Going rows W t R
  going_same h = record {
    row =
        each_both (λ f. R.vec f.title ≡ S.vec f.title) (λ f. S.vec f.title ≡ next_field f t.row) (λ f. R.vec f.title ≡ next_field f t.row)
        (λ f a b. a ∙ b) (row_fields (found_rows rows)) g.fields h.row;
    sigs = registers_same W S R sig_name 0 W.sigs g.sigs t.circuit.sigs h.few_sigs h.sigs;
    few_sigs = h.few_sigs;
    boxes = registers_same W S R box_name 0 W.boxes g.boxes t.circuit.boxes h.few_boxes h.boxes;
    few_boxes = h.few_boxes;
    cells = λ i l. subst (λ (m : String → ℕ → ℕ). InCell W (m "cells" i) (t.circuit.cells i)) (sym g.mem) (h.cells i l);
    read = λ a c l. subst (λ v. InCell W v t.circuit.read) (sym g.cell_has) (h.read a c l);
    top = g.top ∙ h.top;
    few = h.few;
    forks = subst (λ (m : String → ℕ → ℕ). InForks W m t.circuit.forks) (sym g.mem) h.forks;
    depth = g.depth ∙ h.depth;
    few_forks = h.few_forks;
    falling = h.falling;
    fresh = g.fresh ∙ h.fresh;
    innermost = λ a o. subst (λ v. ForkIs W v (R.vec "kept") (innermost t.circuit.forks)) (sym g.fork_has)
        (subst (λ v. ForkIs W (S.vec "fork_has") v (innermost t.circuit.forks)) (sym g.kept) (h.innermost a o));
    changed = g.changed ∙ h.changed;
    nonzero = λ a c. g.nonzero ∙ h.nonzero a c;
  }

  pub standing_same : Standing rows W b n ps t S → Standing rows W b n ps t R
  standing_same h = record {
    moves = (λ i. (g.moves i + 2 ^ 32 * g.carried i) % 2 ^ 64) ∙ h.moves;
    moves_low = subst (λ m. m < 2 ^ 64) (sym g.moves) h.moves_low;
    carried = subst (λ m. m ≤ 1) (sym g.carried) h.carried;
    value = λ e. g.result ∙ h.value e;
    small = h.small;
    works = late_same b t.late t.circuit.value S R g.unit h.works;
    held = λ i l. upto_at (λ k. R.vec (held_name k) ≡ S.vec (held_name k)) 0 n i g.held (omega arith) (omega arith) ∙ h.held i l;
    going = λ e. going_same (h.going e);
    late_done = h.late_done;
    carried_done = λ e. g.carried ∙ h.carried_done e;
  }

-- what the registers stand for is the same where they hold the same
pub stands_same : (T : ModuleTable) (z : Room) (n : ℕ) (ps : ℕ → ℕ) (t : Timed) (S R : Store) →
    Regs (widths (found_rows T.rows) z) (row_fields (found_rows T.rows)) n (has_product (found_rows T.rows)) S R →
    Stands T z n ps t S → Stands T z n ps t R
stands_same T z n ps t S R same h = record {
  full = same.full ∙ h.full;
  done = same.done ∙ h.done;
  ended = same.ended ∙ h.ended;
  not_both = h.not_both;
  not_ended = h.not_ended;
  standing = λ e. standing_same T.rows (widths (found_rows T.rows) z) (has_product (found_rows T.rows)) n ps t S R same (h.standing e);
}
