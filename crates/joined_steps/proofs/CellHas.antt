-- The cell that is read at an edge: behind a row that is made, and where one waits.
use Rattle.std.proofs.Common.{◌≡◌, ◌<◌, ◌≤◌, ℕ, ◌+◌, ◌-◌, true, false, not, ◌&&◌, Some}
use Rattle.std.proofs.Common.{refl, sym, subst, ◌∙◌, arith, nat_lt}
use Rattle.std.proofs.lemmas.Bool.{and_parts, ltb-true, not-true}
use Rattle.verilog_tree.specs.Tree.{count, reg, part, word}
use Rattle.verilog_tree.specs.Meaning.{Scope, Store, assigned}
use Rattle.verilog_tree.specs.WellFormed.{WellFormed}
use Rattle.joined_core.specs.Circuit.{Room}
use Rattle.joined_module.specs.Rows.{ModuleRow, is_new_cell, row_looks}
use Rattle.joined_module.specs.Fields.{vector_wide}
use Rattle.joined_module.specs.Fits.{looks_somewhere}
use Rattle.joined_module.specs.Module.{ModuleTable, found_rows, cell_width, joined_module}
use Rattle.joined_module.specs.Machine.{RowCircuit, has_cell, looked_place, base_of, place_after, read_after}
use Rattle.joined_clock.proofs.Fetched.{cell_new}
use Rattle.joined_edges.specs.Timed.{Timed, rests, Among, something}
use Rattle.joined_edges.specs.Stands.{InCell, Stands}
use Rattle.joined_edges.proofs.Sources.{Origins}
use Rattle.joined_edges.proofs.Finding.{vector_bits}
use Rattle.joined_edges.proofs.Pointers.{ListRight}
use Rattle.joined_edges.proofs.Placed.{looked_wide, cell_wires_are}
use Rattle.joined_edges.proofs.Reading.{read_next, read_wait}
use Rattle.joined_steps.proofs.Module.{W, fs, b, settles, declares, ok}
use Rattle.joined_steps.proofs.Edge.{Q, PP, G, low, store_wide, fetches_is}
use Rattle.joined_steps.proofs.Row.{wide_of, going, held, rests_row}

module _ (T : ModuleTable) (z : Room) (n : ℕ) (right : WellFormed (joined_module T z n) ≡ true) (S : Store) (start : S.vec "rst" ≡ 0)
    (ps : ℕ → ℕ) (t : Timed) (st : Stands T z n ps t (Q T z n right S start)) (runs : t.circuit.full ≡ false)
    (goes : t.circuit.ended ≡ false) (r : ModuleRow) (e : t.row ≡ Some r) (among : Among r (found_rows T.rows)) (awake : rests r t ≡ false)
    (O : Origins (W T z n) r t.circuit (PP T z n right S start) (Q T z n right S start)) where
  abbrev Q' : Store
  Q' = Q T z n right S start

  abbrev G' : Store
  G' = G T z n right S start

  abbrev P' : Scope
  P' = PP T z n right S start

  abbrev D : RowCircuit
  D = t.circuit

  cell_now : G'.vec "cell_has" ≡
      assigned P' Q' (P'.width "cell_has") (word "cells" (part "looked" (count ((W T z n).place + (W T z n).tag - 1)) (count (W T z
      n).tag)))
  cell_now =
      cell_new P' (W T z n) (fs T z n) n (b T z n) Q' (ok T z n right) (low T z n right S start)
      (fetches_is T z n right S start false (rests_row T z n right S start ps t st runs goes r e among false awake))

  has_wide : P'.width "cell_has" ≡ cell_width (W T z n)
  has_wide =
      store_wide T z n right S start 4 (reg (vector_wide (cell_width (W T z n))) "cell_has") refl "cell_has" refl
      ∙ vector_bits (cell_width (W T z n)) (omega arith)

  -- behind a row that is made, where the cell was in use before
  pub act_cell : r.waits ≡ false → ListRight (W T z n) r D r.sigs (W T z n).sigs → ListRight (W T z n) r D r.boxes (W T z n).boxes →
      looks_somewhere r ≡ true → base_of r D ≤ D.top → base_of r D ≤ (W T z n).cells →
      (not (is_new_cell (row_looks r)) && nat_lt (place_after r D) (base_of r D)) ≡ true → has_cell r.site ≡ true →
      InCell (W T z n) (G'.vec "cell_has") (read_after r D)
  act_cell acts sigs boxes somewhere below few seen h =
      let (a, c) = and_parts (not (is_new_cell (row_looks r))) (nat_lt (place_after r D) (base_of r D)) seen in
      let g = going T z n right S start ps t st runs goes in
      let en = wide_of (found_rows T.rows) z in
      subst (λ v. InCell (W T z n) v (read_after r D)) (sym cell_now)
      (read_next (found_rows T.rows) z P' Q' r en D O (held T z n right S start ps t st runs goes r e among) acts sigs boxes somewhere
      (not-true (is_new_cell (row_looks r)) a)
      (cell_wires_are (found_rows T.rows) z T.start n (b T z n) en (declares T z n right) S Q' (settles T z n right S))
      (looked_wide (found_rows T.rows) z T.start n (b T z n) en (declares T z n right) S Q' (settles T z n right S)) has_wide g.cells
      below few h
      (ltb-true (place_after r D) (base_of r D) c))

  -- where a row waits
  pub wait_cell : r.waits ≡ true → something r.site D.sigs D.boxes ≡ true → D.read ≡ D.cells (looked_place r.site D.sigs D.boxes) →
      has_cell r.site ≡ true → looked_place r.site D.sigs D.boxes < D.top → InCell (W T z n) (G'.vec "cell_has") D.read
  wait_cell waits there reads h l =
      let g = going T z n right S start ps t st runs goes in
      let en = wide_of (found_rows T.rows) z in
      subst (λ f. InCell (W T z n) (G'.vec "cell_has") f) (sym reads)
      (subst (λ v. InCell (W T z n) v (D.cells (looked_place r.site D.sigs D.boxes))) (sym cell_now)
      (read_wait (found_rows T.rows) z P' Q' r en D O (held T z n right S start ps t st runs goes r e among) waits there g.few_sigs
      g.few_boxes
      (cell_wires_are (found_rows T.rows) z T.start n (b T z n) en (declares T z n right) S Q' (settles T z n right S))
      (looked_wide (found_rows T.rows) z T.start n (b T z n) en (declares T z n right) S Q' (settles T z n right S)) has_wide g.cells
      g.few h l))
