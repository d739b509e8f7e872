-- An edge of a row that waits.
use Rattle.std.proofs.Common.{◌≡◌, ℕ, ◌^◌, true, false, ◌&&◌, List, length}
use Rattle.std.proofs.Common.{Some}
use Rattle.std.proofs.Common.{refl, nat_lt}
use Rattle.std.proofs.lemmas.Bool.{and_parts}
use Rattle.verilog_tree.specs.Meaning.{Store}
use Rattle.verilog_tree.specs.WellFormed.{WellFormed}
use Rattle.joined_core.specs.Circuit.{Room}
use Rattle.joined_module.specs.Rows.{ModuleRow}
use Rattle.joined_core.specs.Rows.{Site, nowhere, on_sigs, on_boxes, on_value}
use Rattle.joined_module.specs.Fields.{sees_later, row_fields}
use Rattle.joined_module.specs.Fits.{row_within, row_sound, each_within, counts_fit, widths_fit, fields_small, module_fits}
use Rattle.joined_module.specs.Module.{ModuleTable, found_rows, Widths, waiting_row, joined_module}
use Rattle.joined_module.specs.Machine.{RowCircuit, seen_by, find_row}
use Rattle.joined_found.specs.Found.{rows_keyed}
use Rattle.joined_edges.specs.Timed.{Timed, rests, timed_wait, Among, at_front, in_rest, TimedRight}
use Rattle.joined_edges.specs.Stands.{Stands}
use Rattle.joined_edges.proofs.Origins.{RowReads}
use Rattle.joined_edges.proofs.Lists.{RowSound}
use Rattle.joined_edges.proofs.Made as made
use Rattle.joined_edges.proofs.Sources.{Origins}
use Rattle.joined_steps.proofs.Module.{W, b, settles, declares}
use Rattle.joined_steps.proofs.Edge.{Q, PP, G}
use Rattle.joined_steps.proofs.Row.{going, acts_row}
use Rattle.joined_steps.proofs.Rested.{waited}
use Rattle.joined_steps.proofs.Next.{wait_fields}
use Rattle.joined_steps.proofs.CellHas.{wait_cell}

-- what fits in all rows fits in each
pub row_fits : (W : Widths) (n : ℕ) (r : ModuleRow) (rows : List ModuleRow) → Among r rows → each_within W n rows ≡ true →
    (row_within W n r ≡ true) × (row_sound W r ≡ true)
row_fits W n r rows (at_front rs) h =
    let (x, y) = and_parts (row_within W n r && row_sound W r) (each_within W n rs) h in
    let (u, v) = and_parts (row_within W n r) (row_sound W r) x in (u, v)
row_fits W n r rows (in_rest q rs a) h = row_fits W n r rs a (and_parts (row_within W n q && row_sound W q) (each_within W n rs) h).1

pub all_within : (T : ModuleTable) (z : Room) (n : ℕ) → module_fits T z n ≡ true → each_within (W T z n) n (found_rows T.rows) ≡ true
all_within T z n h =
    let rows : List ModuleRow = found_rows T.rows in
    let (a, c) = and_parts (counts_fit (W T z n) n (length rows) && widths_fit (W T z n))
    ((nat_lt T.start (2 ^ (W T z n).key) && fields_small (row_fields rows)) && each_within (W T z n) n rows) h in
    (and_parts (nat_lt T.start (2 ^ (W T z n).key) && fields_small (row_fields rows)) (each_within (W T z n) n rows) c).1

pub start_low : (T : ModuleTable) (z : Room) (n : ℕ) → module_fits T z n ≡ true → nat_lt T.start (2 ^ (W T z n).key) ≡ true
start_low T z n h =
    let rows : List ModuleRow = found_rows T.rows in
    let (a, c) = and_parts (counts_fit (W T z n) n (length rows) && widths_fit (W T z n))
    ((nat_lt T.start (2 ^ (W T z n).key) && fields_small (row_fields rows)) && each_within (W T z n) n rows) h in
    let (d, e) = and_parts (nat_lt T.start (2 ^ (W T z n).key) && fields_small (row_fields rows)) (each_within (W T z n) n rows) c in
    (and_parts (nat_lt T.start (2 ^ (W T z n).key)) (fields_small (row_fields rows)) d).0

-- what a row that waits sees is there
sees_now : (k : ℕ) (w : Site) → sees_later (waiting_row k w) ≡ false
sees_now k nowhere = refl
sees_now k on_sigs = refl
sees_now k on_boxes = refl
sees_now k on_value = refl

module _ (T : ModuleTable) (z : Room) (n : ℕ) (fits : module_fits T z n ≡ true) (right : WellFormed (joined_module T z n) ≡ true)
    (keyed : rows_keyed T.rows ≡ true) (S : Store) (start : S.vec "rst" ≡ 0) (ps : ℕ → ℕ) (t : Timed)
    (st : Stands T z n ps t (Q T z n right S start)) (runs : t.circuit.full ≡ false) (goes : t.circuit.ended ≡ false)
    (timed : TimedRight ps T.rows t) where
  abbrev Q' : Store
  Q' = Q T z n right S start

  abbrev D : RowCircuit
  D = t.circuit

  abbrev r : ModuleRow
  r = waiting_row D.key D.site

  -- the row that waits at the token's key rests, or is left
  pub wait_edge : t.row ≡ Some (waiting_row D.key D.site) → rests (waiting_row D.key D.site) t ≡ false →
      Stands T z n ps (timed_wait T.rows t) (G T z n right S start)
  wait_edge e awake =
      let among = timed.among r e in
      let f = row_fits (W T z n) n r (found_rows T.rows) among (all_within T z n fits) in
      let sound : RowSound (W T z n) n D r = record { within = f.0; sound = f.1; there = refl } in
      let reads : RowReads (W T z n) t r = record { fork = λ h. absurd cc; cell = λ h. absurd cc } in
      let O : Origins (W T z n) r D (PP T z n right S start) Q' =
      made.origins_now T.rows z T.start n (b T z n) (declares T z n right) S Q' (settles T z n right S) t r
      (going T z n right S start ps t st runs goes) e among sound reads in
      waited T z n right S start ps t st runs goes (acts_row T z n right S start ps t st runs goes r e among false true awake refl)
      (find_row T.rows D.key (seen_by D.site D))
      (wait_fields T z n right S start ps t st runs goes keyed r e among awake O refl (sees_now D.key D.site) refl timed.looks timed.sees)
      (λ h l. wait_cell T z n right S start ps t st runs goes r e among awake O refl timed.looks timed.reads h l)
