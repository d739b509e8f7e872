-- All that the row in the registers makes, in the wires of the module.
use Rattle.std.proofs.Common.{◌≡◌, ◌<◌, ◌≤◌, ℕ, ◌+◌, Bool, true, false, ◌&&◌, ◌||◌, List, length, Option}
use Rattle.std.proofs.Common.{Some, refl, sym, ap, subst, ◌∙◌, arith, ◌⊎◌, inl, inr}
use Rattle.std.proofs.lemmas.Bool.{or_left, or_right, not-true, and_cases}
use Rattle.verilog_tree.specs.Meaning.{Scope, Store, flag, fire, scope}
use Rattle.circuit_module.specs.Stands.{value_number, Small}
use Rattle.joined_core.specs.Circuit.{Room}
use Rattle.joined_module.specs.Rows.{Operand, the_kept, Worth, stays, tells, comes_to, ModuleRow, opened_boxes}
use Rattle.joined_module.specs.Rows.{ForkDeed, no_fork, opens, keeps, closes}
use Rattle.joined_module.specs.Names.{next_sig_name, next_box_name, open_box_name, new_word_name}
use Rattle.joined_module.specs.Fields.{opens_fork, is_kept, kept_operand, answers_in, makes_number, needs_value, changes, worth_first}
use Rattle.joined_module.specs.Fields.{worth_second}
use Rattle.joined_module.specs.Fields.{first_operand, second_operand, row_fields}
use Rattle.joined_module.specs.Module.{Widths, widths, found_rows, fork_stmt}
use Rattle.joined_module.specs.Machine.{tagged_at, RowCircuit, base_of, forks_after, cells_after, pointers_from, operand_value}
use Rattle.joined_module.specs.Machine.{operand_there, is_open, answers_deed}
use Rattle.joined_module.specs.Fits.{operand_within}
use Rattle.verilog_tree.specs.Laws.{Declares, Settles}
use Rattle.joined_found.specs.Found.{Each, next_field}
use Rattle.joined_found.proofs.Eaches.{each_map}
use Rattle.joined_edges.specs.Timed.{Timed}
use Rattle.joined_edges.specs.Stands.{InRegisters, InCell, Going}
use Rattle.joined_module.specs.Fits.{is_kept_operand}
use Rattle.joined_edges.proofs.Sources.{Reads, Wide, Origins}
use Rattle.joined_edges.specs.Timed.{Among}
use Rattle.joined_edges.proofs.Rows.{of_module}
use Rattle.joined_edges.proofs.Pointers.{Held, next_sigs, next_boxes, open_boxes, new_words}
use Rattle.joined_edges.proofs.Flags.{Flags, flags_of}
use Rattle.joined_edges.proofs.Origins.{RowReads, innermost_is, base, base_few, next_top, origins}
use Rattle.joined_edges.proofs.Lists.{RowSound, Parts, parts, sigs_right, boxes_right, opened_right, words_answer, words_take, words_long}
use Rattle.joined_edges.proofs.Lists.{operands_answer}
use Rattle.joined_edges.proofs.Placed.{is, enough_is, deep_is, place_wires_are, slot_wires_are, fields_declared, sig_wide, box_wide}
use Rattle.joined_edges.proofs.Placed.{cell_wires_are}
use Rattle.joined_edges.proofs.Placed.{fork_wires_are}
use Rattle.joined_edges.proofs.Cells.{act_now, cells_acted, cells_are}
use Rattle.joined_edges.proofs.Inputs.{Values, NoProduct, Asked, first_there, second_there, first_is, second_is}
use Rattle.joined_edges.proofs.Deeds.{ForksNow}
use Rattle.joined_edges.proofs.Forks.{Deed, forks_acted, base_falls}

-- the second operand is what is kept, where no number is made
kept_second : (w : Worth) (k : Option Operand) → makes_number w ≡ false → worth_second w k ≡ k
kept_second stays k h = refl
kept_second (tells x) k h = refl
kept_second (comes_to o x y) k h = absurd cc

first_changes : (w : Worth) (x : Operand) → worth_first w ≡ Some x → changes w ≡ true
first_changes stays x h = absurd cc
first_changes (tells y) x h = refl
first_changes (comes_to o y z) x h = refl

-- an operand wants the value to be there
second_needs : (w : Worth) (k : Option Operand) (x : Operand) → worth_second w k ≡ Some x → (changes w || is_kept k) ≡ true
second_needs stays k x h = ap is_kept h
second_needs (tells y) k x h = refl
second_needs (comes_to o y z) k x h = refl

module _ (rows : List ModuleRow) (z : Room) (start n : ℕ) (b : Bool) (declares : Declares (is (found_rows rows) z start n b)) (S R : Store)
    (settles : Settles (is (found_rows rows) z start n b) S R) (t : Timed) (r : ModuleRow)
    (going : Going rows (widths (found_rows rows) z) t R) (here : t.row ≡ Some r) (among : Among r (found_rows rows))
    (sound : RowSound (widths (found_rows rows) z) n t.circuit r) (reads : RowReads (widths (found_rows rows) z) t r) where
  abbrev F : List ModuleRow
  F = found_rows rows

  abbrev W : Widths
  W = widths F z

  abbrev P : Scope
  P = scope (is F z start n b)

  abbrev D : RowCircuit
  D = t.circuit

  abbrev pub enough : Wide W
  enough = enough_is F z start n b

  pub fields_now : Each (λ f. R.vec f.title ≡ f.at r) (row_fields F)
  fields_now =
      each_map (λ f. R.vec f.title ≡ next_field f t.row) (λ f. R.vec f.title ≡ f.at r) (λ f h. h ∙ ap (next_field f) here)
      (row_fields F) going.row

  pub flags : Flags R r
  flags = flags_of F R r fields_now

  pub held : Held F W P R r
  held = record {
    of = of_module F r among;
    fields = fields_now;
    wide = fields_declared F z start n b enough declares S R settles;
    wires = slot_wires_are F z start n b enough declares S R settles;
  }

  pub base_now : R.vec "base" ≡ base_of r D
  base_now = base rows W enough P R (place_wires_are F z start n b enough declares S R settles) t r going reads flags

  pub base_room : base_of r D ≤ W.cells
  base_room = base_few rows W enough P R (place_wires_are F z start n b enough declares S R settles) t r going reads flags

  pub top_now : base_of r D + flag r.makes ≤ W.cells → R.vec "next_top" ≡ base_of r D + flag r.makes
  top_now l = next_top rows W enough P R (place_wires_are F z start n b enough declares S R settles) t r going reads flags l

  pub origins_now : Origins W r D P R
  origins_now =
      origins rows W enough P R (place_wires_are F z start n b enough declares S R settles) t r going reads flags
      (λ l. sig_wide F z start n b enough declares S R settles (let k = going.few_sigs in omega arith))
      (λ l. box_wide F z start n b enough declares S R settles (let k = going.few_boxes in omega arith))

  pub told : Parts F z n r among D sound
  told = parts F z n r among D sound

  -- ---- both lists, the words of a new cell, and the boxes of a fork

  pub sigs_now : InRegisters W R next_sig_name 0 (pointers_from r D r.sigs)
  sigs_now = next_sigs F z P R r enough D origins_now held (sigs_right F z n r among D sound)

  pub boxes_now : InRegisters W R next_box_name 0 (pointers_from r D r.boxes)
  boxes_now = next_boxes F z P R r enough D origins_now held (boxes_right F z n r among D sound)

  pub opened_now : InRegisters W R open_box_name 0 (pointers_from r D (opened_boxes r.fork))
  opened_now = open_boxes F z P R r enough D origins_now held (opened_right F z n r among D sound)

  pub words_now : r.makes ≡ true → (i : ℕ) → i < W.words → Reads W R (new_word_name i) (tagged_at (pointers_from r D r.words) i)
  words_now m i l =
      new_words F z P R r enough D origins_now held m told.there_words told.words (words_take F z n r among D sound)
      (words_answer F z n r among D sound) i l (words_long F z n r among D sound m i l)

  open_there : answers_deed r.fork ≡ true → is_open D.forks ≡ true
  open_there e = (reads.fork (same r.fork e)).1
    where
      same : (d : ForkDeed) → answers_deed d ≡ true → answers_in d ≡ true
      same no_fork e = absurd cc
      same (opens l b k) e = absurd cc
      same (keeps x) e = refl
      same closes e = refl

  pub below_top : base_of r D ≤ D.top
  below_top = base_falls r D going.falling open_there

  -- the memory of cells
  pub cells_now : R.vec "acts" ≡ 1 → base_of r D + flag r.makes ≤ W.cells → (i : ℕ) → i < base_of r D + flag r.makes →
      InCell W ((fire P R (act_now W P R) R).mem "cells" i) (cells_after r D i)
  cells_now a room i l =
      subst (λ v. InCell W v (cells_after r D i)) (sym (ap (λ (m : ℕ → ℕ). m i) (cells_acted W P R a)))
      (cells_are W P R enough (cell_wires_are F z start n b enough declares S R settles) r D flags.makes_is base_now below_top room
      going.cells words_now i l)

  -- ---- operands

  module _ (ps : ℕ → ℕ) (there : needs_value r ≡ true → Values n ps D R × NoProduct b R) where
    asked : (x : Operand) → operand_there D x ≡ true → operand_within n (Some x) ≡ true →
        (x ≡ the_kept → (is_kept_operand (first_operand r) || is_kept_operand (second_operand r)) ≡ true) → (v : Values n ps D R) →
        Asked n ps r D R v W x
    asked x o w k v = record {
      there = o;
      within = w;
      kept = λ e. innermost_is rows W enough P R (place_wires_are F z start n b enough declares S R settles) t r going reads flags
          (operands_answer F z n r among D sound (k e));
    }

    pub first_now : (x : Operand) → first_operand r ≡ Some x →
        (R.vec "first" ≡ value_number (operand_value ps D x)) × Small (operand_value ps D x)
    first_now x e =
        let v = there (or_left (changes r.worth) (is_kept (kept_operand r.fork)) (first_changes r.worth x e)) in
        first_is F z start n b S R settles r held v.1 ps D v.0 x e
        (asked x (first_there D r.worth x told.there_worth e) (subst (λ o. operand_within n o ≡ true) e told.first)
        (λ q. or_left (is_kept_operand (first_operand r)) (is_kept_operand (second_operand r)) (ap is_kept_operand (e ∙ ap Some q))) v.0)

    pub second_now : (x : Operand) → second_operand r ≡ Some x →
        (R.vec "second" ≡ value_number (operand_value ps D x)) × Small (operand_value ps D x)
    second_now x e =
        let v = there (second_needs r.worth (kept_operand r.fork) x e) in
        second_is F z start n b S R settles r held v.1 ps D v.0 x e
        (asked x (second_there D r.worth r.fork x told.there_worth told.there_fork e) (subst (λ o. operand_within n o ≡ true) e told.second)
        (λ q. or_right (is_kept_operand (first_operand r)) (is_kept_operand (second_operand r)) (ap is_kept_operand (e ∙ ap Some q))) v.0)

    -- ---- forks

    kept_now : (x : Operand) → kept_operand r.fork ≡ Some x →
        (R.vec "second" ≡ value_number (operand_value ps D x)) × Small (operand_value ps D x)
    kept_now x e = second_now x (kept_second r.worth (kept_operand r.fork) (no_number (and_cases (makes_number r.worth)
        (is_kept (kept_operand r.fork)) (not-true (makes_number r.worth && is_kept (kept_operand r.fork)) told.one_second))) ∙ e)
      where
        no_number : (makes_number r.worth ≡ false) ⊎ (is_kept (kept_operand r.fork) ≡ false) → makes_number r.worth ≡ false
        no_number (inl q) = q
        no_number (inr q) = let s : is_kept (kept_operand r.fork) ≡ true = ap is_kept e in absurd cc

    pub deed : base_of r D + flag r.makes ≤ W.cells → length (forks_after ps r D r.fork) ≤ W.forks →
        Deed W enough (deep_is F z start n b) P R (fork_wires_are F z start n b enough declares S R settles) rows t going ps r
    deed room room_forks = record {
      there = told.there_fork;
      fresh = λ a. (reads.fork a).0;
      room = room;
      room_forks = room_forks;
      base = base_now;
      next_top = top_now room;
      boxes = opened_now;
      few_boxes = (opened_right F z n r among D sound).few;
      second = kept_now;
    }

    pub forks_now : R.vec "acts" ≡ 1 → base_of r D + flag r.makes ≤ W.cells → length (forks_after ps r D r.fork) ≤ W.forks →
        ForksNow W enough (deep_is F z start n b) P R (fork_wires_are F z start n b enough declares S R settles)
        (fire P R (fork_stmt W) R) (forks_after ps r D r.fork) (opens_fork r.fork || is_kept (kept_operand r.fork))
    forks_now a room room_forks =
        forks_acted W enough (deep_is F z start n b) P R
        (fork_wires_are F z start n b enough declares S R settles) rows t going ps r a flags
        (deed room room_forks)
