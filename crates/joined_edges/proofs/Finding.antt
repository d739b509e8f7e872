-- What was found once all has settled: each found field is that of the row of the key and of what is seen there.
use Rattle.std.proofs.Common.{◌≡◌, ◌<◌, ◌≤◌, ℕ, suc, ◌+◌, ◌-◌, ◌^◌, max, Bool, true, not, ◌&&◌, List, [], ◌∷◌, ◌++◌, Some}
use Rattle.std.proofs.Common.{None, Option}
use Rattle.std.proofs.Common.{refl, ap, sym, ◌∙◌, subst, arith}
use Rattle.std.proofs.lemmas.Bool.{and_parts, and_from}
use Prim.Native.String.{String}
use lib.Text.{eqt}
use Rattle.verilog_tree.specs.Tree.{Item, reg, wire, settles, name, sized, pick}
use Rattle.verilog_tree.specs.Meaning.{Scope, Store, scope, width_of, nonzero, fit, chosen, run}
use Rattle.verilog_tree.specs.WellFormed.{WellFormed, items_ok, ports_first, in_order, items_fit, limits}
use Rattle.verilog_tree.proofs.Numbers.{fits}
use Rattle.verilog_tree.specs.Items.{Has, here, further}
use Rattle.verilog_tree.specs.Laws.{Declares, Settles}
use Rattle.joined_core.specs.Circuit.{Room}
use Rattle.joined_core.specs.Rows.{Site}
use Rattle.joined_module.specs.Names.{found}
use Rattle.joined_module.specs.Rows.{Sees, ModuleRow}
use Rattle.joined_module.specs.Fields.{Field, Slot, vector_wide, slot_expr, all_slots, sig_slot, box_slot, open_slot, word_slot}
use Rattle.joined_module.specs.Fields.{looked_slot}
use Rattle.joined_module.specs.Fields.{most_by, slots_from, sig_count, box_count, fork_count, word_count, row_fields}
use Rattle.joined_module.specs.Module.{ModuleTable, found_rows, Widths, widths, has_product, joined_module}
use Rattle.joined_module.specs.Module.{slot_wires, found_registers, find_stmt}
use Rattle.joined_found.specs.Found.{Each, next_row, next_field, OfFound, no_found, fields_apart, rows_keyed}
use Rattle.joined_found.specs.Laws.{FoundScope, FieldFits, Looks}
use Rattle.joined_found.proofs.Eaches.{each_map, each_both, each_turned}
use Rattle.joined_found.proofs.Bits.{bits_some}
use Rattle.joined_found.proofs.Fits.{fields_fit, fields_wide, IsWide}
use Rattle.joined_found.proofs.Finds.{taken, next_row_is}
use Rattle.joined_clock.proofs.Offs.{Ok, ok_behind, off, off_below}
use Rattle.joined_edges.proofs.Items.{in_slots, in_found, in_find, found_ok}

-- items in order, of a well-formed tree
pub ok_of : (is : List Item) → WellFormed is ≡ true → Ok is
ok_of is h =
    let (a, b) = and_parts (ports_first is && items_ok [] [] is) (in_order is && items_fit (limits is) is) h in
    let (c, d) = and_parts (ports_first is) (items_ok [] [] is) a in record { env = []; ds = []; ok = d }

-- ---- names of found fields

none_found : (x : String) (gs : List Field) → off x (found_registers gs) ≡ true → no_found gs x ≡ true
none_found x [] h = refl
none_found x (g ∷ gs) h =
    let (a, b) = and_parts (not (eqt (found g.title) x)) (off x (found_registers gs)) h in
    and_from (not (eqt (found g.title) x)) (no_found gs x) a (none_found x gs b)

pub apart_of : (gs : List Field) → Ok (found_registers gs) → fields_apart gs ≡ true
apart_of [] o = refl
apart_of (g ∷ gs) o =
    let i : Item = reg g.wide (found g.title) in
    and_from (no_found gs (found g.title)) (fields_apart gs)
    (none_found (found g.title) gs (off_below (i ∷ []) (found_registers gs) o i (here []) (found g.title) refl))
    (apart_of gs (ok_behind (i ∷ []) (found_registers gs) o))

-- of each register that stands there
found_in : (q : Field → Type 0) (gs : List Field) → ((f : Field) → Has (reg f.wide (found f.title)) (found_registers gs) → q f) → Each q gs
found_in q [] f = tt
found_in q (g ∷ gs) f =
    (f g (here (found_registers gs)), found_in q gs (λ f' h. f f' (further (reg g.wide (found g.title)) (found_registers gs) h)))

-- a slot's wire, behind others
slots_behind : (p t : ℕ) (rows : List ModuleRow) (xs ys : List Slot) (i : Item) → Has i (slot_wires p t rows ys) →
    Has i (slot_wires p t rows (xs ++ ys))
slots_behind p t rows [] ys i h = h
slots_behind p t rows (x ∷ xs) ys i h =
    further (wire (vector_wide (p + t)) x.title (slot_expr p t rows x)) (slot_wires p t rows (xs ++ ys)) (slots_behind p t rows xs ys i h)

-- among the wires of the slots is that of what is looked at next
pub looked_wire : (p t : ℕ) (rows : List ModuleRow) →
    Has (wire (vector_wide (p + t)) "looked" (slot_expr p t rows looked_slot)) (slot_wires p t rows (all_slots rows))
looked_wire p t rows =
    let last = looked_slot ∷ [] in
    let words = slots_from word_slot 0 (word_count rows) in
    let opened = slots_from open_slot 0 (fork_count rows) in
    let boxes = slots_from box_slot 0 (box_count rows) in
    let sigs = slots_from sig_slot 0 (sig_count rows) in
    let i : Item = wire (vector_wide (p + t)) "looked" (slot_expr p t rows looked_slot) in
    slots_behind p t rows sigs (boxes ++ (opened ++ (words ++ last))) i
    (slots_behind p t rows boxes (opened ++ (words ++ last)) i
    (slots_behind p t rows opened (words ++ last) i (slots_behind p t rows words last i (here []))))

-- so many bits, one at least
pub vector_bits : (m : ℕ) → 1 ≤ m → suc (m - 1) ≡ m
vector_bits m h = omega (arith, h)

module _ (T : ModuleTable) (z : Room) (n : ℕ) where
  abbrev pub R : List ModuleRow
  R = found_rows T.rows

  abbrev pub W : Widths
  W = widths R z

  abbrev pub fs : List Field
  fs = row_fields R

  abbrev pub b : Bool
  b = has_product R

  abbrev pub is : List Item
  is = joined_module T z n

  abbrev pub P : Scope
  P = scope is

  -- ---- what is declared

  key_some : 1 ≤ W.key
  key_some = bits_some (most_by (λ (r : ModuleRow). max r.to r.key) R)

  module _ (d : Declares is) where
    pub found_scope : FoundScope P R
    found_scope = record {
      fields =
          each_both (IsWide P.param) (λ f. P.width (found f.title) ≡ width_of P.param f.wide) (λ f. P.width (found f.title) ≡ f.bits)
          (λ f w e. e ∙ w) fs (fields_wide P.param R)
          (found_in (λ f. P.width (found f.title) ≡ width_of P.param f.wide) fs
          (λ f h. d.width (reg f.wide (found f.title)) (in_found R z T.start n b (reg f.wide (found f.title)) h) (found f.title) refl));
      looked =
          let i : Item = wire (vector_wide (W.place + W.tag)) "looked" (slot_expr W.place W.tag R looked_slot) in
          let e : P.width "looked" ≡ suc (W.place + W.tag - 1) = d.width i
          (in_slots R z T.start n b i (looked_wire W.place W.tag R)) "looked" refl in
          subst (λ m. W.tag ≤ m) (sym e) (enough W.place W.tag);
    }
      where
        enough : (p t : ℕ) → t ≤ suc (p + t - 1)
        enough p t = omega arith

  pub apart : Ok is → fields_apart fs ≡ true
  apart o = apart_of fs (found_ok R z T.start n b o)

  -- ---- what was found

  module _ (S X : Store) (s : Settles is S X) where
    -- the key that the token comes to
    pub goes_is : X.vec "goes" ≡ fit W.key (chosen (nonzero (X.vec "rst")) (fit W.key T.start) (X.vec "to"))
    goes_is =
        s.wires (vector_wide W.key) "goes" (pick (name "rst") (sized W.key T.start) (name "to"))
        (in_find R z T.start n b (wire (vector_wide W.key) "goes" (pick (name "rst") (sized W.key T.start) (name "to")))
        (here (settles (find_stmt W R fs) ∷ [])))
        ∙ ap (λ m. fit m (chosen (nonzero (X.vec "rst")) (fit W.key T.start) (X.vec "to"))) (vector_bits W.key key_some)

    block_still : run P (find_stmt W R fs) X ≡ X
    block_still =
        s.blocks (find_stmt W R fs)
        (in_find R z T.start n b (settles (find_stmt W R fs))
        (further (wire (vector_wide W.key) "goes" (pick (name "rst") (sized W.key T.start) (name "to")))
        (settles (find_stmt W R fs) ∷ []) (here [])))

    -- each found field is that of the row of the key and of what is seen there
    pub found_now : Declares is → Ok is → rows_keyed T.rows ≡ true → (later : Bool) (k : ℕ) (w : Site) (e : Sees) →
        Looks R T.rows X later k w e → Each (λ f. X.vec (found f.title) ≡ next_field f (next_row T.rows later k e)) fs
    found_now d o keyed later k w e l =
        each_map (λ f. (run P (find_stmt W R fs) X).vec (found f.title) ≡ next_field f (next_row T.rows later k e))
        (λ f. X.vec (found f.title) ≡ next_field f (next_row T.rows later k e))
        (λ f h. ap (λ (Y : Store). Y.vec (found f.title)) (sym block_still) ∙ h) fs
        (next_row_is T.rows keyed (apart o) P (found_scope d) X later k w e l).fields

  -- and it fits
  pub next_fits : rows_keyed T.rows ≡ true → (later : Bool) (k : ℕ) (e : Sees) →
      Each (λ f. next_field f (next_row T.rows later k e) < 2 ^ f.bits) fs
  next_fits keyed later k e =
      go (next_row T.rows later k e)
      (taken (λ r. Each (λ f. f.at r < 2 ^ f.bits) fs) T.rows keyed
      (each_turned (λ f r. f.at r < 2 ^ f.bits) fs R
      (each_map (FieldFits R) (λ f. Each (λ r. f.at r < 2 ^ f.bits) R) (λ f h. h.1) fs (fields_fit R))) later k e)
    where
      go : (o : Option ModuleRow) → OfFound (λ r. Each (λ f. f.at r < 2 ^ f.bits) fs) o → Each (λ f. next_field f o < 2 ^ f.bits) fs
      go None h = each_map (FieldFits R) (λ f. f.idle < 2 ^ f.bits) (λ f h. h.0) fs (fields_fit R)
      go (Some r) h = h

  -- so a register that takes what was found has the field of the row
  pub fields_taken : (later : Bool) (k : ℕ) (e : Sees) (X E : Store) → rows_keyed T.rows ≡ true →
      Each (λ f. P.width f.title ≡ f.bits) fs → Each (λ f. E.vec f.title ≡ fit (P.width f.title) (X.vec (found f.title))) fs →
      Each (λ f. X.vec (found f.title) ≡ next_field f (next_row T.rows later k e)) fs →
      Each (λ f. E.vec f.title ≡ next_field f (next_row T.rows later k e)) fs
  fields_taken later k e X E keyed wide took h =
      each_both (λ f. next_field f (next_row T.rows later k e) < 2 ^ f.bits)
      (λ f. E.vec f.title ≡ fit f.bits (next_field f (next_row T.rows later k e)))
      (λ f. E.vec f.title ≡ next_field f (next_row T.rows later k e))
      (λ f l g. g ∙ fits f.bits (next_field f (next_row T.rows later k e)) l) fs (next_fits keyed later k e)
      (each_both (λ f. P.width f.title ≡ f.bits) (λ f. E.vec f.title ≡ fit (P.width f.title) (next_field f (next_row T.rows later k e)))
      (λ f. E.vec f.title ≡ fit f.bits (next_field f (next_row T.rows later k e)))
      (λ f w g. g ∙ ap (λ m. fit m (next_field f (next_row T.rows later k e))) w) fs wide
      (each_both (λ f. E.vec f.title ≡ fit (P.width f.title) (X.vec (found f.title)))
      (λ f. X.vec (found f.title) ≡ next_field f (next_row T.rows later k e))
      (λ f. E.vec f.title ≡ fit (P.width f.title) (next_field f (next_row T.rows later k e)))
      (λ f a c. a ∙ ap (fit (P.width f.title)) c) fs took h))
