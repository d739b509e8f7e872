-- The registers of the module in their groups: names of different groups are apart, and which names the parts of the clock's block spare.
use Rattle.std.proofs.Common.{◌≡◌, ℕ, zero, suc, ◌+◌, Bool, true, false, not, ◌&&◌, List, [], ◌∷◌, ◌++◌, Some, refl}
use Rattle.std.proofs.lemmas.Bool.{and_parts, and_from}
use Prim.Native.String.{String}
use lib.Text.{eqt}
use Rattle.verilog_tree.specs.Tree.{Stmt, Item, num, name, branch, skip, put, word_at}
use Rattle.verilog_tree.specs.Meaning.{Scope, Store}
use Rattle.verilog_tree.specs.WellFormed.{member}
use Rattle.circuit_module.specs.Fixed.{set, block}
use Rattle.verilog_tree.proofs.Leaves.{spares}
use Rattle.verilog_tree.specs.Items.{Has, item_name}
use Rattle.verilog_tree.proofs.Lists.{in_front, behind}
use Rattle.joined_module.specs.Names.{held_name, sig_name, box_name, next_sig_name, next_box_name, new_word_name}
use Rattle.joined_module.specs.Fields.{Field}
use Rattle.joined_module.specs.Ports.{arg_inputs, held_regs, held_sets}
use Rattle.joined_module.specs.Unit.{unit_registers, unit_stmt}
use Rattle.joined_module.specs.Module.{Widths, joined_ports, ports_said, field_registers, pointer_registers, lists_said, store_registers}
use Rattle.joined_module.specs.Module.{fetch_sets, fetch_stmt, list_sets, value_stmt, act_stmt}
use Rattle.joined_module.specs.Module.{head_items, no_room_expr, pointers_vector}
use Rattle.joined_clock.specs.Laws.{now_stmt}
use Rattle.joined_clock.proofs.Fires.{all_spare, block_spares}
use Rattle.joined_clock.proofs.Offs.{Ok, ok_behind, off, off_front, off_behind, off_above, off_below, names_of, item_named}

module _ (W : Widths) (fs : List Field) (n : ℕ) (b : Bool) where
  -- ---- the groups
  abbrev pub sig_regs : List Item
  sig_regs = pointer_registers (W.place + W.tag) sig_name 0 W.sigs

  abbrev pub box_regs : List Item
  box_regs = pointer_registers (W.place + W.tag) box_name 0 W.boxes

  abbrev pub behind_boxes : List Item
  behind_boxes = held_regs 0 n ++ (store_registers W ++ unit_registers b)

  abbrev pub behind_sigs : List Item
  behind_sigs = box_regs ++ behind_boxes

  abbrev pub behind_fields : List Item
  behind_fields = lists_said ++ (sig_regs ++ behind_sigs)

  abbrev pub behind_said : List Item
  behind_said = field_registers fs ++ behind_fields

  abbrev pub behind_ports : List Item
  behind_ports = arg_inputs 0 n ++ (ports_said ++ behind_said)

  -- it is none of the names of which there are as many as the table says
  pub record Fixed (x : String) : Type 0 where
    pub fields : off x (field_registers fs) ≡ true
    pub sigs : off x sig_regs ≡ true
    pub boxes : off x box_regs ≡ true
    pub held : off x (held_regs 0 n) ≡ true

  -- nor one of those that are in each module
  pub record Apart (x : String) : Type 0 where
    pub ports : off x joined_ports ≡ true
    pub store : off x (store_registers W) ≡ true
    pub unit : off x (unit_registers b) ≡ true

  module _ (ok : Ok (head_items W fs n b)) where
    ok_ports : Ok (joined_ports ++ behind_ports)
    ok_ports = ok

    pub ok_said : Ok behind_said
    ok_said = ok_behind ports_said behind_said
        (ok_behind (arg_inputs 0 n) (ports_said ++ behind_said) (ok_behind joined_ports behind_ports ok))

    ok_lists : Ok behind_fields
    ok_lists = ok_behind (field_registers fs) behind_fields ok_said

    pub ok_sigs : Ok (sig_regs ++ behind_sigs)
    ok_sigs = ok_behind lists_said (sig_regs ++ behind_sigs) ok_lists

    pub ok_boxes : Ok behind_sigs
    ok_boxes = ok_behind sig_regs behind_sigs ok_sigs

    pub ok_held : Ok behind_boxes
    ok_held = ok_behind box_regs behind_boxes ok_boxes

    -- where these stand
    in_said : (i : Item) → Has i behind_said → Has i behind_ports
    in_said i h = behind i (arg_inputs 0 n) (ports_said ++ behind_said) (behind i ports_said behind_said h)

    in_sigs : (i : Item) → Has i (sig_regs ++ behind_sigs) → Has i behind_said
    in_sigs i h = behind i (field_registers fs) behind_fields (behind i lists_said (sig_regs ++ behind_sigs) h)

    in_boxes : (i : Item) → Has i behind_sigs → Has i behind_said
    in_boxes i h = in_sigs i (behind i sig_regs behind_sigs h)

    in_held : (i : Item) → Has i behind_boxes → Has i behind_sigs
    in_held i h = behind i box_regs behind_boxes h

    in_store : (i : Item) → Has i (store_registers W ++ unit_registers b) → Has i behind_boxes
    in_store i h = behind i (held_regs 0 n) (store_registers W ++ unit_registers b) h

    -- names of the ports
    pub port_fixed : (i : Item) → Has i joined_ports → (x : String) → item_name i ≡ Some x → Fixed x
    port_fixed i h x e =
        let o = off_below joined_ports behind_ports ok_ports i h x e in
        let f = off_behind x ports_said behind_said (off_behind x (arg_inputs 0 n) (ports_said ++ behind_said) o) in
        let l = off_behind x lists_said (sig_regs ++ behind_sigs) (off_behind x (field_registers fs) behind_fields f) in
        let s = off_behind x sig_regs behind_sigs l in
        record {
          fields = off_front x (field_registers fs) behind_fields f;
          sigs = off_front x sig_regs behind_sigs l;
          boxes = off_front x box_regs behind_boxes s;
          held = off_front x (held_regs 0 n) (store_registers W ++ unit_registers b) (off_behind x box_regs behind_boxes s);
        }

    -- names of the store and of the unit
    pub store_fixed : (i : Item) → Has i (store_registers W ++ unit_registers b) → (x : String) → item_name i ≡ Some x → Fixed x
    store_fixed i h x e = record {
      fields =
          off_above (field_registers fs) behind_fields ok_said i
          (behind i lists_said (sig_regs ++ behind_sigs) (behind i sig_regs behind_sigs (in_held i (in_store i h)))) x e;
      sigs = off_above sig_regs behind_sigs ok_sigs i (in_held i (in_store i h)) x e;
      boxes = off_above box_regs behind_boxes ok_boxes i (in_store i h) x e;
      held = off_above (held_regs 0 n) (store_registers W ++ unit_registers b) ok_held i h x e;
    }

    -- by a name
    pub port : (x : String) → member x (names_of joined_ports) ≡ true → Fixed x
    port = item_named (λ x. Fixed x) joined_ports port_fixed

    pub store : (x : String) → member x (names_of (store_registers W)) ≡ true → Fixed x
    store =
        item_named (λ x. Fixed x) (store_registers W)
        (λ i m. store_fixed i (in_front i (store_registers W) (unit_registers b) m))

    pub unit : (x : String) → member x (names_of (unit_registers b)) ≡ true → Fixed x
    unit =
        item_named (λ x. Fixed x) (unit_registers b)
        (λ i m. store_fixed i (behind i (store_registers W) (unit_registers b) m))

    -- names of fields
    pub field_apart : (i : Item) → Has i (field_registers fs) → (x : String) → item_name i ≡ Some x → Apart x
    field_apart i h x e =
        let o = off_below (field_registers fs) behind_fields ok_said i h x e in
        let s = off_behind x sig_regs behind_sigs (off_behind x lists_said (sig_regs ++ behind_sigs) o) in
        let r = off_behind x (held_regs 0 n) (store_registers W ++ unit_registers b) (off_behind x box_regs behind_boxes s) in
        record {
          ports = off_above joined_ports behind_ports ok_ports i (in_said i (in_front i (field_registers fs) behind_fields h)) x e;
          store = off_front x (store_registers W) (unit_registers b) r;
          unit = off_behind x (store_registers W) (unit_registers b) r;
        }

    pub field_off_sigs : (i : Item) → Has i (field_registers fs) → (x : String) → item_name i ≡ Some x → off x sig_regs ≡ true
    field_off_sigs i h x e =
        off_front x sig_regs behind_sigs
        (off_behind x lists_said (sig_regs ++ behind_sigs) (off_below (field_registers fs) behind_fields ok_said i h x e))

    pub field_off_boxes : (i : Item) → Has i (field_registers fs) → (x : String) → item_name i ≡ Some x → off x box_regs ≡ true
    field_off_boxes i h x e =
        off_front x box_regs behind_boxes (off_behind x sig_regs behind_sigs
        (off_behind x lists_said (sig_regs ++ behind_sigs) (off_below (field_registers fs) behind_fields ok_said i h x e)))

    -- names of signatures
    pub sig_apart : (i : Item) → Has i sig_regs → (x : String) → item_name i ≡ Some x → Apart x
    sig_apart i h x e =
        let o = off_below sig_regs behind_sigs ok_sigs i h x e in
        let r = off_behind x (held_regs 0 n) (store_registers W ++ unit_registers b) (off_behind x box_regs behind_boxes o) in
        record {
          ports = off_above joined_ports behind_ports ok_ports i (in_said i (in_sigs i (in_front i sig_regs behind_sigs h))) x e;
          store = off_front x (store_registers W) (unit_registers b) r;
          unit = off_behind x (store_registers W) (unit_registers b) r;
        }

    pub sig_off_fields : (i : Item) → Has i sig_regs → (x : String) → item_name i ≡ Some x → off x (field_registers fs) ≡ true
    sig_off_fields i h x e =
        off_above (field_registers fs) behind_fields ok_said i
        (behind i lists_said (sig_regs ++ behind_sigs) (in_front i sig_regs behind_sigs h)) x e

    pub sig_off_boxes : (i : Item) → Has i sig_regs → (x : String) → item_name i ≡ Some x → off x box_regs ≡ true
    sig_off_boxes i h x e = off_front x box_regs behind_boxes (off_below sig_regs behind_sigs ok_sigs i h x e)

    -- names of boxes
    pub box_apart : (i : Item) → Has i box_regs → (x : String) → item_name i ≡ Some x → Apart x
    box_apart i h x e =
        let r = off_behind x (held_regs 0 n) (store_registers W ++ unit_registers b) (off_below box_regs behind_boxes ok_boxes i h x e) in
        record {
          ports = off_above joined_ports behind_ports ok_ports i (in_said i (in_boxes i (in_front i box_regs behind_boxes h))) x e;
          store = off_front x (store_registers W) (unit_registers b) r;
          unit = off_behind x (store_registers W) (unit_registers b) r;
        }

    pub box_off_fields : (i : Item) → Has i box_regs → (x : String) → item_name i ≡ Some x → off x (field_registers fs) ≡ true
    box_off_fields i h x e =
        off_above (field_registers fs) behind_fields ok_said i
        (behind i lists_said (sig_regs ++ behind_sigs) (behind i sig_regs behind_sigs (in_front i box_regs behind_boxes h))) x e

    -- names of what is held
    pub held_apart : (i : Item) → Has i (held_regs 0 n) → (x : String) → item_name i ≡ Some x → Apart x
    held_apart i h x e =
        let r = off_below (held_regs 0 n) (store_registers W ++ unit_registers b) ok_held i h x e in
        record {
          ports =
              off_above joined_ports behind_ports ok_ports i
              (in_said i (in_boxes i (in_held i (in_front i (held_regs 0 n) (store_registers W ++ unit_registers b) h)))) x e;
          store = off_front x (store_registers W) (unit_registers b) r;
          unit = off_behind x (store_registers W) (unit_registers b) r;
        }

    pub held_off_fields : (i : Item) → Has i (held_regs 0 n) → (x : String) → item_name i ≡ Some x → off x (field_registers fs) ≡ true
    held_off_fields i h x e =
        off_above (field_registers fs) behind_fields ok_said i
        (behind i lists_said (sig_regs ++ behind_sigs) (behind i sig_regs behind_sigs
        (in_held i (in_front i (held_regs 0 n) (store_registers W ++ unit_registers b) h)))) x e

    pub held_off_sigs : (i : Item) → Has i (held_regs 0 n) → (x : String) → item_name i ≡ Some x → off x sig_regs ≡ true
    held_off_sigs i h x e =
        off_above sig_regs behind_sigs ok_sigs i (in_held i (in_front i (held_regs 0 n) (store_registers W ++ unit_registers b) h)) x e

    pub held_off_boxes : (i : Item) → Has i (held_regs 0 n) → (x : String) → item_name i ≡ Some x → off x box_regs ≡ true
    held_off_boxes i h x e =
        off_above box_regs behind_boxes ok_boxes i (in_front i (held_regs 0 n) (store_registers W ++ unit_registers b) h) x e

-- ---- what an acting row writes

-- but for its lists
abbrev pub act_tail : Widths → Stmt
act_tail W =
    block (set "top" (name "next_top") ∷
    branch (name "makes") (put (word_at "cells" (name "base")) (pointers_vector new_word_name W.words)) skip ∷
    branch (name "ends") (set "ended" (num 1)) skip ∷ branch (no_room_expr W) (set "full" (num 1)) skip ∷ [])

-- ---- what parts of the block spare

module _ (P : Scope) (R : Store) (x : String) where
  pub fetch_spared : (fs : List Field) → off x (field_registers fs) ≡ true → all_spare P R x (fetch_sets fs) ≡ true
  fetch_spared [] o = refl
  fetch_spared (f ∷ fs) o =
      let (a, b) = and_parts (not (eqt f.title x)) (off x (field_registers fs)) o in
      and_from (not (eqt f.title x)) (all_spare P R x (fetch_sets fs)) a (fetch_spared fs b)

  pub fetch_spares : (W : Widths) (fs : List Field) → not (eqt "cell_has" x) ≡ true → off x (field_registers fs) ≡ true →
      spares x (fetch_stmt W fs) ≡ true
  fetch_spares W fs a o =
      and_from (not (eqt "cell_has" x) && spares x (block (fetch_sets fs))) true
      (and_from (not (eqt "cell_has" x)) (spares x (block (fetch_sets fs))) a (block_spares P R x (fetch_sets fs) (fetch_spared fs o))) refl

  pub list_spared : (w : ℕ) (y z : ℕ → String) (i n : ℕ) → off x (pointer_registers w y i n) ≡ true → all_spare P R x
      (list_sets y z i n) ≡ true
  list_spared w y z i zero o = refl
  list_spared w y z i (suc n) o =
      let (a, b) = and_parts (not (eqt (y i) x)) (off x (pointer_registers w y (suc i) n)) o in
      and_from (not (eqt (y i) x)) (all_spare P R x (list_sets y z (suc i) n)) a (list_spared w y z (suc i) n b)

  pub list_spares : (w : ℕ) (y z : ℕ → String) (i n : ℕ) → off x (pointer_registers w y i n) ≡ true →
      spares x (block (list_sets y z i n)) ≡ true
  list_spares w y z i n o = block_spares P R x (list_sets y z i n) (list_spared w y z i n o)

  pub held_spared : (i n : ℕ) → off x (held_regs i n) ≡ true → all_spare P R x (held_sets i n) ≡ true
  held_spared i zero o = refl
  held_spared i (suc n) o =
      let (a, b) = and_parts (not (eqt (held_name i) x)) (off x (held_regs (suc i) n)) o in
      and_from (not (eqt (held_name i) x)) (all_spare P R x (held_sets (suc i) n)) a (held_spared (suc i) n b)

  pub held_spares : (i n : ℕ) → off x (held_regs i n) ≡ true → spares x (block (held_sets i n)) ≡ true
  held_spares i n o = block_spares P R x (held_sets i n) (held_spared i n o)

  pub act_spares : (W : Widths) → off x (pointer_registers (W.place + W.tag) sig_name 0 W.sigs) ≡ true →
      off x (pointer_registers (W.place + W.tag) box_name 0 W.boxes) ≡ true → spares x (act_tail W) ≡ true → spares x (now_stmt W) ≡ true
  act_spares W a b c =
      and_from (spares x (act_stmt W)) true
      (and_from (spares x (block (list_sets sig_name next_sig_name 0 W.sigs))) _
      (list_spares (W.place + W.tag) sig_name next_sig_name 0 W.sigs a)
      (and_from (spares x (block (list_sets box_name next_box_name 0 W.boxes))) (spares x (act_tail W))
      (list_spares (W.place + W.tag) box_name next_box_name 0 W.boxes b) c)) refl

  pub unit_spares : spares x (unit_stmt false) ≡ true → spares x (unit_stmt true) ≡ true → (b : Bool) → spares x (unit_stmt b) ≡ true
  unit_spares f t false = f
  unit_spares f t true = t

  pub value_spares : not (eqt "result" x) ≡ true → (b : Bool) → spares x (value_stmt b) ≡ true
  value_spares h b = go b
    where
      go : (b : Bool) → spares x (value_stmt b) ≡ true
      go false = and_from (not (eqt "result" x)) (not (eqt "result" x) && true) h (and_from (not (eqt "result" x)) true h refl)
      go true =
          and_from (not (eqt "result" x)) _ h (and_from (not (eqt "result" x)) (not (eqt "result" x) && true) h
          (and_from (not (eqt "result" x)) true h refl))
