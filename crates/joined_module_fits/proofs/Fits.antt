-- The module fits its limits.
use Rattle.std.proofs.Common.{◌≡◌, ◌<◌, ◌≤◌, ◌+◌, ◌-◌, ◌^◌, ◌++◌, ℕ, suc, Bool, true, false, cond, List, [], ◌∷◌, refl, ap, arith, length}
use Rattle.std.proofs.Common.{Option, Some, None, ◌*◌, zero, ◌∙◌}
use Rattle.std.specs.Prelude.{nat_lt, nat_le}
use Rattle.std.proofs.Math.Nat.{pow-le-pow_right, mul-suc}
use Rattle.std.proofs.lemmas.Bool.{and_parts, and_from, lt-ltb, ltb-true, leb-true}
use Prim.Native.String.{String}
use Rattle.verilog_tree.specs.Tree.{count, Expr, name, Item, Stmt}
use Rattle.verilog_tree.specs.WellFormed.{Limits, small, told, items_fit, expr_fits, stmt_fits}
use Rattle.joined_module.specs.Names.{sig_name, box_name, by_name, tag_name, number_name}
use Rattle.joined_module.specs.Rows.{From, from_sig, from_box, from_fork, from_word, part_of_sig, part_of_box, from_new, from_none, Operand}
use Rattle.joined_module.specs.Rows.{the_value, the_kept, a_literal, a_port, ModuleRow}
use Rattle.joined_module.specs.Fields.{kind_of_from, from_place, with_from, Slot, kinds_at, by_field, source_expr, picked, sources_exprs}
use Rattle.joined_module.specs.Fields.{slot_expr, kind_of_operand, operand_place, with_operand, Input, operands_at, operand_field}
use Rattle.joined_module.specs.Fields.{literal_field, operand_expr, operands_exprs, input_expr, to_field, count_field, first_input}
use Rattle.joined_module.specs.Fields.{second_input, tag_bits, all_slots, Field, row_fields, slot_fields}
use Rattle.joined_module.specs.Module.{Widths, widths, cell_width, fork_width, field_registers, pointer_registers, pointer_parts}
use Rattle.joined_module.specs.Module.{found_registers, fetch_sets, list_sets}
use Rattle.joined_module.specs.Fits.{source_within, sources_within, fields_small, each_within, rows_fit_module}
use Rattle.joined_module_fits.proofs.Exprs.{within_at, kinds_within}
use Rattle.joined_core.specs.Circuit.{Room}
use Rattle.circuit_module.specs.Fixed.{block}
use Rattle.joined_module.specs.Ports.{arg_inputs, held_regs, held_sets}
use Rattle.joined_module_fits.proofs.States.{Asked}

-- ---- small numbers

pub small_less : (m n : ℕ) → m ≤ n → small n ≡ true → small m ≡ true
small_less m n l h = let k = ltb-true n (2 ^ 31) h in lt-ltb m (2 ^ 31) (omega (arith, l, k))

pub small_bits : (b : ℕ) → nat_le b 64 ≡ true → small b ≡ true
small_bits b h = let k = leb-true b 64 h in lt-ltb b (2 ^ 31) (omega (arith, k))

pub told_small : (n : ℕ) → small n ≡ true → told n ≡ true
told_small n h = let k = ltb-true n (2 ^ 31) h in lt-ltb n (10 ^ 64) (omega (arith, k))

pub told_bits : (n b : ℕ) → nat_le b 64 ≡ true → n < 2 ^ b → told n ≡ true
told_bits n b h l =
    let k = leb-true b 64 h in
    let up : 2 ^ b ≤ 2 ^ 64 = pow-le-pow_right (omega arith) k in
    lt-ltb n (10 ^ 64) (omega (arith, l, up))

pub under : (n : ℕ) → n - 1 ≤ n
under n = omega arith

pub fit_append : (L : Limits) (is js : List Item) → items_fit L is ≡ true → items_fit L js ≡ true → items_fit L (is ++ js) ≡ true
fit_append L [] js h k = k
fit_append L (i ∷ is) js h k =
    let (a, b) = and_parts _ _ h in
    and_from _ _ a (fit_append L is js b k)

-- ---- choices

-- no more kinds than rows
pub kinds_few : (s : Slot) (rows : List ModuleRow) → length (kinds_at s rows) ≤ length rows
kinds_few s [] = omega arith
kinds_few s (r ∷ rs) = one (s.source r) (kinds_at s rs) (length rs) (kinds_few s rs)
  where
    one : (o : Option From) (ss : List From) (k : ℕ) → length ss ≤ k → length (with_from o ss) ≤ suc k
    one None ss k l = omega (arith, l)
    one (Some t) ss k l = go (nat_lt (from_place ss (kind_of_from t)) (length ss))
      where
        go : (b : Bool) → length (cond b ss (kind_of_from t ∷ ss)) ≤ suc k
        go true = omega (arith, l)
        go false = omega (arith, l)

-- no more kinds of operands than rows
pub operands_few : (s : Input) (rows : List ModuleRow) → length (operands_at s rows) ≤ length rows
operands_few s [] = omega arith
operands_few s (r ∷ rs) = one (s.source r) (operands_at s rs) (length rs) (operands_few s rs)
  where
    one : (o : Option Operand) (xs : List Operand) (k : ℕ) → length xs ≤ k → length (with_operand o xs) ≤ suc k
    one None xs k l = omega (arith, l)
    one (Some x) xs k l = go (nat_lt (operand_place xs (kind_of_operand x)) (length xs))
      where
        go : (b : Bool) → length (cond b xs (kind_of_operand x ∷ xs)) ≤ suc k
        go true = omega (arith, l)
        go false = omega (arith, l)

abbrev pub AllFit : Limits → List Expr → Type 0
AllFit L [] = Unit {0}
AllFit L (e ∷ es) = (expr_fits L e ≡ true) × AllFit L es

pub picked_fits : (L : Limits) (x : String) (b K : ℕ) → small b ≡ true → small K ≡ true → (n : ℕ) (es : List Expr) → n + length es ≤ K →
    AllFit L es → expr_fits L (picked (name x) b n es) ≡ true
picked_fits L x b K h k n [] l f = refl
picked_fits L x b K h k n (e ∷ []) l f = f.0
picked_fits L x b K h k n (e ∷ d ∷ es) l f = and_from _ _ (and_from _ _ h (told_small n (small_less n K (omega (arith, l)) k)))
    (and_from _ _ f.0 (picked_fits L x b K h k (suc n) (d ∷ es) (omega (arith, l)) f.1))

-- ---- slots

-- the tags of pointers can be taken off, where there are pointers
pub record PointersFit (W : Widths) (L : Limits) (p t : ℕ) : Type 0 where
  pub sig : 0 < W.sigs → L.bounds (sig_name 0) (count (p + t - 1)) (count t) ≡ true
  pub box : 0 < W.boxes → L.bounds (box_name 0) (count (p + t - 1)) (count t) ≡ true
  pub plain : (x : String) → L.is_size x ≡ false

module _ (W : Widths) (L : Limits) (p t : ℕ) (P : PointersFit W L p t) where
  source_fits : (x : String) (s : From) → source_within W s ≡ true → expr_fits L (source_expr p t (name x) s) ≡ true
  source_fits x (from_sig i) h = refl
  source_fits x (from_box i) h = refl
  source_fits x (from_fork i) h = refl
  source_fits x (from_word i) h = refl
  source_fits x (part_of_sig m) h = and_from _ _ (P.sig (ltb-true 0 W.sigs h)) refl
  source_fits x (part_of_box m) h = and_from _ _ (P.box (ltb-true 0 W.boxes h)) refl
  source_fits x (from_new m) h = refl
  source_fits x (from_none m) h = refl

  sources_fit : (x : String) (ss : List From) → sources_within W ss ≡ true → AllFit L (sources_exprs p t (name x) ss)
  sources_fit x [] h = tt
  sources_fit x (s ∷ ss) h =
      let (a, b) = and_parts _ _ h in (source_fits x s a, sources_fit x ss b)

  sources_length : (x : String) (ss : List From) → length (sources_exprs p t (name x) ss) ≡ length ss
  sources_length x [] = refl
  sources_length x (s ∷ ss) = ap suc (sources_length x ss)

  pub slot_fits : (rows : List ModuleRow) (s : Slot) → small (length rows) ≡ true → nat_le (by_field rows s).bits 64 ≡ true →
      within_at W s rows ≡ true → expr_fits L (slot_expr p t rows s) ≡ true
  slot_fits rows s k b h =
      let l = kinds_few s rows in
      let e = sources_length (tag_name s.title) (kinds_at s rows) in
      picked_fits L (by_name s.title) (by_field rows s).bits (length rows) (small_bits (by_field rows s).bits b) k 0
      (sources_exprs p t (name (tag_name s.title)) (kinds_at s rows)) (omega (arith, l, e))
      (sources_fit (tag_name s.title) (kinds_at s rows) (kinds_within W s rows h))

-- ---- operands

module _ (L : Limits) where
  operand_fits : (b : ℕ) → nat_le b 64 ≡ true → (x : String) (y : Operand) → expr_fits L (operand_expr b (name x) y) ≡ true
  operand_fits b h x the_value = refl
  operand_fits b h x the_kept = refl
  operand_fits b h x (a_literal m) = and_from _ _ (and_from _ _ (small_less (65 - b) 65 (omega arith) refl) refl) refl
  operand_fits b h x (a_port i) = refl

  operands_fit : (b : ℕ) → nat_le b 64 ≡ true → (x : String) (ys : List Operand) → AllFit L (operands_exprs b (name x) ys)
  operands_fit b h x [] = tt
  operands_fit b h x (y ∷ ys) = (operand_fits b h x y, operands_fit b h x ys)

  operands_length : (b : ℕ) (x : String) (ys : List Operand) → length (operands_exprs b (name x) ys) ≡ length ys
  operands_length b x [] = refl
  operands_length b x (y ∷ ys) = ap suc (operands_length b x ys)

  pub input_fits : (rows : List ModuleRow) (s : Input) → small (length rows) ≡ true → nat_le (operand_field rows s).bits 64 ≡ true →
      nat_le (literal_field rows s).bits 64 ≡ true → expr_fits L (input_expr rows s) ≡ true
  input_fits rows s k b h =
      let l = operands_few s rows in
      let e = operands_length (literal_field rows s).bits (number_name s.title) (operands_at s rows) in
      picked_fits L (by_name s.title) (operand_field rows s).bits (length rows) (small_bits (operand_field rows s).bits b) k 0
      (operands_exprs (literal_field rows s).bits (name (number_name s.title)) (operands_at s rows)) (omega (arith, l, e))
      (operands_fit (literal_field rows s).bits h (number_name s.title) (operands_at s rows))

-- ---- what is asked, part by part
pub record Small (rows : List ModuleRow) (z : Room) (start n : ℕ) : Type 0 where
  pub asked : Asked rows z start n
  pub rows_few : small (length rows) ≡ true
  pub cells : small z.cells ≡ true
  pub forks : small z.forks ≡ true
  pub pointer : small ((widths rows z).place + (widths rows z).tag) ≡ true
  pub depth : small (widths rows z).depth ≡ true
  pub cell : small (cell_width (widths rows z)) ≡ true
  pub fork : small (fork_width (widths rows z)) ≡ true
  pub start_low : start < 2 ^ (widths rows z).key
  pub fields : fields_small (row_fields rows) ≡ true
  pub within : each_within (widths rows z) n rows ≡ true

-- the bits of the fields that have more than one
pub record FieldBits (rows : List ModuleRow) : Type 0 where
  pub key : nat_le (to_field rows).bits 64 ≡ true
  pub moves : nat_le (count_field rows).bits 64 ≡ true
  pub first_by : nat_le (operand_field rows first_input).bits 64 ≡ true
  pub first_number : nat_le (literal_field rows first_input).bits 64 ≡ true
  pub second_by : nat_le (operand_field rows second_input).bits 64 ≡ true
  pub second_number : nat_le (literal_field rows second_input).bits 64 ≡ true
  pub slots : fields_small (slot_fields (tag_bits rows) rows (all_slots rows)) ≡ true

-- where all fields are small, each of these has at most 64 bits
pub bits_of : (rows : List ModuleRow) → fields_small (row_fields rows) ≡ true → FieldBits rows
bits_of rows h =
    let (key, a) = and_parts _ _ h in
    let (moves, b) = and_parts _ _ a in
    let (first_by, c) = and_parts _ _ b in
    let (first_number, d) = and_parts _ _ c in
    let (second_by, e) = and_parts _ _ d in
    let (second_number, slots) = and_parts _ _ e in
    record {
      key = key;
      moves = moves;
      first_by = first_by;
      first_number = first_number;
      second_by = second_by;
      second_number = second_number;
      slots = slots;
    }

-- a table that fits is small in each part
pub small_of : (rows : List ModuleRow) (z : Room) (start n : ℕ) → rows_fit_module (widths rows z) start n rows ≡ true → Small rows z start n
small_of rows z start n h =
    let V = widths rows z in
    let (a, f) = and_parts _ _ h in
    let (counts, wide) = and_parts _ _ a in
    let (ports, lists) = and_parts _ _ counts in
    let (outer, room) = and_parts _ _ ports in
    let (n_small, rows_few) = and_parts _ _ outer in
    let (cells, forks) = and_parts _ _ room in
    let (listed, made) = and_parts _ _ lists in
    let (sigs, boxes) = and_parts _ _ listed in
    let (saved, words) = and_parts _ _ made in
    let (bits, stores) = and_parts _ _ wide in
    let (pointer, depth) = and_parts _ _ bits in
    let (cell, fork) = and_parts _ _ stores in
    let (g, within) = and_parts _ _ f in
    let (low, fields) = and_parts _ _ g in
    let B = bits_of rows fields in
    record {
      asked = record {
        ports = below n n_small;
        sigs = below V.sigs sigs;
        boxes = below V.boxes boxes;
        saved = below V.saved saved;
        words = below V.words words;
        within = within;
        first = B.first_number;
        second = B.second_number;
      };
      rows_few = rows_few;
      cells = cells;
      forks = forks;
      pointer = pointer;
      depth = depth;
      cell = cell;
      fork = fork;
      start_low = ltb-true start (2 ^ V.key) low;
      fields = fields;
      within = within;
    }
  where
    below : (k : ℕ) → small k ≡ true → 0 + k < 2 ^ 64
    below k h = let l = ltb-true k (2 ^ 31) h in omega (arith, l)

-- registers of fields
module _ (L : Limits) (fits : (k : ℕ) → L.fits (count k) ≡ small k) where
  vector_fits : (b : ℕ) → small b ≡ true → L.fits (count (b - 1)) ≡ true
  vector_fits b h = fits (b - 1) ∙ small_less (b - 1) b (under b) h

  pub slot_fields_fit : (t : ℕ) (rows : List ModuleRow) (ss : List Slot) → fields_small (slot_fields t rows ss) ≡ true →
      items_fit L (field_registers (slot_fields t rows ss)) ≡ true
  slot_fields_fit t rows [] h = refl
  slot_fields_fit t rows (s ∷ ss) h =
      let (a, k) = and_parts _ _ h in
      let (b, c) = and_parts _ _ k in
      and_from _ _ (vector_fits (by_field rows s).bits (small_bits (by_field rows s).bits a))
      (and_from _ _ (vector_fits t (small_bits t b)) (slot_fields_fit t rows ss c))

  pub slot_founds_fit : (t : ℕ) (rows : List ModuleRow) (ss : List Slot) → fields_small (slot_fields t rows ss) ≡ true →
      items_fit L (found_registers (slot_fields t rows ss)) ≡ true
  slot_founds_fit t rows [] h = refl
  slot_founds_fit t rows (s ∷ ss) h =
      let (a, k) = and_parts _ _ h in
      let (b, c) = and_parts _ _ k in
      and_from _ _ (vector_fits (by_field rows s).bits (small_bits (by_field rows s).bits a))
      (and_from _ _ (vector_fits t (small_bits t b)) (slot_founds_fit t rows ss c))

  pub regs_fit : (w : ℕ) → small w ≡ true → (nm : ℕ → String) (i n : ℕ) → items_fit L (pointer_registers w nm i n) ≡ true
  regs_fit w h nm i zero = refl
  regs_fit w h nm i (suc n) = and_from _ _ (vector_fits w h) (regs_fit w h nm (suc i) n)

  pub args_fit : (i n : ℕ) → items_fit L (arg_inputs i n) ≡ true
  args_fit i zero = refl
  args_fit i (suc n) = and_from _ _ (fits 63) (args_fit (suc i) n)

  pub held_fit : (i n : ℕ) → items_fit L (held_regs i n) ≡ true
  held_fit i zero = refl
  held_fit i (suc n) = and_from _ _ (fits 63) (held_fit (suc i) n)

  -- pointers of a vector of so many bits
  pub parts_fit : (w : ℕ) → small w ≡ true → (v : String) (C : ℕ) → small C ≡ true →
      ((h l : ℕ) → h < C → l ≤ h → small h ≡ true → small l ≡ true → L.bounds v (count h) (count l) ≡ true) → 1 ≤ w →
      (nm : ℕ → String) (l i k : ℕ) → l + w * k ≤ C → items_fit L (pointer_parts w v nm l i k) ≡ true
  parts_fit w h v C c f o nm l i zero q = refl
  parts_fit w h v C c f o nm l i (suc k) q =
      let e = mul-suc w k in
      let below : l + w - 1 < C = omega (arith, e, q, o) in
      and_from _ _ (and_from _ _ (vector_fits w h)
      (f (l + w - 1) l below (omega (arith, o)) (small_less (l + w - 1) C (omega (arith, below)) c) (small_less l C (omega (arith, q)) c)))
      (parts_fit w h v C c f o nm (l + w) (suc i) k (omega (arith, e, q)))

-- statements one behind the other
abbrev pub AllStmts : Limits → List Stmt → Type 0
AllStmts L [] = Unit {0}
AllStmts L (s ∷ ss) = (stmt_fits L s ≡ true) × AllStmts L ss

pub block_fits : (L : Limits) (ss : List Stmt) → AllStmts L ss → stmt_fits L (block ss) ≡ true
block_fits L [] h = refl
block_fits L (s ∷ []) h = h.0
block_fits L (s ∷ t ∷ ss) h = and_from _ _ h.0 (block_fits L (t ∷ ss) h.1)

pub lists_fit : (L : Limits) (x y : ℕ → String) (i n : ℕ) → AllStmts L (list_sets x y i n)
lists_fit L x y i zero = tt
lists_fit L x y i (suc n) = (refl, lists_fit L x y (suc i) n)

pub helds_fit : (L : Limits) (i n : ℕ) → AllStmts L (held_sets i n)
helds_fit L i zero = tt
helds_fit L i (suc n) = (refl, helds_fit L (suc i) n)

pub fetches_fit : (L : Limits) (fs : List Field) → AllStmts L (fetch_sets fs)
fetches_fit L [] = tt
fetches_fit L (f ∷ fs) = (refl, fetches_fit L fs)
