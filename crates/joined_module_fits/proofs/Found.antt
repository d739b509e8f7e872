-- The block that finds a row is right: it sets all that it drives before anything else, and names what is declared.
use Rattle.std.proofs.Common.{◌<◌, ◌≤◌, ◌+◌, ◌-◌, ℕ, zero, suc, Bool, true, false, cond, ◌&&◌, List, [], ◌∷◌, arith, ◌≡◌, ◌++◌, ◌||◌}
use Rattle.std.proofs.Common.{length, refl, ap, subst, sym, ◌∙◌, max}
use Rattle.std.specs.Prelude.{nat_eq, nat_lt}
use Rattle.verilog_tree.specs.Tree.{count, sized, name, part, Stmt, skip, seq, branch, cases, Arms, otherwise, arm, settles, Width, one}
use Rattle.verilog_tree.specs.Tree.{upto, wide}
use Rattle.circuit_module.specs.Fixed.{set, block}
use Rattle.joined_module.specs.Names.{found}
use Rattle.joined_module.specs.Rows.{Sees, sees_nothing, sees_tag, sees_zero, ModuleRow}
use Rattle.joined_module.specs.Fields.{Field, row_fields, slot_fields, Slot, bits_upto, tag_bits, most_by, most_tag, seen_tag, all_slots}
use Rattle.joined_module.specs.Fields.{place_or, from_place, kinds_at, kind_of_from, operand_number, operands_at, first_input, second_input}
use Rattle.joined_module.specs.Fields.{number_or}
use Rattle.joined_module.specs.Module.{field_set, field_sets, row_stmt_of, same_flag, row_if, rows_at, tag_arm, tag_arms, sees_zero_is}
use Rattle.joined_module.specs.Module.{zero_stmt, seen_stmt, key_stmt, later_stmt, key_arm, key_arms, Widths, idle_sets, find_stmt}
use Rattle.joined_module.specs.Module.{found_registers}
use Rattle.std.proofs.lemmas.Bool.{and_parts, and_from, or_right, lt-ltb}
use Rattle.std.proofs.lemmas.List.{append-nil}
use Prim.Native.String.{String}
use lib.Text.{eqt}
use Rattle.verilog_tree.specs.Print.{straight}
use Rattle.verilog_tree.specs.Meaning.{chosen}
use Rattle.verilog_tree.specs.WellFormed.{Entry, kind_of, register, selects, vector, of_kind, member, apart, sets_first, first_reads}
use Rattle.verilog_tree.specs.WellFormed.{stmt_ok, arms_ok, item_ok}
use Rattle.verilog_tree.proofs.Own.{same_name}
use Rattle.joined_module_fits.proofs.Groups.{AllKnown}
use Rattle.joined_module_fits.proofs.Counted.{found_names, field_titles}
use Rattle.joined_module_fits.proofs.Exprs.{positive}

module _ (S : Stmt → Type 0) (A : Arms → Type 0) (L : ℕ → ℕ → Type 0) (nothing : S skip)
    (after : (s t : Stmt) → S s → S t → S (seq s t)) (either_zero : (s t : Stmt) → S s → S t → S (branch (name "nonzero") s t))
    (either_later : (s t : Stmt) → S s → S t → S (branch (name "later") s t)) (no_arm : A (otherwise skip))
    (one_arm : (w n : ℕ) → L w n → (s : Stmt) → S s → (arms : Arms) → A arms → A (arm (sized w n ∷ []) s [] arms)) where
  abbrev pub EachSet : List Stmt → Type 0
  EachSet [] = Unit {0}
  EachSet (s ∷ ss) = S s × EachSet ss

  pub of_block : (ss : List Stmt) → EachSet ss → S (block ss)
  of_block [] h = nothing
  of_block (s ∷ []) h = h.0
  of_block (s ∷ t ∷ ss) h = after s (block (t ∷ ss)) h.0 (of_block (t ∷ ss) h.1)

  -- each field's number, of a row
  abbrev pub RowSets : List Field → ModuleRow → Type 0
  RowSets [] r = Unit {0}
  RowSets (f ∷ fs) r = S (set (found f.title) (sized f.bits (f.at r))) × RowSets fs r

  field_sets_are : (fs : List Field) (r : ModuleRow) → RowSets fs r → EachSet (field_sets fs r)
  field_sets_are [] r h = tt
  field_sets_are (f ∷ fs) r h = go (nat_eq (f.at r) f.idle) (field_sets_are fs r h.1)
    where
      go : (b : Bool) → EachSet (field_sets fs r) → EachSet (field_set b f (f.at r) (field_sets fs r))
      go true k = k
      go false k = (h.0, k)

  module _ (t : ℕ) (fs : List Field) (by_tag : (arms : Arms) → A arms → S (cases (part "looked" (count (t - 1)) (count 0)) arms)) where
    abbrev pub TagFits : Sees → Type 0
    TagFits (sees_tag n) = L t n
    TagFits e = Unit {0}

    abbrev pub RowsFit : List ModuleRow → Type 0
    RowsFit [] = Unit {0}
    RowsFit (r ∷ rs) = (RowSets fs r × TagFits r.sees) × RowsFit rs

    row_is : (r : ModuleRow) → RowSets fs r → S (row_stmt_of fs r)
    row_is r h = of_block (field_sets fs r) (field_sets_are fs r h)

    tag_arm_is : (e : Sees) (r : ModuleRow) (arms : Arms) → RowSets fs r → TagFits e → A arms → A (tag_arm t fs e r arms)
    tag_arm_is sees_nothing r arms h k a = a
    tag_arm_is (sees_tag n) r arms h k a = one_arm t n k (row_stmt_of fs r) (row_is r h) arms a
    tag_arm_is (sees_zero b) r arms h k a = a

    tag_arms_are : (rs : List ModuleRow) → RowsFit rs → A (tag_arms t fs rs)
    tag_arms_are [] h = no_arm
    tag_arms_are (r ∷ rs) h = tag_arm_is r.sees r (tag_arms t fs rs) h.0.0 h.0.1 (tag_arms_are rs h.1)

    zero_is : (b : Bool) (rs : List ModuleRow) → RowsFit rs → S (zero_stmt b fs rs)
    zero_is b [] h = nothing
    zero_is b (r ∷ rs) h = go (sees_zero_is b r.sees) (zero_is b rs h.1)
      where
        go : (c : Bool) → S (zero_stmt b fs rs) → S (cond c (row_stmt_of fs r) (zero_stmt b fs rs))
        go true k = row_is r h.0.0
        go false k = k

    seen_is : (e : Sees) (r : ModuleRow) (rs : List ModuleRow) → RowsFit (r ∷ rs) → S (seen_stmt t fs e r rs)
    seen_is sees_nothing r rs h = row_is r h.0.0
    seen_is (sees_tag n) r rs h = by_tag (tag_arms t fs (r ∷ rs)) (tag_arms_are (r ∷ rs) h)
    seen_is (sees_zero b) r rs h =
        either_zero (zero_stmt false fs (r ∷ rs)) (zero_stmt true fs (r ∷ rs)) (zero_is false (r ∷ rs) h) (zero_is true (r ∷ rs) h)

    key_is : (rs : List ModuleRow) → RowsFit rs → S (key_stmt t fs rs)
    key_is [] h = nothing
    key_is (r ∷ rs) h = seen_is r.sees r rs h

    later_is : (ws : List ModuleRow) (s : Stmt) → RowsFit ws → S s → S (later_stmt fs ws s)
    later_is [] s h k = k
    later_is (w ∷ ws) s h k = either_later (row_stmt_of fs w) s (row_is w h.0.0) k

    rows_at_fit : (b : Bool) (k : ℕ) (rows : List ModuleRow) → RowsFit rows → RowsFit (rows_at b k rows)
    rows_at_fit b k [] h = tt
    rows_at_fit b k (r ∷ rs) h = go (nat_eq r.key k && same_flag r.waits b) (rows_at_fit b k rs h.1)
      where
        go : (c : Bool) → RowsFit (rows_at b k rs) → RowsFit (row_if c r (rows_at b k rs))
        go true g = (h.0, g)
        go false g = g

    module _ (b : ℕ) where
      key_arm_is : (k : ℕ) → L b k → (ws rs : List ModuleRow) (arms : Arms) → RowsFit ws → RowsFit rs → A arms →
          A (key_arm b t fs k ws rs arms)
      key_arm_is k l ws [] arms g h a = a
      key_arm_is k l ws (r ∷ rs) arms g h a =
          one_arm b k l (later_stmt fs ws (key_stmt t fs (r ∷ rs))) (later_is ws (key_stmt t fs (r ∷ rs)) g (key_is (r ∷ rs) h)) arms a

      pub key_arms_are : (rows : List ModuleRow) → RowsFit rows → (m : ℕ) → ((k : ℕ) → k < m → L b k) → (k n : ℕ) → k + n ≤ m →
          A (key_arms b t fs rows k n)
      key_arms_are rows h m l k zero q = no_arm
      key_arms_are rows h m l k (suc n) q =
          key_arm_is k (l k (omega (arith, q))) (rows_at true k rows) (rows_at false k rows) (key_arms b t fs rows (suc k) n)
          (rows_at_fit true k rows h) (rows_at_fit false k rows h) (key_arms_are rows h m l (suc k) n (omega (arith, q)))

-- ---- each field has a bit at least
abbrev pub wide_fields : List Field → Bool
wide_fields [] = true
wide_fields (f ∷ fs) = nat_lt 0 f.bits && wide_fields fs

pub tag_positive : (rows : List ModuleRow) → nat_lt 0 (tag_bits rows) ≡ true
tag_positive rows = positive (max (most_by seen_tag rows) (most_tag (all_slots rows) rows))

slots_wide : (rows : List ModuleRow) (ss : List Slot) → wide_fields (slot_fields (tag_bits rows) rows ss) ≡ true
slots_wide rows [] = refl
slots_wide rows (s ∷ ss) =
    and_from _ _ (positive (most_by (λ r. place_or 0 (λ u. from_place (kinds_at s rows) (kind_of_from u)) (s.source r)) rows))
    (and_from _ _ (tag_positive rows) (slots_wide rows ss))

pub key_positive : (rows : List ModuleRow) → nat_lt 0 (bits_upto (most_by (λ r. max r.to r.key) rows)) ≡ true
key_positive rows = positive (most_by (λ r. max r.to r.key) rows)

-- all fields of a row
pub fields_wide : (rows : List ModuleRow) → wide_fields (row_fields rows) ≡ true
fields_wide rows = and_from _ _ (key_positive rows) (and_from _ _ (count_positive (bits_upto (most_by (λ r. r.moves) rows)))
    (and_from _ _ (positive (most_by (λ r. operand_number (operands_at first_input rows) (first_input.source r)) rows))
    (and_from _ _ (positive (most_by (λ r. number_or 0 (first_input.source r)) rows))
    (and_from _ _ (positive (most_by (λ r. operand_number (operands_at second_input rows) (second_input.source r)) rows))
    (and_from _ _ (positive (most_by (λ r. number_or 0 (second_input.source r)) rows)) (slots_wide rows (all_slots rows)))))))
  where
    count_positive : (b : ℕ) → nat_lt 0 (max 9 b) ≡ true
    count_positive b = lt-ltb 0 (max 9 b) (omega arith)

-- ---- what is set first

straight_idle : (fs : List Field) → straight (block (idle_sets fs)) ≡ true
straight_idle [] = refl
straight_idle (f ∷ []) = refl
straight_idle (f ∷ g ∷ fs) = straight_idle (g ∷ fs)

sets_idle : (fs : List Field) → sets_first (block (idle_sets fs)) ≡ found_names (field_titles fs)
sets_idle [] = refl
sets_idle (f ∷ []) = refl
sets_idle (f ∷ g ∷ fs) = ap (λ xs. found f.title ∷ xs) (sets_idle (g ∷ fs))

reads_idle : (xs : List String) (fs : List Field) → first_reads xs (block (idle_sets fs)) ≡ true
reads_idle xs [] = refl
reads_idle xs (f ∷ []) = refl
reads_idle xs (f ∷ g ∷ fs) = reads_idle xs (g ∷ fs)

pub sets_first_is : (W : Widths) (rows : List ModuleRow) (fs : List Field) →
    sets_first (find_stmt W rows fs) ≡ found_names (field_titles fs)
sets_first_is W rows fs =
    ap (λ b. chosen b (sets_first (block (idle_sets fs)) ++ []) (sets_first (block (idle_sets fs)))) (straight_idle fs)
    ∙ append-nil (sets_first (block (idle_sets fs))) ∙ sets_idle fs

first_reads_is : (xs : List String) (W : Widths) (rows : List ModuleRow) (fs : List Field) → first_reads xs (find_stmt W rows fs) ≡ true
first_reads_is xs W rows fs = and_from _ _ (reads_idle xs fs) (ap (λ b. chosen b true true) (straight_idle fs))

apart_nothing : (xs : List String) → apart xs [] ≡ true
apart_nothing [] = refl
apart_nothing (x ∷ xs) = apart_nothing xs

-- ---- each field's register is one of those that are set

-- of whatever width
pub register_kind : (w : Width) → register (kind_of w) ≡ true
register_kind one = refl
register_kind (upto h) = refl
register_kind (wide k) = refl

module _ (E : List Entry) (mine : List String) where
  abbrev pub Set : Field → Type 0
  Set f = (n : ℕ) → stmt_ok E mine (set (found f.title) (sized f.bits n)) ≡ true

  abbrev pub Sets : List Field → Type 0
  Sets [] = Unit {0}
  Sets (f ∷ fs) = Set f × Sets fs

  pub sets_are : (fs : List Field) → AllKnown E (found_registers fs) → wide_fields fs ≡ true →
      ((x : String) → member x (found_names (field_titles fs)) ≡ true → member x mine ≡ true) → Sets fs
  sets_are [] h w m = tt
  sets_are (f ∷ fs) h w m =
      let (v, u) = and_parts (nat_lt 0 f.bits) (wide_fields fs) w in (
        λ n. and_from _ _ (and_from _ _ (h.0 register ∙ register_kind f.wide) (m (found f.title)
            (ap (λ b. b || member (found f.title) (found_names (field_titles fs))) (same_name (found f.title))))) v,
        sets_are fs h.1 u (λ x k. m x (or_right (eqt (found f.title) x) (member x (found_names (field_titles fs))) k)),
      )

  idle_are : (fs : List Field) → Sets fs → stmt_ok E mine (block (idle_sets fs)) ≡ true
  idle_are [] h = refl
  idle_are (f ∷ []) h = h.0 f.idle
  idle_are (f ∷ g ∷ fs) h = and_from _ _ (h.0 f.idle) (idle_are (g ∷ fs) h.1)

  -- what the block names
  module _ (nonzero : of_kind vector E "nonzero" ≡ true) (later : of_kind vector E "later" ≡ true)
      (looked : of_kind selects E "looked" ≡ true) (goes : of_kind vector E "goes" ≡ true) where
    abbrev S : Stmt → Type 0
    S s = stmt_ok E mine s ≡ true

    abbrev A : Arms → Type 0
    A a = arms_ok E mine a ≡ true

    abbrev L : ℕ → ℕ → Type 0
    L w n = nat_lt 0 w ≡ true

    after : (s t : Stmt) → S s → S t → S (seq s t)
    after s t h k = and_from _ _ h k

    by_nonzero : (s t : Stmt) → S s → S t → S (branch (name "nonzero") s t)
    by_nonzero s t h k = and_from _ _ nonzero (after s t h k)

    by_later : (s t : Stmt) → S s → S t → S (branch (name "later") s t)
    by_later s t h k = and_from _ _ later (after s t h k)

    one_arm : (w n : ℕ) → L w n → (s : Stmt) → S s → (arms : Arms) → A arms → A (arm (sized w n ∷ []) s [] arms)
    one_arm w n l s h arms k = and_from _ _ (and_from _ _ (and_from _ _ l refl) (and_from (stmt_ok E mine s) true h refl)) k

    by_tag : (t : ℕ) (arms : Arms) → A arms → S (cases (part "looked" (count (t - 1)) (count 0)) arms)
    by_tag t arms h = and_from _ _ (and_from _ _ looked refl) h

    row_sets : (fs : List Field) → Sets fs → (r : ModuleRow) → RowSets S A L refl after by_nonzero by_later refl one_arm fs r
    row_sets [] h r = tt
    row_sets (f ∷ fs) h r = (h.0 (f.at r), row_sets fs h.1 r)

    tag_fits : (t : ℕ) (fs : List Field) → nat_lt 0 t ≡ true → (e : Sees) →
        TagFits S A L refl after by_nonzero by_later refl one_arm t fs (by_tag t) e
    tag_fits t fs l sees_nothing = tt
    tag_fits t fs l (sees_tag n) = l
    tag_fits t fs l (sees_zero b) = tt

    rows_fit : (t : ℕ) (fs : List Field) → Sets fs → nat_lt 0 t ≡ true → (rows : List ModuleRow) →
        RowsFit S A L refl after by_nonzero by_later refl one_arm t fs (by_tag t) rows
    rows_fit t fs h l [] = tt
    rows_fit t fs h l (r ∷ rs) = ((row_sets fs h r, tag_fits t fs l r.sees), rows_fit t fs h l rs)

    pub find_right : (W : Widths) (rows : List ModuleRow) (fs : List Field) → Sets fs → nat_lt 0 W.tag ≡ true → nat_lt 0 W.key ≡ true →
        stmt_ok E mine (find_stmt W rows fs) ≡ true
    find_right W rows fs h l k = and_from _ _ (idle_are fs h) (and_from _ _ goes
        (key_arms_are S A L refl after by_nonzero by_later refl one_arm W.tag fs (by_tag W.tag) W.key rows (rows_fit W.tag fs h l rows)
        (length rows) (λ n m. k) 0 (length rows) (omega arith)))

-- ---- the block as an item

-- it is right where the fields' registers are known, and what it reads
pub find_item_ok : (E : List Entry) (W : Widths) (rows : List ModuleRow) (fs : List Field) → AllKnown E (found_registers fs) →
    wide_fields fs ≡ true → of_kind vector E "nonzero" ≡ true → of_kind vector E "later" ≡ true → of_kind selects E "looked" ≡ true →
    of_kind vector E "goes" ≡ true → nat_lt 0 W.tag ≡ true → nat_lt 0 W.key ≡ true →
    item_ok E [] (settles (find_stmt W rows fs)) ≡ true
find_item_ok E W rows fs h w nonzero later looked goes tag key =
    let s : Stmt = find_stmt W rows fs in
    and_from _ _ (and_from _ _ (apart_nothing (sets_first s)) (first_reads_is (sets_first s) W rows fs))
    (subst (λ xs. stmt_ok E xs s ≡ true) (sym (sets_first_is W rows fs))
    (find_right E (found_names (field_titles fs)) nonzero later looked goes W rows fs
    (sets_are E (found_names (field_titles fs)) fs h w (λ x m. m)) tag key))
