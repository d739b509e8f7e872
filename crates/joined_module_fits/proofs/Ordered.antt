-- The module is in order, and its ports stand first.
use Rattle.std.proofs.Common.{◌≡◌, ◌++◌, Bool, true, false, not, ◌&&◌, ◌||◌, List, [], ◌∷◌, Option, Some, None, refl, ap, subst, sym, ◌∙◌}
use Rattle.std.proofs.Common.{◌<◌, ◌+◌, ◌-◌, ℕ, zero, suc, length, ◌⊎◌, inl, inr, arith, ⊎_elim}
use Rattle.std.proofs.lemmas.Bool.{and_parts, and_from, or_parts, or_right, or_left, not-true}
use Prim.Native.String.{String}
use lib.Text.{eqt}
use Rattle.verilog_tree.specs.Tree.{Expr, num, sized, const, name, bit, part, word, cat, inverse, two, shift, test, logic, none, any, every}
use Rattle.verilog_tree.specs.Tree.{pick, Width, Item, note, size, constant, input, output, reg, memory, wire, settles, clocked, count}
use Rattle.verilog_tree.specs.Tree.{Stmt, seq, branch, cases, Arms, arm}
use Rattle.verilog_tree.specs.WellFormed.{Entry, wire_kind, of_kind, vector, selects, is_memory, member, outside, taken, has_width, expr_ok}
use Rattle.verilog_tree.specs.WellFormed.{reads, declare, declared, driven, items_ok, settling, in_order, apart, block_reads, arms_read}
use Rattle.verilog_tree.specs.WellFormed.{sets_first, no_port, ports_first}
use Rattle.verilog_tree.proofs.Own.{same_name, one_name}
use Rattle.verilog_tree.proofs.Kept.{kind_taken}
use Rattle.verilog_tree.proofs.Once.{is_name, head_ok, tail_ok, taken_step, new_here}
use Rattle.verilog_tree.specs.Items.{item_name}
use Rattle.joined_module_fits.proofs.Names.{and_on, either, class, all_own, none_of_own}
use Rattle.joined_module_fits.proofs.States.{blockless, Asked, W, e, ds20, right18, P3, P4, P6, P7, P9, P10, P11, P13, P16, founds_named_is}
use Rattle.joined_module_fits.proofs.States.{chain, chain_append, layers}
use Rattle.std.proofs.lemmas.List.{append_assoc}
use Rattle.joined_core.specs.Circuit.{Room}
use Rattle.circuit_module.specs.Fixed.{block}
use Rattle.joined_module.specs.Names.{found, sig_name, box_name, word_name, fork_box_name}
use Rattle.joined_module.specs.Rows.{Sees, sees_nothing, sees_tag, sees_zero, ModuleRow}
use Rattle.joined_module.specs.Fields.{Field, row_fields, input_expr, first_input, second_input, Slot, all_slots}
use Rattle.joined_module.specs.Ports.{arg_inputs, held_regs}
use Rattle.joined_module.specs.Unit.{operand_wires_of, unit_wires}
use Rattle.joined_module.specs.Module.{Widths, widths, joined_ports, field_registers, lists_said, pointer_registers, pointer_parts}
use Rattle.joined_module.specs.Module.{place_wires, slot_wires, find_said, found_registers, find_stmt, numbers_said, rest_wires}
use Rattle.joined_module.specs.Module.{clock_items, idle_sets, key_arms}
use Rattle.joined_module_fits.proofs.Groups.{AllNames, not_own}
use Rattle.joined_module_fits.proofs.Counted.{found_names, not_among, choice_fields, field_titles, founds_names}
use Rattle.joined_module_fits.proofs.Clock.{member_left, member_right, clock_ok, layers_right}
use Rattle.joined_module_fits.proofs.Found.{RowSets, TagFits, RowsFit, key_arms_are, sets_first_is}

-- ---- what is declared further on isn't declared yet

abbrev pub declares : List Item → List String
declares [] = []
declares (size x n ∷ is) = x ∷ declares is
declares (constant w x n ∷ is) = x ∷ declares is
declares (input w x ∷ is) = x ∷ declares is
declares (output w x ∷ is) = x ∷ declares is
declares (reg w x ∷ is) = x ∷ declares is
declares (memory w x k ∷ is) = x ∷ declares is
declares (wire w x e ∷ is) = x ∷ declares is
declares (i ∷ is) = declares is

declares_step : (i : Item) (is : List Item) (x : String) →
    member x (declares (i ∷ is)) ≡ (is_name (item_name i) x || member x (declares is))
declares_step (note s) is x = refl
declares_step i is x = refl

-- a name that right items declare isn't taken above them
pub later_untaken : (x : String) (is : List Item) (E : List Entry) (ds : List String) → items_ok E ds is ≡ true →
    member x (declares is) ≡ true → taken E x ≡ false
later_untaken x [] E ds h m = absurd cc
later_untaken x (i ∷ is) E ds h m =
    either (taken E x ≡ false) (is_name (item_name i) x) (member x (declares is)) (sym (declares_step i is x) ∙ m)
    (λ k. new_here E ds i (head_ok E ds i is h) x (named (item_name i) k)) (λ k. (or_parts (is_name (item_name i) x) (taken E x)
    (sym (taken_step E i x) ∙ later_untaken x is (declared E i) (driven ds i) (tail_ok E ds i is h) k)).1)
  where
    named : (o : Option String) → is_name o x ≡ true → o ≡ Some x
    named None k = absurd cc
    named (Some y) k = ap Some (one_name y x k)

-- ---- an expression reads what is declared
module _ (E : List Entry) (p : String → Bool) (f : (x : String) → taken E x ≡ true → p x ≡ true) where
  pub expr_reads : (e : Expr) → expr_ok E e ≡ true → reads p e ≡ true
  expr_reads (num n) h = refl
  expr_reads (sized w n) h = refl
  expr_reads (const x) h = refl
  expr_reads (name x) h = f x (kind_taken vector E x h)
  expr_reads (bit x e) h = and_on h (λ a. f x (kind_taken selects E x a)) (expr_reads e)
  expr_reads (part x u l) h = f x (kind_taken selects E x (and_parts (of_kind selects E x) _ h).0)
  expr_reads (word m e) h = and_on h (λ a. f m (kind_taken is_memory E m a)) (expr_reads e)
  expr_reads (cat a b) h = and_on (and_parts (has_width a && has_width b) _ h).1 (expr_reads a) (expr_reads b)
  expr_reads (inverse a) h = expr_reads a h
  expr_reads (two o a b) h = and_on h (expr_reads a) (expr_reads b)
  expr_reads (shift o a b) h = and_on h (expr_reads a) (expr_reads b)
  expr_reads (test o a b) h = and_on h (expr_reads a) (expr_reads b)
  expr_reads (logic o a b) h = and_on h (expr_reads a) (expr_reads b)
  expr_reads (none a) h = expr_reads a h
  expr_reads (any a) h = expr_reads a h
  expr_reads (every a) h = expr_reads a h
  expr_reads (pick c a b) h = and_on h (expr_reads c) (λ d. and_on d (expr_reads a) (expr_reads b))

-- ---- wires in front are in order, where all that settles further on is declared further on

abbrev pub Inside : List Item → Type 0
Inside is = (x : String) → member x (settling is) ≡ true → member x (declares is) ≡ true

-- the first, or what follows from the second
or_on : (b c d : Bool) → (b || c) ≡ true → (c ≡ true → d ≡ true) → (b || d) ≡ true
or_on true c d m f = refl
or_on false c d m f = f m

-- what settles is declared, in front too
pub inside_front : (is js : List Item) → blockless is ≡ true → Inside js → Inside (is ++ js)
inside_front [] js o h = h
inside_front (wire w y e ∷ is) js o h =
    λ x m. or_on (eqt y x) (member x (settling (is ++ js))) (member x (declares (is ++ js))) m (inside_front is js o h x)
inside_front (settles s ∷ is) js o h = absurd cc
inside_front (clocked s ∷ is) js o h = absurd cc
inside_front (i ∷ is) js o h =
    λ x m. declares_step i (is ++ js) x ∙ or_right (is_name (item_name i) x) (member x (declares (is ++ js))) (inside_front is js o h x m)

outside_of : (ys : List String) (x : String) → (member x ys ≡ true → ⊥) → outside ys x ≡ true
outside_of ys x f = go (member x ys) f
  where
    go : (b : Bool) → (b ≡ true → ⊥) → not b ≡ true
    go true f = absurd (f refl)
    go false f = refl

-- a right wire reads neither itself nor what settles behind it, and isn't driven there
wire_order : (w : Width) (x : String) (e : Expr) (is : List Item) (E : List Entry) (ds : List String) →
    items_ok E ds (wire w x e ∷ is) ≡ true → Inside is → (reads (outside (x ∷ settling is)) e && outside (settling is) x) ≡ true
wire_order w x e is E ds h f =
    let (a, b) = and_parts _ _ h in
    let (c, d) = and_parts _ _ a in
    let (u, v) = and_parts _ _ d in
    and_from _ _ (expr_reads E (outside (x ∷ settling is)) (λ y t. outside_of (x ∷ settling is) y (λ m.
    let z : true ≡ false = sym t ∙ later_untaken y (wire w x e ∷ is) E ds h (within y m) in absurd cc)) e v)
    (outside_of (settling is) x (λ m.
    let z : true ≡ false = sym (ap (λ t. t || taken E x) (same_name x)) ∙ later_untaken x is (declare (wire_kind w) x E) ds b (f x m) in
    absurd cc))
  where
    within : (y : String) → member y (x ∷ settling is) ≡ true → member y (x ∷ declares is) ≡ true
    within y m = or_on (eqt x y) (member y (settling is)) (member y (declares is)) m (f y)

-- right items without blocks are in order in front of those that are
pub front_order : (is js : List Item) (E : List Entry) (ds : List String) → blockless is ≡ true → items_ok E ds (is ++ js) ≡ true →
    Inside js → in_order js ≡ true → in_order (is ++ js) ≡ true
front_order [] js E ds o h f k = k
front_order (settles s ∷ is) js E ds o h f k = absurd cc
front_order (clocked s ∷ is) js E ds o h f k = absurd cc
front_order (wire w y e ∷ is) js E ds o h f k = and_from _ _ (wire_order w y e (is ++ js) E ds h (inside_front is js o f))
    (front_order is js (declared E (wire w y e)) ds o (tail_ok E ds (wire w y e) (is ++ js) h) f k)
front_order (i ∷ is) js E ds o h f k = front_order is js (declared E i) (driven ds i) o (tail_ok E ds i (is ++ js) h) f k

-- ---- what stands behind the block that finds

abbrev pub behind : Bool → (x y : Expr) → Widths → List Field → ℕ → List Item
behind b x y W fs n = numbers_said ++ (operand_wires_of b x y ++ ((unit_wires b ++ rest_wires W) ++ clock_items W fs n b))

behind_own : (b : Bool) (x y : Expr) (W : Widths) (fs : List Field) (n : ℕ) → all_own (settling (behind b x y W fs n)) ≡ true
behind_own true x y W fs n = refl
behind_own false x y W fs n = refl

behind_spares : (b : Bool) (x y : Expr) (W : Widths) (fs : List Field) (n : ℕ) → let p = outside (settling (behind b x y W fs n)) in
    (p "goes" ≡ true) × ((p "rst" ≡ true) × ((p "to" ≡ true) × ((p "nonzero" ≡ true) × (p "later" ≡ true))))
behind_spares true x y W fs n = (refl, (refl, (refl, (refl, refl))))
behind_spares false x y W fs n = (refl, (refl, (refl, (refl, refl))))

no_more : (W : Widths) (fs : List Field) (n : ℕ) (b : Bool) → Inside (clock_items W fs n b)
no_more W fs n b x m = absurd cc

behind_inside : (b : Bool) (x y : Expr) (W : Widths) (fs : List Field) (n : ℕ) → Inside (behind b x y W fs n)
behind_inside true x y W fs n =
    inside_front (numbers_said ++ (operand_wires_of true x y ++ (unit_wires true ++ rest_wires W))) (clock_items W fs n true) refl
    (no_more W fs n true)
behind_inside false x y W fs n =
    inside_front (numbers_said ++ (operand_wires_of false x y ++ (unit_wires false ++ rest_wires W))) (clock_items W fs n false) refl
    (no_more W fs n false)

behind_order : (b : Bool) (x y : Expr) (W : Widths) (fs : List Field) (n : ℕ) (E : List Entry) (ds : List String) →
    items_ok E ds (behind b x y W fs n) ≡ true → in_order (behind b x y W fs n) ≡ true
behind_order true x y W fs n E ds h =
    front_order (numbers_said ++ (operand_wires_of true x y ++ (unit_wires true ++ rest_wires W))) (clock_items W fs n true) E ds refl h
    (no_more W fs n true) refl
behind_order false x y W fs n E ds h =
    front_order (numbers_said ++ (operand_wires_of false x y ++ (unit_wires false ++ rest_wires W))) (clock_items W fs n false) E ds refl h
    (no_more W fs n false) refl

-- ---- the block that finds

module _ (p : String → Bool) (nonzero : p "nonzero" ≡ true) (later : p "later" ≡ true) (looked : p "looked" ≡ true)
    (goes : p "goes" ≡ true) where
  abbrev S : Stmt → Type 0
  S s = block_reads p s ≡ true

  abbrev A : Arms → Type 0
  A a = arms_read p a ≡ true

  abbrev L : ℕ → ℕ → Type 0
  L w n = Unit {0}

  after : (s t : Stmt) → S s → S t → S (seq s t)
  after s t h k = and_from _ _ h k

  by_nonzero : (s t : Stmt) → S s → S t → S (branch (name "nonzero") s t)
  by_nonzero s t h k = and_from _ _ nonzero (after s t h k)

  by_later : (s t : Stmt) → S s → S t → S (branch (name "later") s t)
  by_later s t h k = and_from _ _ later (after s t h k)

  one_arm : (w n : ℕ) → L w n → (s : Stmt) → S s → (arms : Arms) → A arms → A (arm (sized w n ∷ []) s [] arms)
  one_arm w n l s h arms k = and_from _ _ h k

  by_tag : (t : ℕ) (arms : Arms) → A arms → S (cases (part "looked" (count (t - 1)) (count 0)) arms)
  by_tag t arms h = and_from _ _ looked h

  row_sets : (fs : List Field) (r : ModuleRow) → RowSets S A L refl after by_nonzero by_later refl one_arm fs r
  row_sets [] r = tt
  row_sets (f ∷ fs) r = (refl, row_sets fs r)

  tag_fits : (t : ℕ) (fs : List Field) (e : Sees) → TagFits S A L refl after by_nonzero by_later refl one_arm t fs (by_tag t) e
  tag_fits t fs sees_nothing = tt
  tag_fits t fs (sees_tag n) = tt
  tag_fits t fs (sees_zero b) = tt

  rows_fit : (t : ℕ) (fs : List Field) (rows : List ModuleRow) →
      RowsFit S A L refl after by_nonzero by_later refl one_arm t fs (by_tag t) rows
  rows_fit t fs [] = tt
  rows_fit t fs (r ∷ rs) = ((row_sets fs r, tag_fits t fs r.sees), rows_fit t fs rs)

  idle_reads : (fs : List Field) → block_reads p (block (idle_sets fs)) ≡ true
  idle_reads [] = refl
  idle_reads (f ∷ []) = refl
  idle_reads (f ∷ g ∷ fs) = idle_reads (g ∷ fs)

  find_reads : (W : Widths) (rows : List ModuleRow) (fs : List Field) → block_reads p (find_stmt W rows fs) ≡ true
  find_reads W rows fs = and_from _ _ (idle_reads fs) (and_from _ _ goes
      (key_arms_are S A L refl after by_nonzero by_later refl one_arm W.tag fs (by_tag W.tag) W.key rows (rows_fit W.tag fs rows)
      (length rows) (λ n m. tt) 0 (length rows) (omega arith)))

-- it reads something that it doesn't set
reads_more : (a b c : Bool) → b ≡ false → not (a && (b && c)) ≡ true
reads_more true b c h = ap (λ t. not (t && c)) h
reads_more false b c h = refl

apart_own : (xs ys : List String) → AllNames 15 16 xs → all_own ys ≡ true → apart xs ys ≡ true
apart_own [] ys h o = refl
apart_own (x ∷ xs) ys h o = and_from _ _ (ap not (none_of_own x (not_own 15 16 (omega arith) x h.0) ys o)) (apart_own xs ys h.1 o)

-- a member of either
split : (x : String) (xs ys : List String) → member x (xs ++ ys) ≡ true → (member x xs ≡ true) ⊎ (member x ys ≡ true)
split x [] ys h = inr h
split x (z ∷ xs) ys h = go (eqt z x) h (split x xs ys)
  where
    go : (b : Bool) → (b || member x (xs ++ ys)) ≡ true → (member x (xs ++ ys) ≡ true → (member x xs ≡ true) ⊎ (member x ys ≡ true)) →
        ((b || member x xs) ≡ true) ⊎ (member x ys ≡ true)
    go true h f = inl refl
    go false h f = f h

regs_settle : (fs : List Field) (js : List Item) → settling (found_registers fs ++ js) ≡ settling js
regs_settle [] js = refl
regs_settle (f ∷ fs) js = regs_settle fs js

regs_order : (fs : List Field) (js : List Item) → in_order (found_registers fs ++ js) ≡ in_order js
regs_order [] js = refl
regs_order (f ∷ fs) js = regs_order fs js

regs_declare : (fs : List Field) (js : List Item) → declares (found_registers fs ++ js) ≡ found_names (field_titles fs) ++ declares js
regs_declare [] js = refl
regs_declare (f ∷ fs) js = ap (λ xs. found f.title ∷ xs) (regs_declare fs js)

-- ---- blocks in front

blockless_append : (is js : List Item) → blockless is ≡ true → blockless js ≡ true → blockless (is ++ js) ≡ true
blockless_append [] js h k = k
blockless_append (settles s ∷ is) js h k = absurd cc
blockless_append (clocked s ∷ is) js h k = absurd cc
blockless_append (i ∷ is) js h k = blockless_append is js h k

no_port_append : (is js : List Item) → no_port is ≡ true → no_port js ≡ true → no_port (is ++ js) ≡ true
no_port_append [] js h k = k
no_port_append (input w x ∷ is) js h k = absurd cc
no_port_append (output w x ∷ is) js h k = absurd cc
no_port_append (i ∷ is) js h k = no_port_append is js h k

-- a list that has neither a block nor a port
abbrev pub Plain : List Item → Type 0
Plain is = (blockless is ≡ true) × (no_port is ≡ true)

plain_append : (is js : List Item) → Plain is → Plain js → Plain (is ++ js)
plain_append is js h k = (blockless_append is js h.0 k.0, no_port_append is js h.1 k.1)

abbrev AllPlain : List (List Item) → Type 0
AllPlain [] = Unit {0}
AllPlain (is ∷ iss) = Plain is × AllPlain iss

plain_chain : (iss : List (List Item)) → AllPlain iss → Plain (chain iss [])
plain_chain [] h = (refl, refl)
plain_chain (is ∷ iss) h = plain_append is (chain iss []) h.0 (plain_chain iss h.1)

plain_fields : (fs : List Field) → Plain (field_registers fs)
plain_fields [] = (refl, refl)
plain_fields (f ∷ fs) = plain_fields fs

plain_founds : (fs : List Field) → Plain (found_registers fs)
plain_founds [] = (refl, refl)
plain_founds (f ∷ fs) = plain_founds fs

plain_regs : (w : ℕ) (nm : ℕ → String) (i n : ℕ) → Plain (pointer_registers w nm i n)
plain_regs w nm i zero = (refl, refl)
plain_regs w nm i (suc n) = plain_regs w nm (suc i) n

plain_parts : (w : ℕ) (v : String) (nm : ℕ → String) (l i n : ℕ) → Plain (pointer_parts w v nm l i n)
plain_parts w v nm l i zero = (refl, refl)
plain_parts w v nm l i (suc n) = plain_parts w v nm (l + w) (suc i) n

plain_held : (i n : ℕ) → Plain (held_regs i n)
plain_held i zero = (refl, refl)
plain_held i (suc n) = plain_held (suc i) n

plain_slots : (p t : ℕ) (rows : List ModuleRow) (ss : List Slot) → Plain (slot_wires p t rows ss)
plain_slots p t rows [] = (refl, refl)
plain_slots p t rows (s ∷ ss) = plain_slots p t rows ss

args_blockless : (i n : ℕ) → blockless (arg_inputs i n) ≡ true
args_blockless i zero = refl
args_blockless i (suc n) = args_blockless (suc i) n

args_first : (i n : ℕ) (js : List Item) → ports_first (arg_inputs i n ++ js) ≡ ports_first js
args_first i zero js = refl
args_first i (suc n) js = args_first (suc i) n js

plain_unit : (W : Widths) (start : ℕ) (rows : List ModuleRow) (n : ℕ) (b : Bool) → Plain (P9 W start rows n b)
plain_unit W start rows n true = (refl, refl)
plain_unit W start rows n false = (refl, refl)

behind_ports : (b : Bool) (x y : Expr) (W : Widths) (fs : List Field) (n : ℕ) → no_port (behind b x y W fs n) ≡ true
behind_ports true x y W fs n = refl
behind_ports false x y W fs n = refl

module _ (rows : List ModuleRow) (z : Room) (start n : ℕ) (b : Bool) (A : Asked rows z start n) where
  abbrev V : Widths
  V = widths rows z

  abbrev fs : List Field
  fs = row_fields rows

  abbrev x : Expr
  x = input_expr rows first_input

  abbrev y : Expr
  y = input_expr rows second_input

  abbrev Z : List Item
  Z = behind b x y V fs n

  abbrev s : Stmt
  s = find_stmt V rows fs

  -- from what is found on
  abbrev R : List Item
  R = P16 V start rows n b ++ (settles s ∷ Z)

  abbrev middle : List (List Item)
  middle = P3 V start rows n b ∷ P4 V start rows n b ∷ lists_said ∷ P6 V start rows n b ∷ P7 V start rows n b ∷ held_regs 0 n ∷
      P9 V start rows n b ∷ P10 V start rows n b ∷ P11 V start rows n b ∷ place_wires V ∷ P13 V start rows n b ∷ find_said ∷ []

  abbrev front : List (List Item)
  front = joined_ports ∷ arg_inputs 0 n ∷ middle

  abbrev founds : List String
  founds = found_names (field_titles fs)

  first_is : sets_first s ≡ founds
  first_is = sets_first_is V rows fs

  named : AllNames 15 16 founds
  named = subst (λ xs. AllNames 15 16 xs) (founds_names fs) (founds_named_is rows z start n b A)

  z_right : items_ok (e rows z start n b A 16) (ds20 rows z start n b A) Z ≡ true
  z_right = right18 rows z start n b A (clock_items V fs n b) (clock_ok rows z start n b A)

  -- a name that stands once isn't found
  not_found : (v : String) → class v < 15 → member v (sets_first s) ≡ false
  not_found v l = ap (λ xs. member v xs) first_is ∙ not_among 15 16 v l founds named

  -- what settles behind "goes"
  spared : (v : String) → class v < 15 → outside (settling Z) v ≡ true → outside (sets_first s ++ settling Z) v ≡ true
  spared v l h = ap not (neither (sets_first s) (not_found v l))
    where
      neither : (xs : List String) → member v xs ≡ false → member v (xs ++ settling Z) ≡ false
      neither [] k = not-true (member v (settling Z)) h
      neither (u ∷ xs) k = go (eqt u v) k (neither xs)
        where
          go : (b : Bool) → (b || member v xs) ≡ false → (member v xs ≡ false → member v (xs ++ settling Z) ≡ false) →
              (b || member v (xs ++ settling Z)) ≡ false
          go true k f = absurd cc
          go false k f = f k

  settles_order : in_order (settles s ∷ Z) ≡ true
  settles_order =
      let (g, (r, (t, (o, l)))) = behind_spares b x y V fs n in
      let p = outside (settling Z) in
      let q : String → Bool = λ v. member v (sets_first s) in
      and_from _ _ (and_from _ _ (find_reads p o l (ap not (none_of_own "looked" refl (settling Z) (behind_own b x y V fs n))) g V rows fs)
      (reads_more (block_reads q (block (idle_sets fs))) (q "goes") (arms_read q (key_arms V.key V.tag fs rows 0 (length rows)))
      (not_found "goes" (omega arith)))) (and_from _ _
      (subst (λ xs. apart xs (settling Z) ≡ true) (sym first_is) (apart_own founds (settling Z) named (behind_own b x y V fs n)))
      (behind_order b x y V fs n (e rows z start n b A 16) (ds20 rows z start n b A) z_right))

  goes_order : in_order R ≡ true
  goes_order =
      let (g, (r, (t, (o, l)))) = behind_spares b x y V fs n in
      let p = outside (sets_first s ++ settling Z) in
      and_from _ _ (and_from _ _
      (and_from _ _ (spared "rst" (omega arith) r) (spared "to" (omega arith) t)) (spared "goes" (omega arith) g))
      settles_order

  found_inside : Inside (found_registers fs ++ R)
  found_inside v m = ap (λ xs. member v xs) (regs_declare fs R)
      ∙ go (eqt "goes" v) refl (sym (ap (λ xs. member v xs) (regs_settle fs R)) ∙ m)
    where
      go : (c : Bool) → eqt "goes" v ≡ c → (c || member v (sets_first s ++ settling Z)) ≡ true → member v (founds ++ declares R) ≡ true
      go true e h = member_right v founds (declares R) (or_left (eqt "goes" v) (member v (declares Z)) e)
      go false e h = ⊎_elim (λ k. member_left v founds (declares R) (sym (ap (λ xs. member v xs) first_is) ∙ k))
          (λ k. member_right v founds (declares R) (or_right (eqt "goes" v) (member v (declares Z)) (behind_inside b x y V fs n v k)))
          (split v (sets_first s) (settling Z) h)

  plain_front : Plain (chain middle [])
  plain_front = plain_chain middle (
    (refl, refl),
    (
      plain_fields (choice_fields rows),
      (
        (refl, refl),
        (
          plain_regs (V.place + V.tag) sig_name 0 V.sigs,
          (
            plain_regs (V.place + V.tag) box_name 0 V.boxes,
            (
              plain_held 0 n,
              (
                plain_unit V start rows n b,
                (
                  plain_parts (V.place + V.tag) "cell_has" word_name 0 0 V.words,
                  (
                    plain_parts (V.place + V.tag) "fork_has" fork_box_name V.place 0 V.saved,
                    (
                      (refl, refl),
                      (plain_slots V.place V.tag rows (all_slots rows), ((refl, refl), tt)),
                    ),
                  ),
                ),
              ),
            ),
          ),
        ),
      ),
    ),
  )

  front_blockless : blockless (chain front []) ≡ true
  front_blockless = blockless_append (arg_inputs 0 n) (chain middle []) (args_blockless 0 n) plain_front.0

  abbrev pub whole : List Item
  whole = layers V start rows n b

  front_is : chain front [] ++ (found_registers fs ++ R) ≡ whole
  front_is = chain_append front [] (found_registers fs ++ R)

  pub layers_order : in_order whole ≡ true
  layers_order = subst (λ is. in_order is ≡ true) front_is (front_order (chain front []) (found_registers fs ++ R) [] [] front_blockless
      (subst (λ is. items_ok [] [] is ≡ true) (sym front_is) (layers_right rows z start n b A)) found_inside (regs_order fs R ∙ goes_order))

  pub layers_ports : ports_first whole ≡ true
  layers_ports = sym (ap (λ is. ports_first is) front_is)
      ∙ (ap (λ is. ports_first (joined_ports ++ is)) (append_assoc (arg_inputs 0 n) (chain middle []) (found_registers fs ++ R))
      ∙ (args_first 0 n (chain middle [] ++ (found_registers fs ++ R))
      ∙ no_port_append (chain middle []) (found_registers fs ++ R) plain_front.1
      (no_port_append (found_registers fs) R (plain_founds fs).1 (behind_ports b x y V fs n))))
