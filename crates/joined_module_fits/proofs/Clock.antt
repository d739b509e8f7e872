-- The block of the clock is right: each register and each memory that it assigns to is one, it names what is declared, and it shares
-- nothing with the block that finds a row.
use Rattle.std.proofs.Common.{◌≡◌, ◌++◌, Bool, true, false, not, ◌&&◌, ◌||◌, List, [], ◌∷◌, refl, ap, ◌∙◌, ◌<◌, ◌≤◌, ◌+◌, ◌-◌, ℕ, zero, suc}
use Rattle.std.proofs.Common.{subst, sym, arith}
use Rattle.std.specs.Prelude.{nat_lt}
use Rattle.std.proofs.lemmas.Bool.{and_parts, and_from, ltb-true, lt-ltb}
use Prim.Native.String.{String}
use Rattle.verilog_tree.specs.WellFormed.{is_memory, expr_ok, exprs_ok, said_ok, arms_ok, member, Entry, of_kind, register, apart}
use Rattle.verilog_tree.specs.WellFormed.{target_ok, stmt_ok, targets, Kind, vector, selects, is_clock, kind_of, has_width, items_ok}
use Rattle.verilog_tree.specs.WellFormed.{sets_first}
use lib.Text.{eqt}
use Rattle.verilog_tree.specs.Tree.{Expr, Target, whole, word_at, Stmt, skip, put, seq, branch, cases, Arms, otherwise, arm, count, plus}
use Rattle.verilog_tree.specs.Tree.{both, one_of, num, sized, name, part, word, cat, two, logic, none, Width, one, upto, wide}
use Rattle.circuit_module.specs.Fixed.{set, block}
use Rattle.verilog_tree.proofs.Own.{same_name}
use Rattle.joined_module_fits.proofs.Names.{class, and_on, own}
use Rattle.joined_module_fits.proofs.Own.{SameEnv, own_stmt, stmt_same, own_expr, expr_same}
use Rattle.joined_module_fits.proofs.Groups.{AllNames, AllKnown, names_of, knows, group_at}
use Rattle.joined_module_fits.proofs.Counted.{not_among, choice_fields, choices_group, founds_names}
use Rattle.std.proofs.lemmas.List.{append-nil}
use Rattle.joined_core.specs.Circuit.{Room}
use Rattle.joined_module.specs.Names.{arg_name, held_name, sig_name, box_name, next_sig_name, next_box_name, open_box_name, new_word_name}
use Rattle.joined_module.specs.Names.{found}
use Rattle.joined_module.specs.Rows.{ModuleRow}
use Rattle.joined_module.specs.Fields.{Field, sig_slot, box_slot, open_slot, word_slot, row_fields, sig_count, box_count, fork_count}
use Rattle.joined_module.specs.Fields.{word_count}
use Rattle.joined_module.specs.Ports.{held_sets}
use Rattle.joined_module.specs.Unit.{unit_stmt}
use Rattle.joined_module.specs.Module.{Widths, widths, pointers_above, pointers_vector, field_registers, found_registers, find_stmt}
use Rattle.joined_module.specs.Module.{zero_stmt_of, fetch_sets, fetch_stmt, list_sets, open_stmt, read_fork, read_answer, now, fork_stmt}
use Rattle.joined_module.specs.Module.{no_room_expr, value_stmt, count_stmt, act_stmt, go_stmt, reset_stmt, joined_clock_stmt, clock_items}
use Rattle.joined_module_fits.proofs.Exprs.{positive}
use Rattle.joined_module_fits.proofs.Found.{register_kind, sets_first_is}
use Rattle.joined_module_fits.proofs.States.{layers, firsts, Asked, at_both, F, e, g, s18, reg_known, held_known, arg_known, slot_known}
use Rattle.joined_module_fits.proofs.States.{founds_named_is, slots_are, front_right, ds20}

-- ---- more may be assigned to

pub member_right : (x : String) (xs ys : List String) → member x ys ≡ true → member x (xs ++ ys) ≡ true
member_right x [] ys h = h
member_right x (z ∷ xs) ys h = go (eqt z x) (member_right x xs ys h)
  where
    go : (b : Bool) → member x (xs ++ ys) ≡ true → (b || member x (xs ++ ys)) ≡ true
    go true g = refl
    go false g = g

pub member_left : (x : String) (xs ys : List String) → member x xs ≡ true → member x (xs ++ ys) ≡ true
member_left x [] ys h = absurd cc
member_left x (z ∷ xs) ys h = go (eqt z x) (member_left x xs ys) h
  where
    go : (b : Bool) → (member x xs ≡ true → member x (xs ++ ys) ≡ true) → (b || member x xs) ≡ true → (b || member x (xs ++ ys)) ≡ true
    go true ih g = refl
    go false ih g = ih g

module _ (E : List Entry) (xs ys : List String) (w : (x : String) → member x xs ≡ true → member x ys ≡ true) where
  target_more : (t : Target) → target_ok E xs t ≡ true → target_ok E ys t ≡ true
  target_more (whole x) h = and_on h (λ a. a) (w x)
  target_more (word_at m e) h =
      let (a, b) = and_parts (of_kind is_memory E m) (member m xs && expr_ok E e) h in
      let (c, d) = and_parts (member m xs) (expr_ok E e) b in
      and_from _ _ a (and_from _ _ (w m c) d)

  mutual
    pub stmt_more : (s : Stmt) → stmt_ok E xs s ≡ true → stmt_ok E ys s ≡ true
    stmt_more skip h = refl
    stmt_more (put t e) h = and_on h (target_more t) (λ b. b)
    stmt_more (seq s t) h = and_on h (stmt_more s) (stmt_more t)
    stmt_more (branch e s t) h = and_on h (λ a. a) (λ b. and_on b (stmt_more s) (stmt_more t))
    stmt_more (cases e arms) h = and_on h (λ a. a) (arms_more arms)

    arms_more : (arms : Arms) → arms_ok E xs arms ≡ true → arms_ok E ys arms ≡ true
    arms_more (otherwise s) h = stmt_more s h
    arms_more (arm es s c arms) h =
        let (a, b) = and_parts (exprs_ok E es && (stmt_ok E xs s && said_ok c)) (arms_ok E xs arms) h in
        let (d, e) = and_parts (exprs_ok E es) (stmt_ok E xs s && said_ok c) a in
        let (f, g) = and_parts (stmt_ok E xs s) (said_ok c) e in
        and_from _ _ (and_from _ _ d (and_from _ _ (stmt_more s f) g)) (arms_more arms b)

-- ---- a statement that is right by itself, and assigns to nothing that is found

abbrev pub low : List String → Bool
low [] = true
low (x ∷ xs) = nat_lt (class x) 15 && low xs

low_append : (xs ys : List String) → low xs ≡ true → low ys ≡ true → low (xs ++ ys) ≡ true
low_append [] ys h k = k
low_append (x ∷ xs) ys h k =
    let (a, b) = and_parts _ _ h in and_from _ _ a (low_append xs ys b k)

pub low_apart : (xs ds : List String) → low xs ≡ true → AllNames 15 16 ds → apart xs ds ≡ true
low_apart [] ds h a = refl
low_apart (x ∷ xs) ds h a =
    let (b, c) = and_parts _ _ h in
    and_from _ _ (ap not (not_among 15 16 x (ltb-true (class x) 15 b) ds a)) (low_apart xs ds c a)

pub record Good (E : List Entry) (s : Stmt) : Type 0 where
  pub right : stmt_ok E (targets s) s ≡ true
  pub clear : low (targets s) ≡ true

pub good_skip : (E : List Entry) → Good E skip
good_skip E = record { right = refl; clear = refl }

pub good_seq : (E : List Entry) (s t : Stmt) → Good E s → Good E t → Good E (seq s t)
good_seq E s t f g = record {
  right = and_from _ _ (stmt_more E (targets s) (targets s ++ targets t) (λ x h. member_left x (targets s) (targets t) h) s f.right)
      (stmt_more E (targets t) (targets s ++ targets t) (λ x h. member_right x (targets s) (targets t) h) t g.right);
  clear = low_append (targets s) (targets t) f.clear g.clear;
}

pub good_branch : (E : List Entry) (e : Expr) (s t : Stmt) → expr_ok E e ≡ true → Good E s → Good E t → Good E (branch e s t)
good_branch E e s t h f g = record {
  right = and_from _ _ h (good_seq E s t f g).right;
  clear = low_append (targets s) (targets t) f.clear g.clear;
}

abbrev pub AllGood : List Entry → List Stmt → Type 0
AllGood E [] = Unit {0}
AllGood E (s ∷ ss) = Good E s × AllGood E ss

pub good_block : (E : List Entry) (ss : List Stmt) → AllGood E ss → Good E (block ss)
good_block E [] h = good_skip E
good_block E (s ∷ []) h = h.0
good_block E (s ∷ t ∷ ss) h = good_seq E s (block (t ∷ ss)) h.0 (good_block E (t ∷ ss) h.1)

-- own statements are as in another list
pub good_own : (E F : List Entry) → SameEnv E F → (s : Stmt) → own_stmt s ≡ true → stmt_ok F (targets s) s ≡ true →
    low (targets s) ≡ true → Good E s
good_own E F h s o k l = record { right = stmt_same E F h (targets s) s o ∙ k; clear = l }

-- a register is assigned to
pub good_set : (E : List Entry) (x : String) (e : Expr) → of_kind register E x ≡ true → expr_ok E e ≡ true →
    nat_lt (class x) 15 ≡ true → Good E (set x e)
good_set E x e h k l = record {
  right = and_from _ _ (and_from _ _ h (ap (λ b. b || false) (same_name x))) k;
  clear = and_from _ _ l refl;
}

-- or a word
pub good_put : (E : List Entry) (m : String) (i e : Expr) → of_kind is_memory E m ≡ true → expr_ok E i ≡ true → expr_ok E e ≡ true →
    nat_lt (class m) 15 ≡ true → Good E (put (word_at m i) e)
good_put E m i e h j k l = record {
  right = and_from _ _ (and_from _ _ h (and_from _ _ (ap (λ b. b || false) (same_name m)) j)) k;
  clear = and_from _ _ l refl;
}

vector_kind : (w : Width) → vector (kind_of w) ≡ true
vector_kind one = refl
vector_kind (upto h) = refl
vector_kind (wide k) = refl

-- ---- lists that take what comes

module _ (E : List Entry) where
  lists_good : (x y : ℕ → String) → (n : ℕ) → ((i : ℕ) → i < n → of_kind register E (x i) ≡ true) →
      ((i : ℕ) → i < n → of_kind vector E (y i) ≡ true) → ((i : ℕ) → nat_lt (class (x i)) 15 ≡ true) → (i k : ℕ) → i + k ≤ n →
      AllGood E (list_sets x y i k)
  lists_good x y n h g c i zero l = tt
  lists_good x y n h g c i (suc k) l = (
    good_set E (x i) (name (y i)) (h i (omega (arith, l))) (g i (omega (arith, l))) (c i),
    lists_good x y n h g c (suc i) k (omega (arith, l)),
  )

  helds_good : (n : ℕ) → ((i : ℕ) → i < n → of_kind register E (held_name i) ≡ true) →
      ((i : ℕ) → i < n → of_kind vector E (arg_name i) ≡ true) → (i k : ℕ) → i + k ≤ n → AllGood E (held_sets i k)
  helds_good n h g i zero l = tt
  helds_good n h g i (suc k) l = (
    good_set E (held_name i) (name (arg_name i)) (h i (omega (arith, l))) (g i (omega (arith, l))) refl,
    helds_good n h g (suc i) k (omega (arith, l)),
  )

  -- vectors of pointers
  above_width : (x : ℕ → String) (i n : ℕ) (e : Expr) → has_width e ≡ true → has_width (pointers_above x i n e) ≡ true
  above_width x i zero e h = h
  above_width x i (suc n) e h = above_width x (suc i) n (cat (name (x i)) e) refl

  above_ok : (x : ℕ → String) (m : ℕ) → ((i : ℕ) → i < m → of_kind vector E (x i) ≡ true) → (i n : ℕ) → i + n ≤ m → (e : Expr) →
      has_width e ≡ true → expr_ok E e ≡ true → expr_ok E (pointers_above x i n e) ≡ true
  above_ok x m h i zero l e u v = v
  above_ok x m h i (suc n) l e u v = above_ok x m h (suc i) n (omega (arith, l)) (cat (name (x i)) e) refl (and_from _ _ u
      (and_from _ _ (h i (omega (arith, l))) v))

  vector_ok : (x : ℕ → String) (m : ℕ) → ((i : ℕ) → i < m → of_kind vector E (x i) ≡ true) → expr_ok E (pointers_vector x m) ≡ true
  vector_ok x zero h = refl
  vector_ok x (suc n) h = above_ok x (suc n) h 1 n (omega arith) (name (x 0)) refl (h 0 (omega arith))

  -- fields take what is found
  abbrev Registers : List Field → Type 0
  Registers [] = Unit {0}
  Registers (f ∷ fs) = ((of_kind register E f.title ≡ true) × (nat_lt (class f.title) 15 ≡ true)) × Registers fs

  registers_append : (fs gs : List Field) → Registers fs → Registers gs → Registers (fs ++ gs)
  registers_append [] gs h k = k
  registers_append (f ∷ fs) gs h k = (h.0, registers_append fs gs h.1 k)

  wire_of : (fs : List Field) → AllKnown E (found_registers fs) → Registers fs → AllGood E (fetch_sets fs)
  wire_of [] h r = tt
  wire_of (f ∷ fs) h r = (good_set E f.title (name (found f.title)) r.0.0 (h.0 vector ∙ vector_kind f.wide) r.0.1, wire_of fs h.1 r.1)

-- ---- statements that name what stands once alone, with a product and without

abbrev Sure : List Entry → Stmt → Type 0
Sure F s = (stmt_ok F (targets s) s ≡ true) × ((own_stmt s ≡ true) × (low (targets s) ≡ true))

unit_right : (W : Widths) (start : ℕ) (rows : List ModuleRow) (n : ℕ) (b : Bool) → Sure (F W start rows n b 18) (unit_stmt b)
unit_right W start rows n = at_both (λ b. Sure (F W start rows n b 18) (unit_stmt b)) (refl, (refl, refl)) (refl, (refl, refl))

zero_right : (W : Widths) (start : ℕ) (rows : List ModuleRow) (n : ℕ) (b : Bool) → Sure (F W start rows n b 18) (zero_stmt_of b)
zero_right W start rows n = at_both (λ b. Sure (F W start rows n b 18) (zero_stmt_of b)) (refl, (refl, refl)) (refl, (refl, refl))

value_right : (W : Widths) (start : ℕ) (rows : List ModuleRow) (n : ℕ) (b : Bool) → Sure (F W start rows n b 18) (value_stmt b)
value_right W start rows n = at_both (λ b. Sure (F W start rows n b 18) (value_stmt b)) (refl, (refl, refl)) (refl, (refl, refl))

-- statements of own names alone that are right, with a product and without
abbrev sure : List Entry → List Entry → List Stmt → Bool
sure F H [] = true
sure F H (s ∷ ss) = (stmt_ok F (targets s) s && stmt_ok H (targets s) s) && ((own_stmt s && low (targets s)) && sure F H ss)

-- registers of own names, with a product and without
abbrev flags : List Entry → List Entry → List Field → Bool
flags F H [] = true
flags F H (f ∷ fs) =
    (of_kind register F f.title && of_kind register H f.title) && ((own f.title && nat_lt (class f.title) 15) && flags F H fs)

module _ (rows : List ModuleRow) (z : Room) (start n : ℕ) (b : Bool) (A : Asked rows z start n) where
  abbrev V : Widths
  V = widths rows z

  abbrev E : List Entry
  E = e rows z start n b A 18

  abbrev Fs : Bool → List Entry
  Fs c = F V start rows n c 18

  same20 : SameEnv E (Fs b)
  same20 = (s18 rows z start n b A).same

  -- what stands once
  once : (p : Kind → Bool) (x : String) → own x ≡ true → of_kind p (Fs true) x ≡ true → of_kind p (Fs false) x ≡ true → of_kind p E x ≡ true
  once p x o h k = same20.kind p x o ∙ at_both (λ b. of_kind p (Fs b) x ≡ true) h k b

  by_owns : (ss ts : List Stmt) → sure (Fs true) (Fs false) ss ≡ true → AllGood E ts → AllGood E (ss ++ ts)
  by_owns [] ts h k = k
  by_owns (s ∷ ss) ts h k =
      let (a, r) = and_parts (stmt_ok (Fs true) (targets s) s && stmt_ok (Fs false) (targets s) s) _ h in
      let (c, d) = and_parts (stmt_ok (Fs true) (targets s) s) _ a in
      let (f, g) = and_parts (own_stmt s && low (targets s)) _ r in
      let (o, l) = and_parts (own_stmt s) (low (targets s)) f in
      (good_own E (Fs b) same20 s o (at_both (λ b. stmt_ok (Fs b) (targets s) s ≡ true) c d b) l, by_owns ss ts g k)

  by_own : (s : Stmt) → sure (Fs true) (Fs false) (s ∷ []) ≡ true → Good E s
  by_own s h = (by_owns (s ∷ []) [] h tt).0

  named : (e : Expr) → own_expr e ≡ true → expr_ok (Fs true) e ≡ true → expr_ok (Fs false) e ≡ true → expr_ok E e ≡ true
  named e o h k = expr_same E (Fs b) same20 e o ∙ at_both (λ b. expr_ok (Fs b) e ≡ true) h k b

  layer : (k : ℕ) → AllKnown E (group_at (g rows z start n b A 18) k)
  layer k = knows E (g rows z start n b A 18) k (s18 rows z start n b A).known

  -- numbers that have a bit at least
  place_some : nat_lt 0 V.place ≡ true
  place_some = positive z.cells

  depth_some : nat_lt 0 V.depth ≡ true
  depth_some = positive z.forks

  -- the forks
  open_good : Good E (open_stmt V)
  open_good = good_seq E (put (word_at "forks" (name "depth")) (pointers_above open_box_name 0 V.saved (name "saved_top")))
      (set "depth" (two plus (name "depth") (sized V.depth 1)))
      (good_put E "forks" (name "depth") (pointers_above open_box_name 0 V.saved (name "saved_top")) (once is_memory "forks" refl refl refl)
      (once vector "depth" refl refl refl)
      (above_ok E open_box_name V.saved (λ i l. slot_known E V.place V.tag rows open_slot (fork_count rows)
      (slots_are rows z start n b A E (layer 5)).1.1.0 i l vector) 0 V.saved (omega arith) (name "saved_top") refl
      (once vector "saved_top" refl refl refl))
      refl) (good_set E "depth" (two plus (name "depth") (sized V.depth 1)) (once register "depth" refl refl refl)
      (and_from _ _ (once vector "depth" refl refl refl) depth_some) refl)

  fork_good : Good E (fork_stmt V)
  fork_good =
      let rest = branch (now "keeps") (put (word_at "answers" (name "keeps_at")) (name "second")) read_answer ∷
      branch (now "closes") (set "depth" (name "innermost")) skip ∷
      set "fresh" (logic both (name "acts") (logic one_of (name "opens") (name "keeps"))) ∷ [] in
      good_block E (branch (now "opens") (open_stmt V) read_fork ∷ rest) (
        good_branch E (now "opens") (open_stmt V) read_fork (named (now "opens") refl refl refl) open_good (by_own read_fork refl),
        by_owns rest [] refl tt,
      )

  -- what the row makes
  room_ok : expr_ok E (no_room_expr V) ≡ true
  room_ok = and_from _ _ (once vector "none" refl refl refl) (and_from _ _ (and_from _ _ (once vector "makes" refl refl refl)
      (and_from _ _ (once vector "base" refl refl refl) place_some)) (and_from _ _ (once vector "opens" refl refl refl)
      (and_from _ _ (once vector "depth" refl refl refl) depth_some)))

  act_good : Good E (act_stmt V)
  act_good =
      let cell = put (word_at "cells" (name "base")) (pointers_vector new_word_name V.words) in
      let sigs = list_sets sig_name next_sig_name 0 V.sigs in
      let boxes = list_sets box_name next_box_name 0 V.boxes in
      let made = branch (name "makes") cell skip in
      let ends = branch (name "ends") (set "ended" (num 1)) skip in
      let full = branch (no_room_expr V) (set "full" (num 1)) skip in
      good_block E (block sigs ∷ block boxes ∷ set "top" (name "next_top") ∷ made ∷ ends ∷ full ∷ []) (
        good_block E sigs (lists_good E sig_name next_sig_name V.sigs
            (λ i l. reg_known E (V.place + V.tag) sig_name V.sigs (layer 12) i l register)
            (λ i l. slot_known E V.place V.tag rows sig_slot (sig_count rows) (slots_are rows z start n b A E (layer 5)).0 i l vector)
            (λ i. refl) 0 V.sigs (omega arith)),
        (
          good_block E boxes (lists_good E box_name next_box_name V.boxes
              (λ i l. reg_known E (V.place + V.tag) box_name V.boxes (layer 11) i l register)
              (λ i l. slot_known E V.place V.tag rows box_slot (box_count rows) (slots_are rows z start n b A E (layer 5)).1.0 i l vector)
              (λ i. refl) 0 V.boxes (omega arith)),
          by_owns (set "top" (name "next_top") ∷ []) (made ∷ ends ∷ full ∷ []) refl (
            good_branch E (name "makes") cell skip (once vector "makes" refl refl refl)
                (good_put E "cells" (name "base") (pointers_vector new_word_name V.words) (once is_memory "cells" refl refl refl)
                (once vector "base" refl refl refl) (vector_ok E new_word_name V.words
                (λ i l. slot_known E V.place V.tag rows word_slot (word_count rows) (slots_are rows z start n b A E
                (layer 5)).1.1.1.0 i l vector)) refl) (good_skip E),
            by_owns (ends ∷ []) (full ∷ []) refl
                (good_branch E (no_room_expr V) (set "full" (num 1)) skip room_ok (by_own (set "full" (num 1)) refl) (good_skip E), tt),
          ),
        ),
      )

  go_good : Good E (go_stmt V b)
  go_good =
      let (h, (o, l)) = value_right V start rows n b in
      let ended = branch (logic both (name "ended") (none (name "busy"))) (set "done" (num 1)) skip in
      let acts = branch (name "acts") (act_stmt V) skip in
      good_block E (fork_stmt V ∷ value_stmt b ∷ count_stmt ∷ acts ∷ ended ∷ []) (
        fork_good,
        (
          good_own E (Fs b) same20 (value_stmt b) o h l,
          by_owns (count_stmt ∷ []) (acts ∷ ended ∷ []) refl (
            good_branch E (name "acts") (act_stmt V) skip (once vector "acts" refl refl refl) act_good (good_skip E),
            (by_own ended refl, tt),
          ),
        ),
      )

  reset_good : Good E (reset_stmt n)
  reset_good =
      let zeros = set "top" (num 0) ∷ set "depth" (num 0) ∷ set "fresh" (num 0) ∷ set "ended" (num 0) ∷ set "done" (num 0) ∷
      set "full" (num 0) ∷ set "result" (num 0) ∷ set "moves" (num 0) ∷ set "carried" (num 0) ∷ [] in
      good_block E (zeros ++ (block (held_sets 0 n) ∷ [])) (by_owns zeros (block (held_sets 0 n) ∷ []) refl (
        good_block E (held_sets 0 n) (helds_good E n (λ i l. held_known E n (layer 10) i l register)
            (λ i l. arg_known E n (layer 16) i l vector) 0 n (omega arith)),
        tt,
      ))

  -- each field's register takes what was found
  flags_are : (fs : List Field) → flags (Fs true) (Fs false) fs ≡ true → Registers E fs
  flags_are [] h = tt
  flags_are (f ∷ fs) h =
      let (a, r) = and_parts (of_kind register (Fs true) f.title && of_kind register (Fs false) f.title) _ h in
      let (c, d) = and_parts (of_kind register (Fs true) f.title) _ a in
      let (m, k) = and_parts (own f.title && nat_lt (class f.title) 15) _ r in
      let (o, l) = and_parts (own f.title) _ m in
      ((once register f.title o c d, l), flags_are fs k)

  others_are : (gs : List Field) → AllKnown E (field_registers gs) → AllNames 2 5 (names_of (field_registers gs)) → Registers E gs
  others_are [] h a = tt
  others_are (f ∷ gs) h a = (
    (h.0 register ∙ register_kind f.wide, let l = a.0.high in lt-ltb (class f.title) 15 (omega (arith, l))),
    others_are gs h.1 a.1,
  )

  all_registers : Registers E (row_fields rows)
  all_registers = registers_append E (firsts 18 (row_fields rows)) (choice_fields rows) (flags_are (firsts 18 (row_fields rows)) refl)
      (others_are (choice_fields rows) (layer 14) (choices_group rows A.sigs A.boxes A.saved A.words).named)

  fetch_good : Good E (fetch_stmt V (row_fields rows))
  fetch_good =
      let cell = set "cell_has" (word "cells" (part "looked" (count (V.place + V.tag - 1)) (count V.tag))) in
      good_branch E (logic one_of (name "rst") (none (name "rests"))) (seq cell (block (fetch_sets (row_fields rows)))) skip
      (named (logic one_of (name "rst") (none (name "rests"))) refl refl refl) (good_seq E cell (block (fetch_sets (row_fields rows)))
      (good_set E "cell_has" (word "cells" (part "looked" (count (V.place + V.tag - 1)) (count V.tag)))
      (once register "cell_has" refl refl refl) (and_from _ _ (once is_memory "cells" refl refl refl)
      (and_from _ _ ((slots_are rows z start n b A E (layer 5)).1.1.1.1 selects) refl)) refl)
      (good_block E (fetch_sets (row_fields rows)) (wire_of E (row_fields rows) (layer 3) all_registers))) (good_skip E)

  clock_good : Good E (joined_clock_stmt V (row_fields rows) n b)
  clock_good =
      let (h, (o, l)) = unit_right V start rows n b in
      let (h2, (o2, l2)) = zero_right V start rows n b in
      good_block E (unit_stmt b ∷ zero_stmt_of b ∷ fetch_stmt V (row_fields rows) ∷ branch (name "rst") (reset_stmt n) (go_stmt V b) ∷ []) (
        good_own E (Fs b) same20 (unit_stmt b) o h l,
        (
          good_own E (Fs b) same20 (zero_stmt_of b) o2 h2 l2,
          (
            fetch_good,
            (good_branch E (name "rst") (reset_stmt n) (go_stmt V b) (once vector "rst" refl refl refl) reset_good go_good, tt),
          ),
        ),
      )

  founds_apart : AllNames 15 16 (ds20 rows z start n b A)
  founds_apart = subst (λ xs. AllNames 15 16 xs) (sym (append-nil (sets_first (find_stmt V rows (row_fields rows)))
      ∙ sets_first_is V rows (row_fields rows)))
      (subst (λ xs. AllNames 15 16 xs) (founds_names (row_fields rows)) (founds_named_is rows z start n b A))

  pub clock_ok : items_ok E (ds20 rows z start n b A) (clock_items V (row_fields rows) n b) ≡ true
  clock_ok =
      let s = joined_clock_stmt V (row_fields rows) n b in
      let ds = ds20 rows z start n b A in
      and_from _ _ (and_from _ _ (and_from _ _ (once is_clock "clk" refl refl refl)
      (low_apart (targets s) ds clock_good.clear founds_apart)) clock_good.right) refl

  pub layers_right : items_ok [] [] (layers V start rows n b) ≡ true
  layers_right = front_right rows z start n b A (clock_items V (row_fields rows) n b) clock_ok
