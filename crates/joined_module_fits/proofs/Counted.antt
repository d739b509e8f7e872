-- The groups of the module: ports, registers and wires by number, fields of slots and operands, slots, and what is found.
use Rattle.std.proofs.Common.{◌≡◌, ◌<◌, ◌≤◌, ◌+◌, ◌^◌, ◌++◌, ℕ, zero, suc, Bool, true, false, not, ◌&&◌, ◌||◌, List, [], ◌∷◌, codes, refl}
use Rattle.std.proofs.Common.{ap, subst, sym, ◌∙◌, arith}
use Rattle.std.specs.Prelude.{nat_eq}
use Rattle.std.proofs.lemmas.Bool.{and_parts, and_from, or_parts, ne_eqb, eqb-true, not-true}
use Prim.Native.String.{String}
use lib.Text.{eqt}
use Rattle.verilog_tree.specs.WellFormed.{member, apart, letters, Entry, of_kind, selects}
use Rattle.verilog_tree.proofs.Own.{apart_names, same_name}
use Rattle.joined_module.specs.Names.{next_sig_name, next_box_name, open_box_name, new_word_name, by_name, tag_name, number_name, found}
use Rattle.joined_module.specs.Names.{arg_name, held_name}
use Rattle.joined_module_fits.proofs.Names.{class, class_apart, Group, Front, is_identifier, next_sigs, next_boxes, open_boxes, new_words}
use Rattle.joined_module_fits.proofs.Names.{bys, tags, numbers, founds, args, helds}
use Rattle.joined_module_fits.proofs.Groups.{OneName, AllNames, all_more, distinct, numbered_names, numbers_distinct, numbers_named}
use Rattle.joined_module_fits.proofs.Groups.{Counted, names_of, all_counted, all_fine}
use Rattle.verilog_tree.specs.Tree.{Item}
use Rattle.joined_module.specs.Rows.{ModuleRow}
use Rattle.joined_module.specs.Fields.{Field, Slot, slots_from, sig_slot, box_slot, open_slot, word_slot, looked_slot, all_slots}
use Rattle.joined_module.specs.Fields.{slot_fields, input_fields, first_input, second_input, tag_bits, row_fields, sig_count, box_count}
use Rattle.joined_module.specs.Fields.{fork_count, word_count}
use Rattle.joined_module.specs.Ports.{arg_inputs, held_regs}
use Rattle.joined_module.specs.Module.{field_registers, found_registers, pointer_registers, pointer_parts, slot_wires}

-- ---- lists of names

pub all_append : (c d : ℕ) (xs ys : List String) → AllNames c d xs → AllNames c d ys → AllNames c d (xs ++ ys)
all_append c d [] ys h k = k
all_append c d (x ∷ xs) ys h k = (h.0, all_append c d xs ys h.1 k)

-- a name of a lower class is none of these
pub not_among : (c d : ℕ) (x : String) → class x < c → (xs : List String) → AllNames c d xs → member x xs ≡ false
not_among c d x l [] h = refl
not_among c d x l (y ∷ ys) h =
    let m = h.0.low in
    ap (λ t. t || member x ys) (class_apart y x (λ z. omega (arith, l, m, z))) ∙ not_among c d x l ys h.1

-- two lists of different names that share none
pub append_apart : (xs ys : List String) → distinct xs ≡ true → distinct ys ≡ true → apart xs ys ≡ true → distinct (xs ++ ys) ≡ true
append_apart [] ys h k a = k
append_apart (x ∷ xs) ys h k a =
    let (h1, h2) = and_parts _ _ h in
    let (a1, a2) = and_parts _ _ a in
    and_from _ _ (neither xs h1 a1) (append_apart xs ys h2 k a2)
  where
    neither : (xs : List String) → not (member x xs) ≡ true → not (member x ys) ≡ true → not (member x (xs ++ ys)) ≡ true
    neither [] h k = k
    neither (z ∷ zs) h k = go (eqt z x) h (neither zs)
      where
        go : (b : Bool) → not (b || member x zs) ≡ true →
            (not (member x zs) ≡ true → not (member x ys) ≡ true → not (member x (zs ++ ys)) ≡ true) →
            not (b || member x (zs ++ ys)) ≡ true
        go true h f = absurd cc
        go false h f = f h k

pub classes_apart : (c d e : ℕ) (xs ys : List String) → AllNames c d xs → AllNames d e ys → apart xs ys ≡ true
classes_apart c d e [] ys h k = refl
classes_apart c d e (x ∷ xs) ys h k = and_from _ _ (ap not (not_among d e x h.0.high ys k)) (classes_apart c d e xs ys h.1 k)

-- two lists of classes one above the other
pub in_turn : (c d e : ℕ) (xs ys : List String) → AllNames c d xs → AllNames d e ys → distinct xs ≡ true → distinct ys ≡ true →
    distinct (xs ++ ys) ≡ true
in_turn c d e xs ys h k p q = append_apart xs ys p q (classes_apart c d e xs ys h k)

-- names of letters
abbrev pub Lettered : List String → Type 0
Lettered [] = Unit {0}
Lettered (x ∷ xs) = (letters (codes x) ≡ true) × Lettered xs

pub lettered_append : (xs ys : List String) → Lettered xs → Lettered ys → Lettered (xs ++ ys)
lettered_append [] ys h k = k
lettered_append (x ∷ xs) ys h k = (h.0, lettered_append xs ys h.1 k)

pub lettered_numbers : (nm : ℕ → String) (c : ℕ) → Group nm c → (i n : ℕ) → i + n < 2 ^ 64 → Lettered (numbered_names nm i n)
lettered_numbers nm c g i zero b = tt
lettered_numbers nm c g i (suc n) b = (g.named i (omega (arith, b)), lettered_numbers nm c g (suc i) n (omega (arith, b)))

-- ---- slots: those of both lists, of a fork's boxes and of a cell's words, and the one that is looked at
abbrev pub slot_names : (sigs boxes saved words : ℕ) → List String
slot_names a b c d = numbered_names next_sig_name 0 a ++ (numbered_names next_box_name 0 b ++ (numbered_names open_box_name 0 c ++
    (numbered_names new_word_name 0 d ++ "looked" ∷ [])))

module _ (a b c d : ℕ) (la : 0 + a < 2 ^ 64) (lb : 0 + b < 2 ^ 64) (lc : 0 + c < 2 ^ 64) (ld : 0 + d < 2 ^ 64) where
  looked_named : AllNames 14 15 ("looked" ∷ [])
  looked_named = (record { named = refl; low = omega arith; high = omega arith }, tt)

  words_named : AllNames 13 15 (numbered_names new_word_name 0 d ++ "looked" ∷ [])
  words_named = all_append 13 15 (numbered_names new_word_name 0 d) ("looked" ∷ [])
      (numbers_named new_word_name 13 new_words (omega arith) 13 15 (omega arith) (omega arith) 0 d ld)
      (all_more 14 15 13 15 (omega arith) (omega arith) ("looked" ∷ []) looked_named)

  opens_named : AllNames 12 15 (numbered_names open_box_name 0 c ++ (numbered_names new_word_name 0 d ++ "looked" ∷ []))
  opens_named = all_append 12 15 (numbered_names open_box_name 0 c) (numbered_names new_word_name 0 d ++ "looked" ∷ [])
      (numbers_named open_box_name 12 open_boxes (omega arith) 12 15 (omega arith) (omega arith) 0 c lc)
      (all_more 13 15 12 15 (omega arith) (omega arith) (numbered_names new_word_name 0 d ++ "looked" ∷ []) words_named)

  boxes_named : AllNames 11 15
      (numbered_names next_box_name 0 b ++ (numbered_names open_box_name 0 c ++ (numbered_names new_word_name 0 d ++ "looked" ∷ [])))
  boxes_named = all_append 11 15 (numbered_names next_box_name 0 b)
      (numbered_names open_box_name 0 c ++ (numbered_names new_word_name 0 d ++ "looked" ∷ []))
      (numbers_named next_box_name 11 next_boxes (omega arith) 11 15 (omega arith) (omega arith) 0 b lb)
      (all_more 12 15 11 15 (omega arith) (omega arith)
      (numbered_names open_box_name 0 c ++ (numbered_names new_word_name 0 d ++ "looked" ∷ [])) opens_named)

  pub slots_named : AllNames 10 15 (slot_names a b c d)
  slots_named = all_append 10 15 (numbered_names next_sig_name 0 a)
      (numbered_names next_box_name 0 b ++ (numbered_names open_box_name 0 c ++ (numbered_names new_word_name 0 d ++ "looked" ∷ [])))
      (numbers_named next_sig_name 10 next_sigs (omega arith) 10 15 (omega arith) (omega arith) 0 a la)
      (all_more 11 15 10 15 (omega arith) (omega arith)
      (numbered_names next_box_name 0 b ++ (numbered_names open_box_name 0 c ++ (numbered_names new_word_name 0 d ++ "looked" ∷ [])))
      boxes_named)

  pub slots_distinct : distinct (slot_names a b c d) ≡ true
  slots_distinct = in_turn 10 11 15 (numbered_names next_sig_name 0 a)
      (numbered_names next_box_name 0 b ++ (numbered_names open_box_name 0 c ++ (numbered_names new_word_name 0 d ++ "looked" ∷ [])))
      (numbers_named next_sig_name 10 next_sigs (omega arith) 10 11 (omega arith) (omega arith) 0 a la) boxes_named
      (numbers_distinct next_sig_name 10 next_sigs 0 a la) (in_turn 11 12 15 (numbered_names next_box_name 0 b)
      (numbered_names open_box_name 0 c ++ (numbered_names new_word_name 0 d ++ "looked" ∷ []))
      (numbers_named next_box_name 11 next_boxes (omega arith) 11 12 (omega arith) (omega arith) 0 b lb) opens_named
      (numbers_distinct next_box_name 11 next_boxes 0 b lb)
      (in_turn 12 13 15 (numbered_names open_box_name 0 c) (numbered_names new_word_name 0 d ++ "looked" ∷ [])
      (numbers_named open_box_name 12 open_boxes (omega arith) 12 13 (omega arith) (omega arith) 0 c lc) words_named
      (numbers_distinct open_box_name 12 open_boxes 0 c lc) (in_turn 13 14 15 (numbered_names new_word_name 0 d) ("looked" ∷ [])
      (numbers_named new_word_name 13 new_words (omega arith) 13 14 (omega arith) (omega arith) 0 d ld) looked_named
      (numbers_distinct new_word_name 13 new_words 0 d ld) refl)))

  pub slots_lettered : Lettered (slot_names a b c d)
  slots_lettered = lettered_append (numbered_names next_sig_name 0 a)
      (numbered_names next_box_name 0 b ++ (numbered_names open_box_name 0 c ++ (numbered_names new_word_name 0 d ++ "looked" ∷ [])))
      (lettered_numbers next_sig_name 10 next_sigs 0 a la) (lettered_append (numbered_names next_box_name 0 b)
      (numbered_names open_box_name 0 c ++ (numbered_names new_word_name 0 d ++ "looked" ∷ []))
      (lettered_numbers next_box_name 11 next_boxes 0 b lb)
      (lettered_append (numbered_names open_box_name 0 c) (numbered_names new_word_name 0 d ++ "looked" ∷ [])
      (lettered_numbers open_box_name 12 open_boxes 0 c lc)
      (lettered_append (numbered_names new_word_name 0 d) ("looked" ∷ []) (lettered_numbers new_word_name 13 new_words 0 d ld) (refl, tt))))

-- ---- names in front of names

fronts_apart : (nm : String → String) (c : ℕ) → Front nm c → (x y : String) → letters (codes x) ≡ true → letters (codes y) ≡ true →
    eqt x y ≡ false → eqt (nm x) (nm y) ≡ false
fronts_apart nm c f x y h k e = apart_names (nm x) (nm y) (λ z. let u : true ≡ false = sym (same x y (f.tells x y h k z)) ∙ e in absurd cc)
  where
    same : (x y : String) → x ≡ y → eqt x y ≡ true
    same x y e = subst (λ v. eqt x v ≡ true) e (same_name x)

front_named : (nm : String → String) (c : ℕ) → Front nm c → 1 ≤ c → (lo hi : ℕ) → lo ≤ c → c < hi → (x : String) →
    letters (codes x) ≡ true → OneName lo hi (nm x)
front_named nm c f l lo hi p q x h = record {
  named = is_identifier (nm x) (ne_eqb (class (nm x)) 0 (λ z. let e = f.class_is x in omega (arith, l, z, e))) (f.begun x h);
  low = let e = f.class_is x in omega (arith, e, p);
  high = let e = f.class_is x in omega (arith, e, q);
}

-- ---- fields of slots: each has two
abbrev pub pairs : List String → List String
pairs [] = []
pairs (x ∷ xs) = by_name x ∷ tag_name x ∷ pairs xs

pairs_named : (xs : List String) → Lettered xs → AllNames 2 5 (pairs xs)
pairs_named [] h = tt
pairs_named (x ∷ xs) h = (
  front_named by_name 2 bys (omega arith) 2 5 (omega arith) (omega arith) x h.0,
  (front_named tag_name 4 tags (omega arith) 2 5 (omega arith) (omega arith) x h.0, pairs_named xs h.1),
)

pairs_lettered : (xs : List String) → Lettered xs → Lettered (pairs xs)
pairs_lettered [] h = tt
pairs_lettered (x ∷ xs) h = (bys.named x h.0, (tags.named x h.0, pairs_lettered xs h.1))

no_number : (x : String) (xs : List String) → member (number_name x) (pairs xs) ≡ false
no_number x [] = refl
no_number x (y ∷ ys) = ap (λ t. t || (eqt (tag_name y) (number_name x) || member (number_name x) (pairs ys)))
    (class_apart (by_name y) (number_name x) (λ z. let a : 2 ≡ 3 = z in omega (arith, a)))
    ∙ ap (λ t. t || member (number_name x) (pairs ys))
    (class_apart (tag_name y) (number_name x) (λ z. let a : 4 ≡ 3 = z in omega (arith, a))) ∙ no_number x ys

no_by : (x : String) → letters (codes x) ≡ true → (xs : List String) → Lettered xs → member x xs ≡ false →
    member (by_name x) (pairs xs) ≡ false
no_by x l [] h m = refl
no_by x l (y ∷ ys) h m =
    let (a, b) = or_parts (eqt y x) (member x ys) m in
    ap (λ t. t || (eqt (tag_name y) (by_name x) || member (by_name x) (pairs ys))) (fronts_apart by_name 2 bys y x h.0 l a)
    ∙ ap (λ t. t || member (by_name x) (pairs ys)) (class_apart (tag_name y) (by_name x) (λ z. let u : 4 ≡ 2 = z in omega (arith, u)))
    ∙ no_by x l ys h.1 b

no_tag : (x : String) → letters (codes x) ≡ true → (xs : List String) → Lettered xs → member x xs ≡ false →
    member (tag_name x) (pairs xs) ≡ false
no_tag x l [] h m = refl
no_tag x l (y ∷ ys) h m =
    let (a, b) = or_parts (eqt y x) (member x ys) m in
    ap (λ t. t || (eqt (tag_name y) (tag_name x) || member (tag_name x) (pairs ys)))
    (class_apart (by_name y) (tag_name x) (λ z. let u : 2 ≡ 4 = z in omega (arith, u)))
    ∙ ap (λ t. t || member (tag_name x) (pairs ys)) (fronts_apart tag_name 4 tags y x h.0 l a) ∙ no_tag x l ys h.1 b

pairs_distinct : (xs : List String) → Lettered xs → distinct xs ≡ true → distinct (pairs xs) ≡ true
pairs_distinct [] h d = refl
pairs_distinct (x ∷ xs) h d =
    let (a, b) = and_parts _ _ d in
    let m = not-true (member x xs) a in
    and_from _ _ (ap not (ap (λ t. t || member (by_name x) (pairs xs))
    (class_apart (tag_name x) (by_name x) (λ z. let u : 4 ≡ 2 = z in omega (arith, u))) ∙ no_by x h.0 xs h.1 m))
    (and_from _ _ (ap not (no_tag x h.0 xs h.1 m)) (pairs_distinct xs h.1 b))

-- those of both operands in front
abbrev pub choice_names : List String → List String
choice_names xs = by_name "first" ∷ number_name "first" ∷ by_name "second" ∷ number_name "second" ∷ pairs xs

module _ (xs : List String) (h : Lettered xs) (n : AllNames 10 15 xs) (d : distinct xs ≡ true) where
  pub choices_named : AllNames 2 5 (choice_names xs)
  choices_named = (
    front_named by_name 2 bys (omega arith) 2 5 (omega arith) (omega arith) "first" refl,
    (
      front_named number_name 3 numbers (omega arith) 2 5 (omega arith) (omega arith) "first" refl,
      (
        front_named by_name 2 bys (omega arith) 2 5 (omega arith) (omega arith) "second" refl,
        (front_named number_name 3 numbers (omega arith) 2 5 (omega arith) (omega arith) "second" refl, pairs_named xs h),
      ),
    ),
  )

  pub choices_lettered : Lettered (choice_names xs)
  choices_lettered = (refl, (refl, (refl, (refl, pairs_lettered xs h))))

  pub choices_distinct : distinct (choice_names xs) ≡ true
  choices_distinct = and_from _ _ (ap not (no_by "first" refl xs h (not_among 10 15 "first" (omega arith) xs n))) (and_from _ _
      (ap not (no_number "first" xs)) (and_from _ _ (ap not (no_by "second" refl xs h (not_among 10 15 "second" (omega arith) xs n)))
      (and_from _ _ (ap not (no_number "second" xs)) (pairs_distinct xs h d))))

-- ---- the flags, and all fields
abbrev pub flag_names : List String
flag_names = "none" ∷ "to" ∷ "counts" ∷ "waits" ∷ "later" ∷ "tests" ∷ "needs" ∷ "ends" ∷ "makes" ∷ "opens" ∷ "above" ∷ "keeps" ∷ "closes" ∷
    "touches" ∷ "takes" ∷ "computes" ∷ "subtracts" ∷ "multiplies" ∷ []

-- each flag's name has letters alone
abbrev all_letters : List String → Bool
all_letters [] = true
all_letters (x ∷ xs) = letters (codes x) && all_letters xs

lettered_of : (xs : List String) → all_letters xs ≡ true → Lettered xs
lettered_of [] h = tt
lettered_of (x ∷ xs) h = let (a, b) = and_parts (letters (codes x)) (all_letters xs) h in (a, lettered_of xs b)

abbrev flat : List String → Bool
flat [] = true
flat (x ∷ xs) = nat_eq (class x) 0 && flat xs

flat_apart : (xs ys : List String) → flat xs ≡ true → AllNames 2 5 ys → apart xs ys ≡ true
flat_apart [] ys f h = refl
flat_apart (x ∷ xs) ys f h =
    let (a, b) = and_parts _ _ f in
    let z = eqb-true (class x) 0 a in
    and_from _ _ (ap not (not_among 2 5 x (omega (arith, z)) ys h)) (flat_apart xs ys b h)

module _ (xs : List String) (h : Lettered xs) (n : AllNames 10 15 xs) (d : distinct xs ≡ true) where
  pub titles_lettered : Lettered (flag_names ++ choice_names xs)
  titles_lettered = lettered_append flag_names (choice_names xs) (lettered_of flag_names refl) (choices_lettered xs h n d)

  pub titles_distinct : distinct (flag_names ++ choice_names xs) ≡ true
  titles_distinct = append_apart flag_names (choice_names xs) refl (choices_distinct xs h n d)
      (flat_apart flag_names (choice_names xs) refl (choices_named xs h n d))

-- ---- what is found for each
abbrev pub found_names : List String → List String
found_names [] = []
found_names (x ∷ xs) = found x ∷ found_names xs

pub founds_named : (xs : List String) → Lettered xs → AllNames 15 16 (found_names xs)
founds_named [] h = tt
founds_named (x ∷ xs) h = (front_named found 15 founds (omega arith) 15 16 (omega arith) (omega arith) x h.0, founds_named xs h.1)

pub no_found : (x : String) → letters (codes x) ≡ true → (xs : List String) → Lettered xs → member x xs ≡ false →
    member (found x) (found_names xs) ≡ false
no_found x l [] h m = refl
no_found x l (y ∷ ys) h m =
    let (a, b) = or_parts (eqt y x) (member x ys) m in
    ap (λ t. t || member (found x) (found_names ys)) (fronts_apart found 15 founds y x h.0 l a) ∙ no_found x l ys h.1 b

pub founds_distinct : (xs : List String) → Lettered xs → distinct xs ≡ true → distinct (found_names xs) ≡ true
founds_distinct [] h d = refl
founds_distinct (x ∷ xs) h d =
    let (a, b) = and_parts _ _ d in
    and_from _ _ (ap not (no_found x h.0 xs h.1 (not-true (member x xs) a))) (founds_distinct xs h.1 b)

by_names : (c d : ℕ) (is : List Item) (xs : List String) → all_counted is ≡ true → names_of is ≡ xs → AllNames c d xs →
    distinct xs ≡ true → Counted c d is
by_names c d is xs o e n t = record {
  counted = o;
  named = subst (λ ys. AllNames c d ys) (sym e) n;
  distinct = ap distinct e ∙ t;
}

-- ---- by number

args_counted : (i n : ℕ) → all_counted (arg_inputs i n) ≡ true
args_counted i zero = refl
args_counted i (suc n) = args_counted (suc i) n

args_names : (i n : ℕ) → names_of (arg_inputs i n) ≡ numbered_names arg_name i n
args_names i zero = refl
args_names i (suc n) = ap (λ xs. arg_name i ∷ xs) (args_names (suc i) n)

pub args_group : (n : ℕ) → 0 + n < 2 ^ 64 → Counted 1 2 (arg_inputs 0 n)
args_group n b = by_names 1 2 (arg_inputs 0 n) (numbered_names arg_name 0 n) (args_counted 0 n) (args_names 0 n)
    (numbers_named arg_name 1 args (omega arith) 1 2 (omega arith) (omega arith) 0 n b) (numbers_distinct arg_name 1 args 0 n b)

pub args_fine : (E : List Entry) (i n : ℕ) → all_fine E (arg_inputs i n) ≡ true
args_fine E i zero = refl
args_fine E i (suc n) = args_fine E (suc i) n

held_counted : (i n : ℕ) → all_counted (held_regs i n) ≡ true
held_counted i zero = refl
held_counted i (suc n) = held_counted (suc i) n

held_names : (i n : ℕ) → names_of (held_regs i n) ≡ numbered_names held_name i n
held_names i zero = refl
held_names i (suc n) = ap (λ xs. held_name i ∷ xs) (held_names (suc i) n)

pub held_group : (n : ℕ) → 0 + n < 2 ^ 64 → Counted 7 8 (held_regs 0 n)
held_group n b = by_names 7 8 (held_regs 0 n) (numbered_names held_name 0 n) (held_counted 0 n) (held_names 0 n)
    (numbers_named held_name 7 helds (omega arith) 7 8 (omega arith) (omega arith) 0 n b) (numbers_distinct held_name 7 helds 0 n b)

pub held_fine : (E : List Entry) (i n : ℕ) → all_fine E (held_regs i n) ≡ true
held_fine E i zero = refl
held_fine E i (suc n) = held_fine E (suc i) n

module _ (w : ℕ) (nm : ℕ → String) where
  regs_counted : (i n : ℕ) → all_counted (pointer_registers w nm i n) ≡ true
  regs_counted i zero = refl
  regs_counted i (suc n) = regs_counted (suc i) n

  regs_names : (i n : ℕ) → names_of (pointer_registers w nm i n) ≡ numbered_names nm i n
  regs_names i zero = refl
  regs_names i (suc n) = ap (λ xs. nm i ∷ xs) (regs_names (suc i) n)

  pub regs_fine : (E : List Entry) (i n : ℕ) → all_fine E (pointer_registers w nm i n) ≡ true
  regs_fine E i zero = refl
  regs_fine E i (suc n) = regs_fine E (suc i) n

  pub regs_group : (c : ℕ) → Group nm c → 1 ≤ c → (n : ℕ) → 0 + n < 2 ^ 64 → Counted c (suc c) (pointer_registers w nm 0 n)
  regs_group c g l n b = by_names c (suc c) (pointer_registers w nm 0 n) (numbered_names nm 0 n) (regs_counted 0 n) (regs_names 0 n)
      (numbers_named nm c g l c (suc c) (omega arith) (omega arith) 0 n b) (numbers_distinct nm c g 0 n b)

  parts_counted : (v : String) (l i n : ℕ) → all_counted (pointer_parts w v nm l i n) ≡ true
  parts_counted v l i zero = refl
  parts_counted v l i (suc n) = parts_counted v (l + w) (suc i) n

  parts_names : (v : String) (l i n : ℕ) → names_of (pointer_parts w v nm l i n) ≡ numbered_names nm i n
  parts_names v l i zero = refl
  parts_names v l i (suc n) = ap (λ xs. nm i ∷ xs) (parts_names v (l + w) (suc i) n)

  pub parts_fine : (E : List Entry) (v : String) → of_kind selects E v ≡ true → (l i n : ℕ) → all_fine E (pointer_parts w v nm l i n) ≡ true
  parts_fine E v h l i zero = refl
  parts_fine E v h l i (suc n) = and_from _ _ (and_from _ _ h refl) (parts_fine E v h (l + w) (suc i) n)

  pub parts_group : (c : ℕ) → Group nm c → 1 ≤ c → (v : String) (l n : ℕ) → 0 + n < 2 ^ 64 → Counted c (suc c) (pointer_parts w v nm l 0 n)
  parts_group c g m v l n b =
      by_names c (suc c) (pointer_parts w v nm l 0 n) (numbered_names nm 0 n) (parts_counted v l 0 n) (parts_names v l 0 n)
      (numbers_named nm c g m c (suc c) (omega arith) (omega arith) 0 n b) (numbers_distinct nm c g 0 n b)

-- ---- slots

abbrev pub titles : List Slot → List String
titles [] = []
titles (s ∷ ss) = s.title ∷ titles ss

titles_append : (xs ys : List Slot) → titles (xs ++ ys) ≡ titles xs ++ titles ys
titles_append [] ys = refl
titles_append (s ∷ ss) ys = ap (λ l. s.title ∷ l) (titles_append ss ys)

titles_from : (f : ℕ → Slot) (nm : ℕ → String) → ((i : ℕ) → (f i).title ≡ nm i) → (i n : ℕ) →
    titles (slots_from f i n) ≡ numbered_names nm i n
titles_from f nm h i zero = refl
titles_from f nm h i (suc n) = let a = h i in let b = titles_from f nm h (suc i) n in λ j. a j ∷ b j

-- the names of the slots of a table
pub slot_titles : (rows : List ModuleRow) →
    titles (all_slots rows) ≡ slot_names (sig_count rows) (box_count rows) (fork_count rows) (word_count rows)
slot_titles rows =
    let a = slots_from sig_slot 0 (sig_count rows) in
    let b = slots_from box_slot 0 (box_count rows) in
    let c = slots_from open_slot 0 (fork_count rows) in
    let d = slots_from word_slot 0 (word_count rows) in
    let ta = titles_from sig_slot next_sig_name (λ i. refl) 0 (sig_count rows) in
    let tb = titles_from box_slot next_box_name (λ i. refl) 0 (box_count rows) in
    let tc = titles_from open_slot open_box_name (λ i. refl) 0 (fork_count rows) in
    let td = titles_from word_slot new_word_name (λ i. refl) 0 (word_count rows) in
    titles_append a (b ++ (c ++ (d ++ looked_slot ∷ []))) ∙ ap (λ l. titles a ++ l) (titles_append b (c ++ (d ++ looked_slot ∷ []))
    ∙ ap (λ l. titles b ++ l) (titles_append c (d ++ looked_slot ∷ []) ∙ ap (λ l. titles c ++ l) (titles_append d (looked_slot ∷ []))))
    ∙ (λ j. ta j ++ (tb j ++ (tc j ++ (td j ++ "looked" ∷ []))))

slots_counted : (p t : ℕ) (rows : List ModuleRow) (ss : List Slot) → all_counted (slot_wires p t rows ss) ≡ true
slots_counted p t rows [] = refl
slots_counted p t rows (s ∷ ss) = slots_counted p t rows ss

slots_names : (p t : ℕ) (rows : List ModuleRow) (ss : List Slot) → names_of (slot_wires p t rows ss) ≡ titles ss
slots_names p t rows [] = refl
slots_names p t rows (s ∷ ss) = ap (λ xs. s.title ∷ xs) (slots_names p t rows ss)

-- ---- fields

abbrev pub choice_fields : List ModuleRow → List Field
choice_fields rows = input_fields rows (first_input ∷ second_input ∷ []) ++ slot_fields (tag_bits rows) rows (all_slots rows)

abbrev pub field_titles : List Field → List String
field_titles [] = []
field_titles (f ∷ fs) = f.title ∷ field_titles fs

pairs_titles : (t : ℕ) (rows : List ModuleRow) (ss : List Slot) → field_titles (slot_fields t rows ss) ≡ pairs (titles ss)
pairs_titles t rows [] = refl
pairs_titles t rows (s ∷ ss) = ap (λ xs. by_name s.title ∷ tag_name s.title ∷ xs) (pairs_titles t rows ss)

pub choice_titles : (rows : List ModuleRow) → field_titles (choice_fields rows) ≡ choice_names (titles (all_slots rows))
choice_titles rows = ap (λ xs. by_name "first" ∷ number_name "first" ∷ by_name "second" ∷ number_name "second" ∷ xs)
    (pairs_titles (tag_bits rows) rows (all_slots rows))

pub all_titles : (rows : List ModuleRow) → field_titles (row_fields rows) ≡ flag_names ++ choice_names (titles (all_slots rows))
all_titles rows = ap (λ xs. flag_names ++ xs) (choice_titles rows)

fields_counted : (fs : List Field) → all_counted (field_registers fs) ≡ true
fields_counted [] = refl
fields_counted (f ∷ fs) = fields_counted fs

fields_names : (fs : List Field) → names_of (field_registers fs) ≡ field_titles fs
fields_names [] = refl
fields_names (f ∷ fs) = ap (λ xs. f.title ∷ xs) (fields_names fs)

founds_counted : (fs : List Field) → all_counted (found_registers fs) ≡ true
founds_counted [] = refl
founds_counted (f ∷ fs) = founds_counted fs

pub founds_names : (fs : List Field) → names_of (found_registers fs) ≡ found_names (field_titles fs)
founds_names [] = refl
founds_names (f ∷ fs) = ap (λ xs. found f.title ∷ xs) (founds_names fs)

-- ---- those of a table, where its counts are small
module _ (rows : List ModuleRow) (la : 0 + sig_count rows < 2 ^ 64) (lb : 0 + box_count rows < 2 ^ 64)
    (lc : 0 + fork_count rows < 2 ^ 64) (ld : 0 + word_count rows < 2 ^ 64) where
  abbrev T : List String
  T = titles (all_slots rows)

  abbrev N : List String
  N = slot_names (sig_count rows) (box_count rows) (fork_count rows) (word_count rows)

  t_named : AllNames 10 15 T
  t_named = subst (λ xs. AllNames 10 15 xs) (sym (slot_titles rows))
      (slots_named (sig_count rows) (box_count rows) (fork_count rows) (word_count rows) la lb lc ld)

  t_distinct : distinct T ≡ true
  t_distinct =
      ap distinct (slot_titles rows) ∙ slots_distinct (sig_count rows) (box_count rows) (fork_count rows) (word_count rows) la lb lc ld

  t_lettered : Lettered T
  t_lettered = subst Lettered (sym (slot_titles rows))
      (slots_lettered (sig_count rows) (box_count rows) (fork_count rows) (word_count rows) la lb lc ld)

  pub slots_group : (p t : ℕ) → Counted 10 15 (slot_wires p t rows (all_slots rows))
  slots_group p t = by_names 10 15 (slot_wires p t rows (all_slots rows)) T (slots_counted p t rows (all_slots rows))
      (slots_names p t rows (all_slots rows)) t_named t_distinct

  pub choices_group : Counted 2 5 (field_registers (choice_fields rows))
  choices_group = by_names 2 5 (field_registers (choice_fields rows)) (choice_names T) (fields_counted (choice_fields rows))
      (fields_names (choice_fields rows) ∙ choice_titles rows) (choices_named T t_lettered t_named t_distinct)
      (choices_distinct T t_lettered t_named t_distinct)

  pub titles_apart : distinct (field_titles (row_fields rows)) ≡ true
  titles_apart = ap distinct (all_titles rows) ∙ titles_distinct T t_lettered t_named t_distinct

  pub titles_letters : Lettered (field_titles (row_fields rows))
  titles_letters = subst Lettered (sym (all_titles rows)) (titles_lettered T t_lettered t_named t_distinct)

  pub founds_group : Counted 15 16 (found_registers (row_fields rows))
  founds_group = by_names 15 16 (found_registers (row_fields rows)) (found_names (field_titles (row_fields rows)))
      (founds_counted (row_fields rows)) (founds_names (row_fields rows)) (founds_named (field_titles (row_fields rows)) titles_letters)
      (founds_distinct (field_titles (row_fields rows)) titles_letters titles_apart)
