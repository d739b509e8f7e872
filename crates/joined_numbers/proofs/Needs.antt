-- What a row reads is there.
use Rattle.std.proofs.Common.{◌≡◌, ◌⊎◌, ◌<◌, ℕ, zero, suc, max, Bool, true, false, cond, List, [], ◌∷◌, length, Some}
use Rattle.std.proofs.Common.{refl, sym, ap, ◌∙◌, inl, inr}
use Rattle.std.specs.Prelude.{nat_lt, ◌&&◌, ◌^◌, ◌-◌}
use Rattle.std.proofs.lemmas.Bool.{and_from, lt-ltb}
use Rattle.net_rows.proofs.Small.{not_full}
use Rattle.pcf_values.specs.declared.val.Val.TheVariants.{Number, Overflow}
use Rattle.joined_rows.specs.Open.{Term, named, a_star, Amount, some, known, more_than, less_than}
use Rattle.joined_rows.specs.Open.{both}
use Rattle.joined_rows.specs.Open.{Walker, asks, says}
use Rattle.joined_rows.specs.Compound.{Pointer, Low, has_name, pointer_for, pointers_for}
use Rattle.joined_rows.specs.Ticks.{NamedHalf, waiting, left, NamedFork}
use Rattle.joined_core.specs.Rows.{Site, nowhere, on_sigs, on_boxes, on_value, Seen, Source, a_sig, a_box, a_word, a_part}
use Rattle.joined_core.specs.Rows.{given_at}
use Rattle.joined_core.specs.Right.{seen_cell}
use Rattle.joined_core.specs.Circuit.{JoinedToken, pointer_at, seen_at}
use Rattle.joined_core.proofs.OneValue.{OneIn, OneAt, OneHalf, OneForks}
use Rattle.joined_core.proofs.Told.{SourceFits, SourcesFit, given_fits}
use Rattle.joined_module.specs.Rows.{From, from_new, from_none}
use Rattle.joined_module.specs.Rows.{Operand, the_value, the_kept, a_literal, a_port}
use Rattle.joined_module.specs.Rows.{first_from, second_from, part_from, shape_pointer, term_from, terms_from, number_operand}
use Rattle.joined_module.specs.Rows.{known_operand, operand, taken_worth, worth, walker_worth, first_value, second_value, walker_operand}
use Rattle.joined_module.specs.Rows.{half_kept, half_answered, forks_opened, forks_answered, from_at, is_new_cell, opened_boxes}
use Rattle.joined_module.specs.Rows.{word_of_from}
use Rattle.joined_module.specs.Rows.{words_read}
use Rattle.joined_module.specs.Machine.{Tagged, RowCircuit, looked_place, has_cell, from_there, all_there}
use Rattle.joined_module.specs.Machine.{is_answered, operand_there, is_open, option_there, deed_there, worth_there}
use Rattle.joined_numbers.specs.At.{amount_at, walker_at, half_at, forks_at}
use Rattle.joined_numbers.specs.Put.{put_pointers}
use Rattle.joined_numbers.proofs.Pointers.{SourceIn, long_put}
use Rattle.joined_numbers.proofs.Clocks.{LooksAt}

-- ---- operands

number_there : (D : RowCircuit) (n : ℕ) → operand_there D (number_operand n) ≡ true
number_there D n = go (nat_lt n (2 ^ 64))
  where
    go : (b : Bool) → operand_there D (cond b (a_literal n) (a_port (n - 2 ^ 64))) ≡ true
    go true = refl
    go false = refl

taken_there : (D : RowCircuit) (x : Operand) → operand_there D x ≡ true → worth_there D (taken_worth x) ≡ true
taken_there D the_value e = refl
taken_there D the_kept e = e
taken_there D (a_literal n) e = refl
taken_there D (a_port i) e = refl

-- of a first part
first_there : (D : RowCircuit) (a : Amount) → operand_there D (operand first_value a) ≡ true
first_there D (some n) = refl
first_there D (known (Number n)) = number_there D n
first_there D (known Overflow) = refl
first_there D (more_than a) = refl
first_there D (less_than a) = refl
first_there D (both o a b) = refl

worth_first_there : (D : RowCircuit) (a : Amount) → worth_there D (worth first_value a) ≡ true
worth_first_there D (some n) = refl
worth_first_there D (known v) = taken_there D (known_operand v) (first_there D (known v))
worth_first_there D (more_than a) = and_from (operand_there D (operand first_value a)) true (first_there D a) refl
worth_first_there D (less_than a) = and_from (operand_there D (operand first_value a)) true (first_there D a) refl
worth_first_there D (both o a b) =
    and_from (operand_there D (operand first_value a)) (operand_there D (operand first_value b)) (first_there D a) (first_there D b)

pub walker_first_there : (D : RowCircuit) (x : Walker) → worth_there D (walker_worth first_value x) ≡ true
walker_first_there D (asks s) = refl
walker_first_there D (says a s) = worth_first_there D a

-- ---- pointers

module _ (tag : Term → ℕ) (D : RowCircuit) where
  shape_there : (x : Term) → from_there D (shape_pointer tag x) ≡ true
  shape_there x = go (has_name x)
    where
      go : (b : Bool) → from_there D (cond b (from_new (tag x)) (from_none (tag x))) ≡ true
      go true = refl
      go false = refl

  module _ (g : ℕ → From) (h : (n : ℕ) → from_there D (g n) ≡ true) where
    term_there : (x : Term) → from_there D (term_from tag g x) ≡ true
    term_there (named n) = h n
    term_there x = shape_there x

    pub terms_there : (xs : List Term) → all_there D (terms_from tag g xs) ≡ true
    terms_there [] = refl
    terms_there (x ∷ xs) =
        and_from (from_there D (term_from tag g x)) (all_there D (terms_from tag g xs)) (term_there x) (terms_there xs)

    pub two_there : all_there D (g 0 ∷ g 1 ∷ []) ≡ true
    two_there = and_from (from_there D (g 0)) (from_there D (g 1) && true) (h 0) (and_from (from_there D (g 1)) true (h 1) refl)

    pub opened_there : (fs : List NamedFork) → deed_there D (forks_opened tag g fs) ≡ true
    opened_there [] = refl
    opened_there (f ∷ fs) =
        and_from (all_there D (terms_from tag g f.boxes)) (option_there D (half_kept first_value f.half)) (terms_there f.boxes)
        (half_there f.half)
      where
        half_there : (h : NamedHalf) → option_there D (half_kept first_value h) ≡ true
        half_there (waiting q) = refl
        half_there (left a) = first_there D a

  -- a first part's sources
  module _ (k : JoinedToken) (w : Site) (sigs : D.sigs ≡ put_pointers tag k.lists.sigs) (boxes : D.boxes ≡ put_pointers tag k.lists.boxes)
      (looks : LooksAt w k.lists) (site : D.site ≡ w)
      (low : seen_cell (seen_at w k) ≡ true → (has_cell w ≡ true) × (looked_place w D.sigs D.boxes < D.top)) where
    within_sigs : (i : ℕ) → i < length k.lists.sigs → nat_lt i (length D.sigs) ≡ true
    within_sigs i l =
        ap (λ (ss : List Tagged). nat_lt i (length ss)) sigs ∙ ap (nat_lt i) (long_put tag k.lists.sigs)
        ∙ lt-ltb i (length k.lists.sigs) l

    within_boxes : (i : ℕ) → i < length k.lists.boxes → nat_lt i (length D.boxes) ≡ true
    within_boxes i l =
        ap (λ (ss : List Tagged). nat_lt i (length ss)) boxes ∙ ap (nat_lt i) (long_put tag k.lists.boxes)
        ∙ lt-ltb i (length k.lists.boxes) l

    pub source_there : (s : Source) → SourceIn w (length k.lists.sigs) (length k.lists.boxes) s → SourceFits (seen_at w k) s →
        from_there D (first_from tag w s) ≡ true
    source_there (a_sig i) h f = within_sigs i h
    source_there (a_box i) h f = within_boxes i h
    source_there (a_word i) h f =
        let l = low f in
        ap (λ w. has_cell w && nat_lt (looked_place w D.sigs D.boxes) D.top) site
        ∙ and_from (has_cell w) (nat_lt (looked_place w D.sigs D.boxes) D.top) l.0 (lt-ltb (looked_place w D.sigs D.boxes) D.top l.1)
    source_there (a_part x) h f = go w looks (has_name x)
      where
        go : (w : Site) → LooksAt w k.lists → (b : Bool) → from_there D (part_from tag w b x) ≡ true
        go nowhere l true = refl
        go nowhere l false = refl
        go on_sigs l true = within_sigs 0 l
        go on_sigs l false = refl
        go on_boxes l true = within_boxes 0 l
        go on_boxes l false = refl
        go on_value l true = refl
        go on_value l false = refl

-- and of a second one, where the left answer came or isn't read
module _ (ps : ℕ → ℕ) (D : RowCircuit) (y : Walker) where
  abbrev F : ℕ → Operand
  F = second_value (walker_operand y)

  answer_there : operand_there D (walker_operand y) ≡ true
  answer_there = go y
    where
      go : (y : Walker) → operand_there D (walker_operand y) ≡ true
      go (asks s) = refl
      go (says a s) = first_there D a

  second_there : (a : Amount) → OneIn (amount_at ps a) ⊎ (is_answered D.forks ≡ true) → operand_there D (operand F a) ≡ true
  second_there (some zero) h = answer_there
  second_there (some (suc n)) (inl h) = elim h [ ]
  second_there (some (suc n)) (inr h) = h
  second_there (known (Number n)) h = number_there D n
  second_there (known Overflow) h = refl
  second_there (more_than a) h = refl
  second_there (less_than a) h = refl
  second_there (both o a b) h = refl

  one_of : {A B C : Type 0} → (A → B) → A ⊎ C → B ⊎ C
  one_of f (inl a) = inl (f a)
  one_of f (inr c) = inr c

  worth_second_there : (a : Amount) → OneIn (amount_at ps a) ⊎ (is_answered D.forks ≡ true) → worth_there D (worth F a) ≡ true
  worth_second_there (some n) h = taken_there D (F n) (second_there (some n) h)
  worth_second_there (known v) h = taken_there D (known_operand v) (second_there (known v) h)
  worth_second_there (more_than a) h = and_from (operand_there D (operand F a)) true (second_there a h) refl
  worth_second_there (less_than a) h = and_from (operand_there D (operand F a)) true (second_there a h) refl
  worth_second_there (both o a b) h =
      and_from (operand_there D (operand F a)) (operand_there D (operand F b)) (second_there a (one_of (λ p. p.0) h))
      (second_there b (one_of (λ p. p.1) h))

  pub walker_second_there : (x : Walker) → OneAt (walker_at ps x) ⊎ (is_answered D.forks ≡ true) →
      worth_there D (walker_worth F x) ≡ true
  walker_second_there (asks s) h = refl
  walker_second_there (says a s) h = worth_second_there a h

  half_second_there : (g : NamedHalf) → OneHalf (half_at ps g) ⊎ (is_answered D.forks ≡ true) → operand_there D (half_answered F g) ≡ true
  half_second_there (waiting q) h = refl
  half_second_there (left a) h = second_there a h

  pub answered_there : is_open D.forks ≡ true → (fs : List NamedFork) → OneForks (forks_at ps fs) ⊎ (is_answered D.forks ≡ true) →
      deed_there D (forks_answered F fs) ≡ true
  answered_there o [] h = o
  answered_there o (f ∷ fs) h =
      and_from (is_open D.forks) (operand_there D (half_answered F f.half)) o (half_second_there f.half (one_of (λ p. p.0) h))

-- ---- words

module _ (tag : Term → ℕ) (g : ℕ → From) (h : (n : ℕ) → word_of_from (Some (g n)) ≡ 0) where
  shape_word : (x : Term) → word_of_from (Some (shape_pointer tag x)) ≡ 0
  shape_word x = go (has_name x)
    where
      go : (b : Bool) → word_of_from (Some (cond b (from_new (tag x)) (from_none (tag x)))) ≡ 0
      go true = refl
      go false = refl

  term_word : (x : Term) → word_of_from (Some (term_from tag g x)) ≡ 0
  term_word (named n) = h n
  term_word x = shape_word x

  pub terms_words : (xs : List Term) → words_read (terms_from tag g xs) ≡ 0
  terms_words [] = refl
  terms_words (x ∷ xs) = ap (λ n. max n (words_read (terms_from tag g xs))) (term_word x) ∙ ap (max 0) (terms_words xs)

  pub two_words_none : words_read (g 0 ∷ g 1 ∷ []) ≡ 0
  two_words_none =
      ap (λ n. max n (max (word_of_from (Some (g 1))) 0)) (h 0) ∙ ap (λ n. max 0 (max n 0)) (h 1)

  pub opened_words : (fs : List NamedFork) → words_read (opened_boxes (forks_opened tag g fs)) ≡ 0
  opened_words [] = refl
  opened_words (f ∷ fs) = terms_words f.boxes

pub answered_words : (F : ℕ → Operand) (fs : List NamedFork) → words_read (opened_boxes (forks_answered F fs)) ≡ 0
answered_words F [] = refl
answered_words F (f ∷ fs) = refl

part_word : (tag : Term → ℕ) (w : Site) (b : Bool) (x : Term) → word_of_from (Some (part_from tag w b x)) ≡ 0
part_word tag on_sigs true x = refl
part_word tag on_boxes true x = refl
part_word tag w b x = refl

-- where no cell is seen no word is read
source_word : (tag : Term → ℕ) (w : Site) (e : Seen) → seen_cell e ≡ false → (s : Source) → SourceFits e s →
    word_of_from (Some (first_from tag w s)) ≡ 0
source_word tag w e c (a_sig i) f = refl
source_word tag w e c (a_box i) f = refl
source_word tag w e c (a_word i) f = not_full (sym f ∙ c)
source_word tag w e c (a_part x) f = part_word tag w (has_name x) x

pub first_word : (tag : Term → ℕ) (w : Site) (e : Seen) → seen_cell e ≡ false → (gs : List Source) → SourcesFit e gs → (n : ℕ) →
    word_of_from (Some (first_from tag w (given_at gs n))) ≡ 0
first_word tag w e c gs f n = source_word tag w e c (given_at gs n) (given_fits e gs f n)

pub second_word : (tag : Term → ℕ) (s : Source) → word_of_from (Some (second_from tag s)) ≡ 0
second_word tag (a_sig i) = refl
second_word tag (a_box i) = refl
second_word tag (a_word i) = refl
second_word tag (a_part x) = refl

-- ---- what is looked at next

-- a pointer with names is that of the new cell, or one that was there
pub looks_new : (tag : Term → ℕ) (g : ℕ → From) (G : ℕ → Pointer) (n : ℕ) → ((j : ℕ) → Low n (G j)) → (xs : List Term) →
    has_name (pointer_at (pointers_for G n xs) 0).shape ≡ true →
    (is_new_cell (from_at (terms_from tag g xs) 0) ≡ true) ⊎ ((pointer_at (pointers_for G n xs) 0).place < n)
looks_new tag g G n low [] e = absurd cc
looks_new tag g G n low (x ∷ xs) e = go x e
  where
    new : (x : Term) → has_name x ≡ true → is_new_cell (Some (shape_pointer tag x)) ≡ true
    new x e = ap (λ b. is_new_cell (Some (cond b (from_new (tag x)) (from_none (tag x))))) e

    go : (x : Term) → has_name (pointer_for G n x).shape ≡ true →
        (is_new_cell (Some (term_from tag g x)) ≡ true) ⊎ ((pointer_for G n x).place < n)
    go (named j) e = inr (low j e)
    go a_star e = absurd cc
    go y e = inl (new y e)
