-- The pointers that a row makes, as numbers.
use Rattle.std.proofs.Common.{◌≡◌, ◌<◌, ℕ, zero, suc, Bool, true, false, cond, List, [], ◌∷◌, length}
use Rattle.std.proofs.Common.{refl, sym, ap, ◌∙◌, arith}
use Rattle.std.specs.Prelude.{nat_eq, ◌&&◌}
use Rattle.std.proofs.Math.Path.{fun_ext}
use Rattle.joined_rows.specs.Open.{Term, named}
use Rattle.joined_rows.specs.Compound.{Pointer, Store, has_name, pointer_for, pointers_for, Lists}
use Rattle.joined_core.specs.Rows.{Site, nowhere, on_sigs, on_boxes, on_value, Source, a_sig, a_box, a_word, a_part}
use Rattle.joined_core.specs.Circuit.{pointer_at, looked_at, source_of, two_words, stored}
use Rattle.joined_module.specs.Rows.{From, from_new, from_none, ModuleRow}
use Rattle.joined_module.specs.Rows.{first_from, second_from, part_from, shape_pointer, term_from, terms_from}
use Rattle.joined_module.specs.Machine.{Tagged, tagged, tagged_at, RowCircuit, base_of, pointer_from, pointers_from, innermost}
use Rattle.joined_module.specs.Machine.{looked_place}
use Rattle.joined_module.specs.Machine.{cells_after, has_cell}
use Rattle.joined_numbers.specs.Put.{put_pointer, put_pointers, put_cells}

-- a pointer of a list
pub pointer_put : (tag : Term → ℕ) (ps : List Pointer) (i : ℕ) → i < length ps →
    tagged_at (put_pointers tag ps) i ≡ put_pointer tag (pointer_at ps i)
pointer_put tag [] i l = let no : ⊥ = omega arith in absurd no
pointer_put tag (p ∷ ps) zero l = refl
pointer_put tag (p ∷ ps) (suc i) l = pointer_put tag ps i (omega arith)

-- its place, even where it has none
place_put : (tag : Term → ℕ) (ps : List Pointer) → (tagged_at (put_pointers tag ps) 0).place ≡ (pointer_at ps 0).place
place_put tag [] = refl
place_put tag (p ∷ ps) = refl

pub looked_put : (tag : Term → ℕ) (w : Site) (k : Lists) →
    looked_place w (put_pointers tag k.sigs) (put_pointers tag k.boxes) ≡ (looked_at w k).place
looked_put tag nowhere k = refl
looked_put tag on_sigs k = place_put tag k.sigs
looked_put tag on_boxes k = place_put tag k.boxes
looked_put tag on_value k = refl

pub long_put : (tag : Term → ℕ) (ps : List Pointer) → length (put_pointers tag ps) ≡ length ps
long_put tag [] = refl
long_put tag (p ∷ ps) = ap suc (long_put tag ps)

-- one of the two words of a cell
word_put : (tag : Term → ℕ) (ws : ℕ → ℕ → Pointer) (n i : ℕ) → i < 2 → put_cells tag ws n i ≡ put_pointer tag (ws n i)
word_put tag ws n zero l = refl
word_put tag ws n (suc zero) l = refl
word_put tag ws n (suc (suc i)) l = let no : ⊥ = omega arith in absurd no

-- a source is there: within so many signatures and boxes, and a part with names is of what is looked at
abbrev pub SourceIn : Site → (sigs boxes : ℕ) → Source → Type 0
SourceIn w m n (a_sig i) = i < m
SourceIn w m n (a_box i) = i < n
SourceIn w m n (a_word i) = i < 2
SourceIn w m n (a_part x) = has_name x ≡ true → has_cell w ≡ true

module _ (tag : Term → ℕ) (m : ModuleRow) (D : RowCircuit) (V : Store) (base : base_of m D ≡ V.top) where
  -- the sources of a first part
  module _ (w : Site) (k : Lists) (sigs : D.sigs ≡ put_pointers tag k.sigs) (boxes : D.boxes ≡ put_pointers tag k.boxes)
      (reads : D.read ≡ put_cells tag V.words (looked_at w k).place) where
    pub first_put : (s : Source) → SourceIn w (length k.sigs) (length k.boxes) s →
        pointer_from m D (first_from tag w s) ≡ put_pointer tag (source_of V (looked_at w k) k s)
    first_put (a_sig i) h = ap (λ ps. tagged_at ps i) sigs ∙ pointer_put tag k.sigs i h
    first_put (a_box i) h = ap (λ ps. tagged_at ps i) boxes ∙ pointer_put tag k.boxes i h
    first_put (a_word i) h = ap (λ (f : ℕ → Tagged). f i) reads ∙ word_put tag V.words (looked_at w k).place i h
    first_put (a_part x) h = go (has_name x) h
      where
        at : (w : Site) → has_cell w ≡ true → pointer_from m D (part_from tag w true x) ≡ tagged (tag x) (looked_at w k).place
        at nowhere e = absurd cc
        at on_sigs e = ap (λ (ps : List Tagged). tagged (tag x) (tagged_at ps 0).place) sigs ∙ ap (tagged (tag x)) (place_put tag k.sigs)
        at on_boxes e = ap (λ (ps : List Tagged). tagged (tag x) (tagged_at ps 0).place) boxes ∙ ap (tagged (tag x)) (place_put tag k.boxes)
        at on_value e = absurd cc

        else_at : (w : Site) → pointer_from m D (part_from tag w false x) ≡ tagged (tag x) V.top
        else_at nowhere = ap (tagged (tag x)) base
        else_at on_sigs = ap (tagged (tag x)) base
        else_at on_boxes = ap (tagged (tag x)) base
        else_at on_value = ap (tagged (tag x)) base

        go : (b : Bool) → (b ≡ true → has_cell w ≡ true) →
            pointer_from m D (part_from tag w b x) ≡ tagged (tag x) (cond b (looked_at w k).place V.top)
        go true h = at w (h refl)
        go false h = else_at w

  -- and those of a second one
  module _ (bs : List Pointer) (k : Lists) (same : k.boxes ≡ bs) (boxes : (innermost D.forks).boxes ≡ put_pointers tag bs)
      (p : Pointer) where
    pub second_put : (s : Source) → SourceIn nowhere 0 (length bs) s → ((i : ℕ) → s ≡ a_word i → ⊥) →
        pointer_from m D (second_from tag s) ≡ put_pointer tag (source_of V p k s)
    second_put (a_sig i) h o = let no : ⊥ = omega arith in absurd no
    second_put (a_box i) h o =
        ap (λ ps. tagged_at ps i) boxes ∙ pointer_put tag bs i h ∙ ap (λ ps. put_pointer tag (pointer_at ps i)) (sym same)
    second_put (a_word i) h o = absurd (o i refl)
    second_put (a_part x) h o =
        ap (tagged (tag x)) base ∙ sym (go (has_name x) h)
      where
        go : (b : Bool) → (b ≡ true → false ≡ true) → tagged (tag x) (cond b p.place V.top) ≡ tagged (tag x) V.top
        go true h = let e = h refl in absurd cc
        go false h = refl

  -- what is made of them
  module _ (g : ℕ → From) (G : ℕ → Pointer) (names : (n : ℕ) → pointer_from m D (g n) ≡ put_pointer tag (G n)) where
    shape_put : (x : Term) → pointer_from m D (shape_pointer tag x) ≡ tagged (tag x) V.top
    shape_put x = go (has_name x)
      where
        go : (b : Bool) → pointer_from m D (cond b (from_new (tag x)) (from_none (tag x))) ≡ tagged (tag x) V.top
        go true = ap (tagged (tag x)) base
        go false = ap (tagged (tag x)) base

    term_put : (x : Term) → pointer_from m D (term_from tag g x) ≡ put_pointer tag (pointer_for G V.top x)
    term_put (named n) = names n
    term_put x = shape_put x

    pub terms_put : (xs : List Term) → pointers_from m D (terms_from tag g xs) ≡ put_pointers tag (pointers_for G V.top xs)
    terms_put [] = refl
    terms_put (x ∷ xs) =
        ap (λ p. p ∷ pointers_from m D (terms_from tag g xs)) (term_put x)
        ∙ ap (λ ps. put_pointer tag (pointer_for G V.top x) ∷ ps) (terms_put xs)

    -- the cells after it
    pub cells_put : D.cells ≡ put_cells tag V.words → m.words ≡ g 0 ∷ g 1 ∷ [] →
        cells_after m D ≡ put_cells tag (stored m.makes V G).words
    cells_put cells words = fun_ext (λ n. go n m.makes (nat_eq n (base_of m D)) (ap (nat_eq n) base))
      where
        made : tagged_at (pointers_from m D m.words) ≡ tagged_at (put_pointer tag (G 0) ∷ put_pointer tag (G 1) ∷ [])
        made =
            ap (λ ss. tagged_at (pointers_from m D ss)) words
            ∙ ap (λ p. tagged_at (p ∷ pointer_from m D (g 1) ∷ [])) (names 0)
            ∙ ap (λ p. tagged_at (put_pointer tag (G 0) ∷ p ∷ [])) (names 1)

        go : (n : ℕ) (b c : Bool) → c ≡ nat_eq n V.top →
            cond (b && c) (tagged_at (pointers_from m D m.words)) (D.cells n) ≡ put_cells tag (stored b V G).words n
        go n false c e = ap (λ (f : ℕ → ℕ → Tagged). f n) cells
        go n true true e =
            made ∙ ap (λ c. tagged_at (put_pointer tag (cond c (two_words G) (V.words n) 0) ∷
            put_pointer tag (cond c (two_words G) (V.words n) 1) ∷ [])) e
        go n true false e =
            ap (λ (f : ℕ → ℕ → Tagged). f n) cells
            ∙ ap (λ c. tagged_at (put_pointer tag (cond c (two_words G) (V.words n) 0) ∷
            put_pointer tag (cond c (two_words G) (V.words n) 1) ∷ [])) e
