-- A row is found by the numbers of its key and its shape.
use Rattle.std.proofs.Common.{◌≡◌, ◌<◌, ℕ, suc, Bool, true, false, cond, List, [], ◌∷◌, length, Option, Some, None}
use Rattle.std.proofs.Common.{refl, sym, ap, ◌∙◌, subst, arith}
use Rattle.std.specs.Prelude.{nat_eq, nat_lt, ◌&&◌}
use Rattle.std.proofs.lemmas.Bool.{eq-eqb, ne_eqb, and_parts, ltb-true}
use Rattle.net_rows.proofs.Small.{not_full}
use Rattle.joined_rows.specs.Open.{Term}
use Rattle.joined_core.specs.Rows.{Key, Site, Seen, nothing, shaped, zero_is, Way, onwards, answers_run, answers_fork, JoinedRow}
use Rattle.joined_core.specs.Same.{same_bool, same_key, same_term, same_seen}
use Rattle.joined_core.specs.Listed.{Entry, find}
use Rattle.joined_core.specs.Numbers.{key_number}
use Rattle.joined_core.proofs.Same.{key_is, term_is, seen_is}
use Rattle.joined_core.proofs.Numbers.{AllIn, all_in, number_key}
use Rattle.joined_module.specs.Rows.{ModuleRow, Numbering, term_place, with_seen, seen_shapes}
use Rattle.joined_module.specs.Rows.{numbering, row_sees, row_by_way, module_row, module_rows}
use Rattle.joined_module.specs.Machine.{same_bit, same_sees, find_row}
use Rattle.joined_numbers.specs.At.{row_at, entries_at}
use Rattle.joined_numbers.proofs.Self.{term_self}

-- two terms of one place that is one of the list are the same
places_differ : (xs : List Term) (x y : Term) → term_place xs x < length xs → term_place xs x ≡ term_place xs y → x ≡ y
places_differ [] x y l e = let no : ⊥ = omega arith in absurd no
places_differ (z ∷ xs) x y l e = go (same_term z x) (same_term z y) refl refl l e (λ l e. places_differ xs x y l e)
  where
    go : (a b : Bool) → same_term z x ≡ a → same_term z y ≡ b → cond a 0 (suc (term_place xs x)) < suc (length xs) →
        cond a 0 (suc (term_place xs x)) ≡ cond b 0 (suc (term_place xs y)) →
        (term_place xs x < length xs → term_place xs x ≡ term_place xs y → x ≡ y) → x ≡ y
    go true true p q l e rest = sym (term_is z x p) ∙ term_is z y q
    go true false p q l e rest = let no : ⊥ = omega arith in absurd no
    go false true p q l e rest = let no : ⊥ = omega arith in absurd no
    go false false p q l e rest = rest (omega arith) (omega arith)

-- places are equal just where terms are
place_term : (xs : List Term) (x y : Term) → term_place xs x < length xs → nat_eq (term_place xs x) (term_place xs y) ≡ same_term x y
place_term xs x y l = go (same_term x y) refl
  where
    go : (b : Bool) → same_term x y ≡ b → nat_eq (term_place xs x) (term_place xs y) ≡ b
    go true e = eq-eqb (term_place xs x) (term_place xs y) (ap (term_place xs) (term_is x y e))
    go false e = ne_eqb (term_place xs x) (term_place xs y)
        (λ q. not_full (sym (term_self x) ∙ ap (same_term x) (places_differ xs x y l q) ∙ e))

-- a shape that is seen is one of these
abbrev SeenIn : List Term → Seen → Type 0
SeenIn xs nothing = Unit {0}
SeenIn xs (shaped x) = term_place xs x < length xs
SeenIn xs (zero_is b) = Unit {0}

abbrev AllSeen : List Term → List Entry → Type 0
AllSeen xs [] = Unit {0}
AllSeen xs (e ∷ es) = SeenIn xs e.seen × AllSeen xs es

seen_more : (y : Term) (xs : List Term) (e : Seen) → SeenIn xs e → SeenIn (y ∷ xs) e
seen_more y xs nothing h = tt
seen_more y xs (zero_is b) h = tt
seen_more y xs (shaped x) h = go (same_term y x) h
  where
    go : (b : Bool) → term_place xs x < length xs → cond b 0 (suc (term_place xs x)) < suc (length xs)
    go true l = omega arith
    go false l = omega arith

with_more : (e f : Seen) (xs : List Term) → SeenIn xs f → SeenIn (with_seen e xs) f
with_more nothing f xs h = h
with_more (zero_is b) f xs h = h
with_more (shaped x) f xs h = go (nat_lt (term_place xs x) (length xs))
  where
    go : (b : Bool) → SeenIn (cond b xs (x ∷ xs)) f
    go true = h
    go false = seen_more x xs f h

with_it : (e : Seen) (xs : List Term) → SeenIn (with_seen e xs) e
with_it nothing xs = tt
with_it (zero_is b) xs = tt
with_it (shaped x) xs = go (nat_lt (term_place xs x) (length xs)) refl
  where
    go : (b : Bool) → nat_lt (term_place xs x) (length xs) ≡ b → SeenIn (cond b xs (x ∷ xs)) (shaped x)
    go true e = ltb-true (term_place xs x) (length xs) e
    go false e = subst (λ b. cond b 0 (suc (term_place xs x)) < suc (length xs)) (sym (term_self x)) (omega arith)

all_more : (e : Seen) (xs : List Term) (es : List Entry) → AllSeen xs es → AllSeen (with_seen e xs) es
all_more e xs [] h = tt
all_more e xs (f ∷ es) h = (with_more e f.seen xs h.0, all_more e xs es h.1)

all_seen : (es : List Entry) → AllSeen (seen_shapes es) es
all_seen [] = tt
all_seen (e ∷ es) = (with_it e.seen (seen_shapes es), all_more e.seen (seen_shapes es) es (all_seen es))

bit_bool : (a b : Bool) → same_bit a b ≡ same_bool a b
bit_bool true b = refl
bit_bool false true = refl
bit_bool false false = refl

-- what is seen is the same by its tag
sees_seen : (xs : List Term) (e f : Seen) → SeenIn xs e → same_sees (row_sees (term_place xs) e) (row_sees
    (term_place xs) f) ≡ same_seen e f
sees_seen xs nothing nothing h = refl
sees_seen xs nothing (shaped y) h = refl
sees_seen xs nothing (zero_is b) h = refl
sees_seen xs (shaped x) nothing h = refl
sees_seen xs (shaped x) (shaped y) h = place_term xs x y h
sees_seen xs (shaped x) (zero_is b) h = refl
sees_seen xs (zero_is a) nothing h = refl
sees_seen xs (zero_is a) (shaped y) h = refl
sees_seen xs (zero_is a) (zero_is b) h = bit_bool a b

-- a row's key and what it sees
pub row_key : (N : Numbering) (e : Entry) → (module_row N e).key ≡ N.key e.key
row_key N e = go e.row.way
  where
    go : (w : Way) → (row_by_way N e w).key ≡ N.key e.key
    go onwards = refl
    go answers_run = refl
    go (answers_fork q) = refl

pub row_seen : (N : Numbering) (e : Entry) → (module_row N e).sees ≡ row_sees N.tag e.seen
row_seen N e = go e.row.way
  where
    go : (w : Way) → (row_by_way N e w).sees ≡ row_sees N.tag e.seen
    go onwards = refl
    go answers_run = refl
    go (answers_fork q) = refl

-- the first entry of a key and of what is seen
abbrev pub find_entry : List Entry → Key → Seen → Option Entry
find_entry [] k e = None
find_entry (x ∷ xs) k e = cond (same_key x.key k && same_seen x.seen e) (Some x) (find_entry xs k e)

abbrev pub entry_row : (ℕ → ℕ) → Option Entry → Option JoinedRow
entry_row ps None = None
entry_row ps (Some x) = Some (row_at ps x.row)

abbrev pub entry_number : Numbering → Option Entry → Option ModuleRow
entry_number N None = None
entry_number N (Some x) = Some (module_row N x)

-- the row of a table at some numbers of its ports
pub found_at : (ps : ℕ → ℕ) (es : List Entry) (k : Key) (e : Seen) → find (entries_at ps es) k e ≡ entry_row ps (find_entry es k e)
found_at ps [] k e = refl
found_at ps (x ∷ xs) k e = go (same_key x.key k && same_seen x.seen e) (found_at ps xs k e)
  where
    go : (b : Bool) → find (entries_at ps xs) k e ≡ entry_row ps (find_entry xs k e) →
        cond b (Some (row_at ps x.row)) (find (entries_at ps xs) k e) ≡ entry_row ps (cond b (Some x) (find_entry xs k e))
    go true h = refl
    go false h = h

-- it is found at its own key and by what it sees
pub entry_is : (es : List Entry) (k : Key) (e : Seen) (x : Entry) → find_entry es k e ≡ Some x → (x.key ≡ k) × (x.seen ≡ e)
entry_is [] k e x h = absurd cc
entry_is (y ∷ ys) k e x h = go (same_key y.key k && same_seen y.seen e) refl h (λ h. entry_is ys k e x h)
  where
    go : (b : Bool) → (same_key y.key k && same_seen y.seen e) ≡ b → cond b (Some y) (find_entry ys k e) ≡ Some x →
        (find_entry ys k e ≡ Some x → (x.key ≡ k) × (x.seen ≡ e)) → (x.key ≡ k) × (x.seen ≡ e)
    go true q h rest =
        let s = and_parts (same_key y.key k) (same_seen y.seen e) q in
        let same : y ≡ x = cc in
        subst (λ (x : Entry). (x.key ≡ k) × (x.seen ≡ e)) same (key_is y.key k s.0, seen_is y.seen e s.1)
    go false q h rest = rest h

-- a fact of all entries is one of the entry that is found
pub entry_has : (P : Entry → Bool) (all : List Entry → Bool) → ((x : Entry) (xs : List Entry) → all (x ∷ xs) ≡ (P x && all xs)) →
    (es : List Entry) (k : Key) (e : Seen) (x : Entry) → all es ≡ true → find_entry es k e ≡ Some x → P x ≡ true
entry_has P all step [] k e x h f = absurd cc
entry_has P all step (y ∷ ys) k e x h f =
    go (same_key y.key k && same_seen y.seen e) f (λ f. entry_has P all step ys k e x p.1 f)
  where
    p : (P y ≡ true) × (all ys ≡ true)
    p = and_parts (P y) (all ys) (sym (step y ys) ∙ h)

    go : (b : Bool) → cond b (Some y) (find_entry ys k e) ≡ Some x → (find_entry ys k e ≡ Some x → P x ≡ true) → P x ≡ true
    go true f rest = let same : y ≡ x = cc in subst (λ x. P x ≡ true) same p.0
    go false f rest = rest f

-- among some entries of the table the numbers find the row of the entry that is found
found_in : (sites : List (ℕ × Site)) (es xs : List Entry) (k : Key) (e : Seen) → AllIn es xs → AllSeen (seen_shapes es) xs →
    find_row (module_rows (numbering sites es) xs) (key_number es k) (row_sees (term_place (seen_shapes es)) e)
    ≡ entry_number (numbering sites es) (find_entry xs k e)
found_in sites es [] k e h s = refl
found_in sites es (x ∷ xs) k e h s =
    ap (λ b. cond b (Some (module_row N x)) (find_row (module_rows N xs) (key_number es k) (row_sees N.tag e))) same
    ∙ ap (cond (same_key x.key k && same_seen x.seen e) (Some (module_row N x))) (found_in sites es xs k e h.1 s.1)
    ∙ go (same_key x.key k && same_seen x.seen e)
  where
    N : Numbering
    N = numbering sites es

    same : (nat_eq (module_row N x).key (key_number es k) && same_sees (module_row N x).sees (row_sees N.tag e))
        ≡ (same_key x.key k && same_seen x.seen e)
    same =
        ap (λ n. nat_eq n (key_number es k) && same_sees (module_row N x).sees (row_sees N.tag e)) (row_key N x)
        ∙ ap (λ b. b && same_sees (module_row N x).sees (row_sees N.tag e)) (number_key es x.key k h.0)
        ∙ ap (λ q. same_key x.key k && same_sees q (row_sees N.tag e)) (row_seen N x)
        ∙ ap (λ b. same_key x.key k && b) (sees_seen (seen_shapes es) x.seen e s.0)

    go : (b : Bool) → cond b (Some (module_row N x)) (entry_number N (find_entry xs k e)) ≡ entry_number N (cond b (Some x)
        (find_entry xs k e))
    go true = refl
    go false = refl

-- what the numbers find is the row of the table
pub row_found_by : (sites : List (ℕ × Site)) (es : List Entry) (k : Key) (e : Seen) →
    find_row (module_rows (numbering sites es) es) (key_number es k) (row_sees (term_place (seen_shapes es)) e)
    ≡ entry_number (numbering sites es) (find_entry es k e)
row_found_by sites es k e = found_in sites es es k e (all_in es) (all_seen es)
