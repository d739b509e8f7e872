-- The row that is found after the block has settled.
use Rattle.std.proofs.Common.{◌≡◌, ◌<◌, ◌≤◌, ℕ, zero, suc, ◌+◌, ◌^◌, Bool, true, false, not, ◌&&◌, ◌||◌, cond, List, [], ◌∷◌, ◌++◌, length}
use Rattle.std.proofs.Common.{Option, Some, None, refl, sym, ap, ◌∙◌, arith, subst, ◌⊎◌, inl, inr, nat_eq, nat_lt}
use Rattle.std.proofs.lemmas.Bool.{eq-eqb, cases_eq, ltb-true, and_parts, and_right, not-true, cases_lt}
use Prim.Native.String.{String}
use Rattle.joined_core.specs.Rows.{Site}
use Rattle.verilog_tree.specs.Tree.{Stmt, name, seq, cases, Arms}
use Rattle.verilog_tree.specs.Meaning.{Scope, Store, fit, nonzero, chosen, bits, widest_arm, run, run_arms}
use Rattle.circuit_module.specs.Fixed.{block}
use Rattle.joined_module.specs.Rows.{Sees, sees_nothing, sees_tag, sees_zero, ModuleRow}
use Rattle.joined_module.specs.Names.{found}
use Rattle.joined_module.specs.Fields.{Field, seen_tag, to_field, tag_bits, row_fields}
use Rattle.joined_module.specs.Module.{is_waited, waiting_row, site_at, waiting_at, found_rows, idle_sets, row_stmt_of, rows_at, key_stmt}
use Rattle.joined_module.specs.Module.{later_stmt, key_arms, waiting_rows}
use Rattle.joined_module.specs.Machine.{same_sees, find_row}
use Rattle.joined_found.specs.Found.{Each, each_row, has_key, waiting_found, next_row, next_field, OfFound, sees_at, rows_see, rows_keyed}
use Rattle.joined_found.specs.Found.{SeenIn, no_found}
use Rattle.joined_found.specs.Laws.{FieldFits, NextRow, RowTaken}
use Rattle.joined_found.proofs.Eaches.{each_map, each_told, each_turned}
use Rattle.joined_found.proofs.Fits.{fields_fit, keys_fit, seen_fits, tag_some}
use Rattle.joined_found.proofs.Sets.{found_stmt, idle_leaves, idle_calm, idle_is, found_leaves, found_calm, found_is, RowFits}
use Rattle.joined_found.proofs.Seen.{find_seen, key_finds}
use Rattle.joined_found.proofs.Arms.{at_key, those_at, of_those, no_arm, key_arm_is}
use Rattle.joined_found.proofs.Names.{not_found}
use Rattle.joined_found.proofs.Keys.{key_row, some_there, none_there, key_low, others_are, waits_are}

-- what a check of the table tells of each row
keyed_parts : (m : ℕ) (rows : List ModuleRow) → each_row (λ r. not r.waits && nat_lt r.key m) rows ≡ true →
    Each (λ r. (r.waits ≡ false) × (r.key < m)) rows
keyed_parts m [] h = tt
keyed_parts m (r ∷ rs) h =
    let (a, b) = and_parts (not r.waits && nat_lt r.key m) (each_row (λ r. not r.waits && nat_lt r.key m) rs) h in
    let (c, d) = and_parts (not r.waits) (nat_lt r.key m) a in
    ((not-true r.waits c, ltb-true r.key m d), keyed_parts m rs b)

pub never_waits : (rows : List ModuleRow) → rows_keyed rows ≡ true → Each (λ r. r.waits ≡ false) rows
never_waits rows h =
    each_map (λ r. (r.waits ≡ false) × (r.key < length rows)) (λ r. r.waits ≡ false) (λ r q. q.0) rows (keyed_parts (length rows) rows h)

pub keys_low : (rows : List ModuleRow) → rows_keyed rows ≡ true → Each (λ r. r.key < length rows) rows
keys_low rows h =
    each_map (λ r. (r.waits ≡ false) × (r.key < length rows)) (λ r. r.key < length rows) (λ r q. q.1) rows
    (keyed_parts (length rows) rows h)

see_parts : (k : ℕ) (w : Site) (rows : List ModuleRow) → rows_see rows k w ≡ true → Each (λ r. r.key ≡ k → sees_at w r.sees ≡ true) rows
see_parts k w [] h = tt
see_parts k w (r ∷ rs) h =
    let (a, b) = and_parts (not (nat_eq r.key k) || sees_at w r.sees) (rows_see rs k w) h in
    (λ e. go (nat_eq r.key k) (is_key e) a, see_parts k w rs b)
  where
    is_key : r.key ≡ k → nat_eq r.key k ≡ true
    is_key e = eq-eqb r.key k e

    go : (b : Bool) → b ≡ true → (not b || sees_at w r.sees) ≡ true → sees_at w r.sees ≡ true
    go true q h = h
    go false q h = absurd cc

-- of the rows that the module finds, those of the table
right_part : (p : ModuleRow → Type 0) (xs ys : List ModuleRow) → Each p (xs ++ ys) → Each p ys
right_part p [] ys h = h
right_part p (x ∷ xs) ys h = right_part p xs ys h.1

left_part : (p : ModuleRow → Type 0) (xs ys : List ModuleRow) → Each p (xs ++ ys) → Each p xs
left_part p [] ys h = tt
left_part p (x ∷ xs) ys h = (h.0, left_part p xs ys h.1)

module _ (rows : List ModuleRow) (keyed : rows_keyed rows ≡ true) (fs : List Field) (t b : ℕ) (P : Scope) (S : Store) (later : Bool)
    (k : ℕ) (w : Site) (e : Sees) where
  abbrev R : List ModuleRow
  R = found_rows rows

  abbrev does : Option ModuleRow → Store
  does o = run P (found_stmt fs o) S

  -- where the key has rows, of which one may wait
  later_is : nonzero (S.vec "later") ≡ later → (s : Stmt) → has_key rows k ≡ true →
      ((later && is_waited rows k) ≡ false → run P s S ≡ does (find_row rows k e)) →
      run P (later_stmt fs (waiting_at rows k) s) S ≡ does (next_row rows later k e)
  later_is l s h g = go (is_waited rows k) later refl refl l
    where
      go : (a c : Bool) → is_waited rows k ≡ a → later ≡ c → nonzero (S.vec "later") ≡ later →
          run P (later_stmt fs (cond a (waiting_row k (site_at rows k) ∷ []) []) s) S
          ≡ does (cond (later && a) (waiting_found rows k) (find_row rows k e))
      go true true p q l =
          ap (λ c. chosen c (run P (row_stmt_of fs (waiting_row k (site_at rows k))) S) (run P s S)) (l ∙ q)
          ∙ ap (λ c. does (cond c (Some (waiting_row k (site_at rows k))) None)) (sym h)
          ∙ ap (λ c. does (cond (c && true) (waiting_found rows k) (find_row rows k e))) (sym q)
      go true false p q l =
          ap (λ c. chosen c (run P (row_stmt_of fs (waiting_row k (site_at rows k))) S) (run P s S)) (l ∙ q)
          ∙ g (ap (λ c. c && is_waited rows k) q)
          ∙ ap (λ c. does (cond (c && true) (waiting_found rows k) (find_row rows k e))) (sym q)
      go false c p q l =
          g (and_right later (is_waited rows k) p)
          ∙ ap (λ d. does (cond d (waiting_found rows k) (find_row rows k e))) (sym (and_right later false refl))

  module _ (late : nonzero (S.vec "later") ≡ later) (shows : sees_at w e ≡ true) (sees : rows_see rows k w ≡ true)
      (seen : (later && is_waited rows k) ≡ false → SeenIn t S e) (wide : t ≤ P.width "looked") (low : 1 ≤ t)
      (tags : Each (λ r. seen_tag r < 2 ^ t) R) (keys : Each (λ r. r.key < 2 ^ b) R) where
    seen_low : Each (λ r. seen_tag r < 2 ^ t) rows
    seen_low = right_part (λ r. seen_tag r < 2 ^ t) (waiting_rows rows 0 (length rows)) rows tags

    finds_there : (later && is_waited rows k) ≡ false → run P (key_stmt t fs (rows_at false k rows)) S ≡ does (find_row rows k e)
    finds_there q =
        key_finds P t fs S low wide w e shows (seen q) (rows_at false k rows)
        (those_at (λ r. sees_at w r.sees ≡ true) false k rows (see_parts k w rows sees))
        (of_those (λ r. seen_tag r < 2 ^ t) false k rows seen_low)
        ∙ ap does (key_row k e rows (never_waits rows keyed))

    -- at a key that has none
    none_is : has_key rows k ≡ false → rows_at false k rows ≡ [] → S ≡ does (next_row rows later k e)
    none_is h q = ap does (go (later && is_waited rows k))
      where
        nothing : find_row rows k e ≡ None
        nothing = sym (key_row k e rows (never_waits rows keyed)) ∙ ap (λ l. find_seen l e) q

        go : (c : Bool) → None ≡ cond c (waiting_found rows k) (find_row rows k e)
        go true = ap (λ c. cond c (Some (waiting_row k (site_at rows k))) None) (sym h)
        go false = sym nothing

    at_is : k < length rows → run P (at_key t fs (rows_at true k R) (rows_at false k R)) S ≡ does (next_row rows later k e)
    at_is l =
        ap (λ x. run P (at_key t fs x (rows_at false k R)) S) (waits_are rows (never_waits rows keyed) k l)
        ∙ ap (λ x. run P (at_key t fs (waiting_at rows k) x) S) (others_are rows (never_waits rows keyed) k)
        ∙ go (rows_at false k rows) refl
      where
        go : (l : List ModuleRow) → rows_at false k rows ≡ l → run P (at_key t fs (waiting_at rows k) l) S ≡ does (next_row rows later k e)
        go [] q = none_is (none_there k rows (never_waits rows keyed) q) q
        go (r ∷ rs) q =
            later_is late (key_stmt t fs (r ∷ rs)) (some_there k rows (never_waits rows keyed) r rs q)
            (λ z. ap (λ x. run P (key_stmt t fs x) S) (sym q) ∙ finds_there z)

    no_rows : length rows ≤ k → rows_at false k rows ≡ []
    no_rows l = go (rows_at false k rows) refl
      where
        go : (x : List ModuleRow) → rows_at false k rows ≡ x → x ≡ []
        go [] q = refl
        go (r ∷ rs) q =
            let h = some_there k rows (never_waits rows keyed) r rs q in
            let low = key_low (length rows) k rows (keys_low rows keyed) h in
            absurd (omega arith)

    no_rows_found : (k < length rows → ⊥) → run P (at_key t fs (rows_at true k R) (rows_at false k R)) S ≡ does (next_row rows later k e)
    no_rows_found d =
        ap (λ x. run P (at_key t fs (rows_at true k R) x) S) (others_are rows (never_waits rows keyed) k ∙ none)
        ∙ none_is (none_there k rows (never_waits rows keyed) none) none
      where
        none : rows_at false k rows ≡ []
        none = no_rows (above (cases_lt k (length rows)))
          where
            above : (k < length rows) ⊎ (length rows ≤ k) → length rows ≤ k
            above (inl l) = absurd (d l)
            above (inr l) = l

    cases_is : (v : ℕ) → run_arms P v k (key_arms b t fs R 0 (length R)) S ≡ does (next_row rows later k e)
    cases_is v = go (cases_lt k (length R))
      where
        here : (k < length rows) ⊎ (length rows ≤ k) →
            run P (at_key t fs (rows_at true k R) (rows_at false k R)) S ≡ does (next_row rows later k e)
        here (inl l) = at_is l
        here (inr l) = no_rows_found (λ m. omega arith)

        longer : (xs : List ModuleRow) → length rows ≤ length (xs ++ rows)
        longer [] = omega arith
        longer (x ∷ xs) = let h = longer xs in omega arith

        go : (k < length R) ⊎ (length R ≤ k) → run_arms P v k (key_arms b t fs R 0 (length R)) S ≡ does (next_row rows later k e)
        go (inl l) =
            key_arm_is P b t fs v S R keys k (length R) 0 (omega arith) (omega arith) ∙ here (cases_lt k (length rows))
        go (inr l) =
            let m = longer (waiting_rows rows 0 (length rows)) in
            let none = no_rows (omega arith) in
            no_arm P b t fs v S R keys k (length R) 0 (inr (omega arith))
            ∙ none_is (none_there k rows (never_waits rows keyed) none) none

-- ---- the row that was found is one of those that the module has

find_of : (p : ModuleRow → Type 0) (k : ℕ) (e : Sees) (rows : List ModuleRow) → Each p rows → OfFound p (find_row rows k e)
find_of p k e [] h = tt
find_of p k e (r ∷ rs) h = go (nat_eq r.key k && same_sees r.sees e) (find_of p k e rs h.1)
  where
    go : (b : Bool) → OfFound p (find_row rs k e) → OfFound p (cond b (Some r) (find_row rs k e))
    go true ih = h.0
    go false ih = ih

-- the row that waits at a key that is waited at
waiting_of : (p : ModuleRow → Type 0) (rows : List ModuleRow) (k n j : ℕ) → is_waited rows k ≡ true → j ≤ k → k < j + n →
    Each p (waiting_rows rows j n) → p (waiting_row k (site_at rows k))
waiting_of p rows k zero j h l m e = absurd (omega arith)
waiting_of p rows k (suc n) j h l m e =
    go (cases_eq j k) (λ a b. waiting_of p rows k n (suc j) h a b (right_part p (waiting_at rows j) (waiting_rows rows (suc j) n) e))
  where
    here : (b : Bool) → b ≡ true → Each p (cond b (waiting_row k (site_at rows k) ∷ []) []) → p (waiting_row k (site_at rows k))
    here true q f = f.0
    here false q f = absurd cc

    above : (j ≡ k → ⊥) → (k < suc j) ⊎ (suc j ≤ k) → suc j ≤ k
    above d (inl q) = absurd (d (omega arith))
    above d (inr q) = q

    go : (j ≡ k) ⊎ (j ≡ k → ⊥) → (suc j ≤ k → k < suc j + n → p (waiting_row k (site_at rows k))) → p (waiting_row k (site_at rows k))
    go (inl q) ih =
        here (is_waited rows k) h
        (subst (λ i. Each p (waiting_at rows i)) q (left_part p (waiting_at rows j) (waiting_rows rows (suc j) n) e))
    go (inr d) ih = ih (above d (cases_lt k (suc j))) (omega arith)

pub taken : (p : ModuleRow → Type 0) (rows : List ModuleRow) → rows_keyed rows ≡ true → Each p (found_rows rows) →
    (later : Bool) (k : ℕ) (e : Sees) → OfFound p (next_row rows later k e)
taken p rows keyed h later k e = go later (is_waited rows k) (has_key rows k) refl refl
  where
    table : OfFound p (find_row rows k e)
    table = find_of p k e rows (right_part p (waiting_rows rows 0 (length rows)) rows h)

    go : (l a c : Bool) → is_waited rows k ≡ a → has_key rows k ≡ c →
        OfFound p (cond (l && a) (cond c (Some (waiting_row k (site_at rows k))) None) (find_row rows k e))
    go true true true q i =
        waiting_of p rows k (length rows) 0 q (omega arith)
        (let low = key_low (length rows) k rows (keys_low rows keyed) i in omega arith)
        (left_part p (waiting_rows rows 0 (length rows)) rows h)
    go true true false q i = tt
    go true false c q i = table
    go false a c q i = table

pub row_taken : RowTaken
row_taken p rows keyed h later k e = taken (λ r. p r ≡ true) rows keyed (each_told p (found_rows rows) h) later k e

-- ---- after the block

module _ (rows : List ModuleRow) (keyed : rows_keyed rows ≡ true) (fs : List Field) (t b : ℕ) (low : 1 ≤ t)
    (tags : Each (λ r. seen_tag r < 2 ^ t) (found_rows rows)) (keys : Each (λ r. r.key < 2 ^ b) (found_rows rows)) (P : Scope)
    (wide : t ≤ P.width "looked") (S : Store) (later : Bool) (k : ℕ) (w : Site) (e : Sees) where
  abbrev I : Store
  I = run P (block (idle_sets fs)) S

  abbrev o : Option ModuleRow
  o = next_row rows later k e

  abbrev arms : Arms
  arms = key_arms b t fs (found_rows rows) 0 (length (found_rows rows))

  keeps : (x : String) → no_found fs x ≡ true → I.vec x ≡ S.vec x
  keeps x h = idle_leaves P fs x h S

  seen_still : no_found fs "looked" ≡ true → no_found fs "nonzero" ≡ true → (d : Sees) → SeenIn t S d → SeenIn t I d
  seen_still a c sees_nothing h = tt
  seen_still a c (sees_tag n) h = ap (fit t) (keeps "looked" a) ∙ h
  seen_still a c (sees_zero d) h = keeps "nonzero" c ∙ h

  block_is : no_found fs "goes" ≡ true → no_found fs "later" ≡ true → no_found fs "looked" ≡ true → no_found fs "nonzero" ≡ true →
      S.vec "goes" ≡ k → nonzero (S.vec "later") ≡ later → sees_at w e ≡ true → rows_see rows k w ≡ true →
      ((later && is_waited rows k) ≡ false → SeenIn t S e) →
      run P (seq (block (idle_sets fs)) (cases (name "goes") arms)) S ≡ run P (found_stmt fs o) I
  block_is a c d f goes late shows sees seen =
      ap (λ n. run_arms P (widest_arm P (bits P (name "goes")) arms) n arms I) (keeps "goes" a ∙ goes)
      ∙ cases_is rows keyed fs t b P I later k w e (ap nonzero (keeps "later" c) ∙ late) shows sees (λ q. seen_still d f e (seen q))
      wide low tags keys (widest_arm P (bits P (name "goes")) arms)

row_fits : (P : Scope) (fs : List Field) (o : Option ModuleRow) → OfFound (λ r. Each (λ f. f.at r < 2 ^ f.bits) fs) o → RowFits P fs o
row_fits P fs None h = tt
row_fits P fs (Some r) h = h

-- each found field is that of the row that is found, and all else is as it was
pub next_row_is : NextRow
next_row_is rows keyed apart P scope S later k w e L =
    let R : List ModuleRow = found_rows rows in
    let fs : List Field = row_fields R in
    let I : Store = run P (block (idle_sets fs)) S in
    let o : Option ModuleRow = next_row rows later k e in
    let fit_all : Each (FieldFits R) fs = fields_fit R in
    let each : Each (λ r. Each (λ f. f.at r < 2 ^ f.bits) fs) R = each_turned (λ f r. f.at r < 2 ^ f.bits) fs R
    (each_map (FieldFits R) (λ f. Each (λ r. f.at r < 2 ^ f.bits) R) (λ f h. h.1) fs fit_all) in
    let idle_fits : Each (λ f. f.idle < 2 ^ f.bits) fs = each_map (FieldFits R) (λ f. f.idle < 2 ^ f.bits) (λ f h. h.0) fs fit_all in
    let whole = block_is rows keyed fs (tag_bits R) (to_field R).bits (tag_some R) (seen_fits R) (keys_fit R) P scope.looked S later k w e
    (not_found "goes" refl fs) (not_found "later" refl fs) (not_found "looked" refl fs)
    (not_found "nonzero" refl fs) L.goes L.late L.shows L.sees L.seen in
    record {
      fields = subst (λ (T : Store). Each (λ f. T.vec (found f.title) ≡ next_field f o) fs) (sym whole)
          (found_is P fs o apart scope.fields (row_fits P fs o (taken _ rows keyed each later k e)) I
          (idle_is P fs apart scope.fields idle_fits S));
      others = λ x h. ap (λ (T : Store). T.vec x) whole ∙ found_leaves P fs o x h I ∙ idle_leaves P fs x h S;
      mem = ap (λ (T : Store). T.mem) whole ∙ found_calm P fs o I ∙ idle_calm P fs S;
    }
