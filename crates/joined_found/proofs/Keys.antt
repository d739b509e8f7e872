-- The rows at a key: of the rows that the module finds one waits there at most, and the others are the table's.
use Rattle.std.proofs.Common.{◌≡◌, ◌<◌, ◌≤◌, ℕ, zero, suc, ◌+◌, Bool, true, false, ◌&&◌, ◌||◌, cond, List, [], ◌∷◌, ◌++◌, length}
use Rattle.std.proofs.Common.{Some, refl, sym, ap, ◌∙◌, arith, subst, ⊎_elim, ◌⊎◌, inl, inr, nat_eq}
use Rattle.std.proofs.lemmas.Bool.{and_right, eq-eqb, ne_eqb, eqb-true, cases_eq, cases_lt}
use Rattle.joined_module.specs.Rows.{Sees, ModuleRow}
use Rattle.joined_module.specs.Module.{is_waited, waiting_row, site_at, waiting_at, waiting_rows, found_rows, same_flag, row_if, rows_at}
use Rattle.joined_module.specs.Machine.{same_sees, find_row}
use Rattle.joined_found.specs.Found.{Each, has_key}
use Rattle.joined_found.proofs.Seen.{find_seen}

pub at_append : (c : Bool) (k : ℕ) (xs ys : List ModuleRow) → rows_at c k (xs ++ ys) ≡ rows_at c k xs ++ rows_at c k ys
at_append c k [] ys = refl
at_append c k (x ∷ xs) ys = go (at_append c k xs ys) (nat_eq x.key k && same_flag x.waits c)
  where
    go : rows_at c k (xs ++ ys) ≡ rows_at c k xs ++ rows_at c k ys → (b : Bool) →
        row_if b x (rows_at c k (xs ++ ys)) ≡ row_if b x (rows_at c k xs) ++ rows_at c k ys
    go ih true = ap (λ l. x ∷ l) ih
    go ih false = ih

at_row : (b : Bool) (r : ModuleRow) (rs : List ModuleRow) → row_if (b && true) r rs ≡ row_if b r rs
at_row true r rs = refl
at_row false r rs = refl

-- ---- rows that wait

module _ (rows : List ModuleRow) where
  -- they are none of the others
  waiting_off : (k n j : ℕ) → rows_at false k (waiting_rows rows j n) ≡ []
  waiting_off k zero j = refl
  waiting_off k (suc n) j =
      at_append false k (waiting_at rows j) (waiting_rows rows (suc j) n)
      ∙ ap (λ l. l ++ rows_at false k (waiting_rows rows (suc j) n)) (go (is_waited rows j)) ∙ waiting_off k n (suc j)
    where
      go : (b : Bool) → rows_at false k (cond b (waiting_row j (site_at rows j) ∷ []) []) ≡ []
      go true = ap (λ b. row_if b (waiting_row j (site_at rows j)) []) (and_right (nat_eq j k) false refl)
      go false = refl

  -- at another key
  waiting_other : (k j : ℕ) → (j ≡ k → ⊥) → rows_at true k (waiting_at rows j) ≡ []
  waiting_other k j d = go (is_waited rows j)
    where
      go : (b : Bool) → rows_at true k (cond b (waiting_row j (site_at rows j) ∷ []) []) ≡ []
      go true = ap (λ b. row_if (b && true) (waiting_row j (site_at rows j)) []) (ne_eqb j k d)
      go false = refl

  waiting_own : (k : ℕ) → rows_at true k (waiting_at rows k) ≡ waiting_at rows k
  waiting_own k = go (is_waited rows k)
    where
      go : (b : Bool) → rows_at true k (cond b (waiting_row k (site_at rows k) ∷ []) []) ≡ cond b (waiting_row k (site_at rows k) ∷ []) []
      go true = ap (λ b. row_if (b && true) (waiting_row k (site_at rows k)) []) (eq-eqb k k refl)
      go false = refl

  waiting_none : (k n j : ℕ) → (k < j) ⊎ (j + n ≤ k) → rows_at true k (waiting_rows rows j n) ≡ []
  waiting_none k zero j h = refl
  waiting_none k (suc n) j h =
      at_append true k (waiting_at rows j) (waiting_rows rows (suc j) n)
      ∙ ap (λ l. l ++ rows_at true k (waiting_rows rows (suc j) n)) (waiting_other k j (apart h)) ∙ waiting_none k n (suc j) (further h)
    where
      apart : (k < j) ⊎ (j + suc n ≤ k) → j ≡ k → ⊥
      apart (inl l) e = omega arith
      apart (inr l) e = omega arith

      further : (k < j) ⊎ (j + suc n ≤ k) → (k < suc j) ⊎ (suc j + n ≤ k)
      further (inl l) = inl (omega arith)
      further (inr l) = inr (omega arith)

  append_nil : (xs : List ModuleRow) → xs ++ [] ≡ xs
  append_nil [] = refl
  append_nil (x ∷ xs) = ap (λ l. x ∷ l) (append_nil xs)

  waiting_one : (k n j : ℕ) → j ≤ k → k < j + n → rows_at true k (waiting_rows rows j n) ≡ waiting_at rows k
  waiting_one k zero j l m = absurd (omega arith)
  waiting_one k (suc n) j l m = at_append true k (waiting_at rows j) (waiting_rows rows (suc j) n)
      ∙ go (waiting_one k n (suc j)) (cases_eq j k)
    where
      above : (j ≡ k → ⊥) → suc j ≤ k
      above d = ⊎_elim (λ (q : k < suc j). absurd (d (omega arith))) (λ q. q) (cases_lt k (suc j))

      go : (suc j ≤ k → k < suc j + n → rows_at true k (waiting_rows rows (suc j) n) ≡ waiting_at rows k) →
          (j ≡ k) ⊎ (j ≡ k → ⊥) → rows_at true k (waiting_at rows j) ++ rows_at true k (waiting_rows rows (suc j) n) ≡ waiting_at rows k
      go ih (inl e) =
          ap (λ x. rows_at true k (waiting_at rows j) ++ x) (waiting_none k n (suc j) (inl (omega arith)))
          ∙ append_nil (rows_at true k (waiting_at rows j)) ∙ ap (λ i. rows_at true k (waiting_at rows i)) e ∙ waiting_own k
      go ih (inr d) =
          ap (λ x. x ++ rows_at true k (waiting_rows rows (suc j) n)) (waiting_other k j d)
          ∙ ih (above d) (omega arith)

-- ---- those of a table, of which none waits

none_waits : (k : ℕ) (rows : List ModuleRow) → Each (λ r. r.waits ≡ false) rows → rows_at true k rows ≡ []
none_waits k [] h = refl
none_waits k (r ∷ rs) h =
    ap (λ b. row_if (nat_eq r.key k && same_flag b true) r (rows_at true k rs)) h.0
    ∙ ap (λ b. row_if b r (rows_at true k rs)) (and_right (nat_eq r.key k) false refl) ∙ none_waits k rs h.1

-- the row of the key and of what is seen is the first there that sees it
pub key_row : (k : ℕ) (e : Sees) (rows : List ModuleRow) → Each (λ r. r.waits ≡ false) rows →
    find_seen (rows_at false k rows) e ≡ find_row rows k e
key_row k e [] h = refl
key_row k e (r ∷ rs) h =
    ap (λ b. find_seen (row_if (nat_eq r.key k && same_flag b false) r (rows_at false k rs)) e) h.0
    ∙ ap (λ l. find_seen l e) (at_row (nat_eq r.key k) r (rows_at false k rs)) ∙ go (key_row k e rs h.1) (nat_eq r.key k)
  where
    go : find_seen (rows_at false k rs) e ≡ find_row rs k e → (b : Bool) →
        find_seen (row_if b r (rows_at false k rs)) e ≡ cond (b && same_sees r.sees e) (Some r) (find_row rs k e)
    go ih true = ap (cond (same_sees r.sees e) (Some r)) ih
    go ih false = ih

-- whether a key has rows
pub some_there : (k : ℕ) (rows : List ModuleRow) → Each (λ r. r.waits ≡ false) rows → (r : ModuleRow) (rs : List ModuleRow) →
    rows_at false k rows ≡ r ∷ rs → has_key rows k ≡ true
some_there k [] h r rs e = absurd cc
some_there k (x ∷ xs) h r rs e = go (some_there k xs h.1 r rs) (nat_eq x.key k) refl
  where
    go : (rows_at false k xs ≡ r ∷ rs → has_key xs k ≡ true) → (b : Bool) → nat_eq x.key k ≡ b → (b || has_key xs k) ≡ true
    go ih true q = refl
    go ih false q = ih (ap (λ b. row_if (b && same_flag x.waits false) x (rows_at false k xs)) (sym_of q) ∙ e)
      where
        sym_of : nat_eq x.key k ≡ false → false ≡ nat_eq x.key k
        sym_of h = cc

pub none_there : (k : ℕ) (rows : List ModuleRow) → Each (λ r. r.waits ≡ false) rows → rows_at false k rows ≡ [] → has_key rows k ≡ false
none_there k [] h e = refl
none_there k (x ∷ xs) h e = go (none_there k xs h.1) (nat_eq x.key k) (whole ∙ e)
  where
    whole : row_if (nat_eq x.key k) x (rows_at false k xs) ≡ rows_at false k (x ∷ xs)
    whole = sym (ap (λ b. row_if (nat_eq x.key k && same_flag b false) x (rows_at false k xs)) h.0
        ∙ at_row (nat_eq x.key k) x (rows_at false k xs))

    go : (rows_at false k xs ≡ [] → has_key xs k ≡ false) → (b : Bool) → row_if b x (rows_at false k xs) ≡ [] →
        (b || has_key xs k) ≡ false
    go ih true q = absurd cc
    go ih false q = ih q

-- a key that has rows is one of theirs
pub key_low : (m k : ℕ) (rows : List ModuleRow) → Each (λ r. r.key < m) rows → has_key rows k ≡ true → k < m
key_low m k [] h e = absurd cc
key_low m k (r ∷ rs) h e = go (key_low m k rs h.1) (nat_eq r.key k) refl e
  where
    go : (has_key rs k ≡ true → k < m) → (b : Bool) → nat_eq r.key k ≡ b → (b || has_key rs k) ≡ true → k < m
    go ih true q e = subst (λ n. n < m) (eqb-true r.key k q) h.0
    go ih false q e = ih e

-- ---- all that the module finds

module _ (rows : List ModuleRow) (never : Each (λ r. r.waits ≡ false) rows) (k : ℕ) where
  pub others_are : rows_at false k (found_rows rows) ≡ rows_at false k rows
  others_are =
      at_append false k (waiting_rows rows 0 (length rows)) rows
      ∙ ap (λ l. l ++ rows_at false k rows) (waiting_off rows k (length rows) 0)

  pub waits_are : k < length rows → rows_at true k (found_rows rows) ≡ waiting_at rows k
  waits_are l =
      at_append true k (waiting_rows rows 0 (length rows)) rows
      ∙ ap (λ x. rows_at true k (waiting_rows rows 0 (length rows)) ++ x) (none_waits k rows never)
      ∙ append_nil rows (rows_at true k (waiting_rows rows 0 (length rows)))
      ∙ waiting_one rows k (length rows) 0 (omega arith) (omega arith)
