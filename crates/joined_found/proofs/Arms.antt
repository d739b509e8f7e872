-- The arm of a key: it is taken where the token comes to that key, and where the key has no rows nothing is done.
use Rattle.std.proofs.Common.{◌≡◌, ◌<◌, ◌≤◌, ℕ, zero, suc, ◌+◌, ◌^◌, Bool, true, false, ◌&&◌, ◌||◌, List, [], ◌∷◌, refl, sym, ap, ◌∙◌}
use Rattle.std.proofs.Common.{arith, subst, ⊎_elim, ◌⊎◌, inl, inr, nat_eq}
use Rattle.std.proofs.lemmas.Bool.{eq-eqb, ne_eqb, eqb-true, cases_eq, cases_lt}
use Rattle.verilog_tree.specs.Tree.{Stmt, skip, Arms}
use Rattle.verilog_tree.specs.Meaning.{Scope, Store, chosen, run, run_arms}
use Rattle.verilog_tree.proofs.Numbers.{fits}
use Rattle.joined_module.specs.Rows.{ModuleRow}
use Rattle.joined_module.specs.Fields.{Field}
use Rattle.joined_module.specs.Module.{same_flag, row_if, rows_at, key_stmt, later_stmt, key_arm, key_arms}
use Rattle.joined_found.specs.Found.{Each}

-- what is done at a key: nothing where it has no rows
abbrev pub at_key : ℕ → List Field → (waits sees : List ModuleRow) → Stmt
at_key t fs ws [] = skip
at_key t fs ws (r ∷ rs) = later_stmt fs ws (key_stmt t fs (r ∷ rs))

-- what holds of all rows holds of those at a key
pub of_those : (p : ModuleRow → Type 0) (c : Bool) (k : ℕ) (rows : List ModuleRow) → Each p rows → Each p (rows_at c k rows)
of_those p c k [] h = tt
of_those p c k (r ∷ rs) h = go (nat_eq r.key k && same_flag r.waits c) (of_those p c k rs h.1)
  where
    go : (b : Bool) → Each p (rows_at c k rs) → Each p (row_if b r (rows_at c k rs))
    go true ih = (h.0, ih)
    go false ih = ih

-- they have the key
pub those_at : (p : ModuleRow → Type 0) (c : Bool) (k : ℕ) (rows : List ModuleRow) → Each (λ r. r.key ≡ k → p r) rows →
    Each p (rows_at c k rows)
those_at p c k [] h = tt
those_at p c k (r ∷ rs) h = go (nat_eq r.key k) (same_flag r.waits c) refl (those_at p c k rs h.1)
  where
    go : (a b : Bool) → nat_eq r.key k ≡ a → Each p (rows_at c k rs) → Each p (row_if (a && b) r (rows_at c k rs))
    go true true e ih = (h.0 (eqb-true r.key k e), ih)
    go true false e ih = ih
    go false b e ih = ih

module _ (P : Scope) (b t : ℕ) (fs : List Field) (w : ℕ) (S : Store) where
  -- another key's arm
  other_arm : (k j : ℕ) (ws rs : List ModuleRow) (arms : Arms) → (k ≡ j → ⊥) → Each (λ r. j < 2 ^ b) rs →
      run_arms P w k (key_arm b t fs j ws rs arms) S ≡ run_arms P w k arms S
  other_arm k j ws [] arms d l = refl
  other_arm k j ws (r ∷ rs) arms d l =
      ap (λ n. chosen (nat_eq k n || false) (run P (later_stmt fs ws (key_stmt t fs (r ∷ rs))) S) (run_arms P w k arms S)) (fits b j l.0)
      ∙ ap (λ c. chosen (c || false) (run P (later_stmt fs ws (key_stmt t fs (r ∷ rs))) S) (run_arms P w k arms S)) (ne_eqb k j d)

  -- its own
  own_arm : (k j : ℕ) (ws rs : List ModuleRow) (arms : Arms) → k ≡ j → Each (λ r. j < 2 ^ b) rs → run_arms P w k arms S ≡ S →
      run_arms P w k (key_arm b t fs j ws rs arms) S ≡ run P (at_key t fs ws rs) S
  own_arm k j ws [] arms d l e = e
  own_arm k j ws (r ∷ rs) arms d l e =
      ap (λ n. chosen (nat_eq k n || false) (run P (later_stmt fs ws (key_stmt t fs (r ∷ rs))) S) (run_arms P w k arms S)) (fits b j l.0)
      ∙ ap (λ c. chosen (c || false) (run P (later_stmt fs ws (key_stmt t fs (r ∷ rs))) S) (run_arms P w k arms S)) (eq-eqb k j d)

  module _ (R : List ModuleRow) (low : Each (λ r. r.key < 2 ^ b) R) where
    label_low : (j : ℕ) → Each (λ r. j < 2 ^ b) (rows_at false j R)
    label_low j = those_at (λ r. j < 2 ^ b) false j R (go R low)
      where
        go : (rs : List ModuleRow) → Each (λ r. r.key < 2 ^ b) rs → Each (λ r. r.key ≡ j → j < 2 ^ b) rs
        go [] h = tt
        go (r ∷ rs) h = (λ e. subst (λ n. n < 2 ^ b) e h.0, go rs h.1)

    -- a key that isn't one of these
    pub no_arm : (k n j : ℕ) → (k < j) ⊎ (j + n ≤ k) → run_arms P w k (key_arms b t fs R j n) S ≡ S
    no_arm k zero j h = refl
    no_arm k (suc n) j h =
        other_arm k j (rows_at true j R) (rows_at false j R) (key_arms b t fs R (suc j) n) (apart h) (label_low j)
        ∙ no_arm k n (suc j) (further h)
      where
        apart : (k < j) ⊎ (j + suc n ≤ k) → k ≡ j → ⊥
        apart (inl l) e = omega arith
        apart (inr l) e = omega arith

        further : (k < j) ⊎ (j + suc n ≤ k) → (k < suc j) ⊎ (suc j + n ≤ k)
        further (inl l) = inl (omega arith)
        further (inr l) = inr (omega arith)

    -- and one that is
    pub key_arm_is : (k n j : ℕ) → j ≤ k → k < j + n →
        run_arms P w k (key_arms b t fs R j n) S ≡ run P (at_key t fs (rows_at true k R) (rows_at false k R)) S
    key_arm_is k zero j l m = absurd (omega arith)
    key_arm_is k (suc n) j l m = go (key_arm_is k n (suc j)) (cases_eq k j)
      where
        above : (k ≡ j → ⊥) → suc j ≤ k
        above d = ⊎_elim (λ (q : k < suc j). absurd (d (omega arith))) (λ q. q) (cases_lt k (suc j))

        go : (suc j ≤ k → k < suc j + n →
            run_arms P w k (key_arms b t fs R (suc j) n) S ≡ run P (at_key t fs (rows_at true k R) (rows_at false k R)) S) →
            (k ≡ j) ⊎ (k ≡ j → ⊥) →
            run_arms P w k (key_arms b t fs R j (suc n)) S ≡ run P (at_key t fs (rows_at true k R) (rows_at false k R)) S
        go ih (inl e) =
            own_arm k j (rows_at true j R) (rows_at false j R) (key_arms b t fs R (suc j) n) e (label_low j)
            (no_arm k n (suc j) (inl (omega arith)))
            ∙ ap (λ i. run P (at_key t fs (rows_at true i R) (rows_at false i R)) S) (sym e)
        go ih (inr d) =
            other_arm k j (rows_at true j R) (rows_at false j R) (key_arms b t fs R (suc j) n) d (label_low j)
            ∙ ih (above d) (omega arith)
