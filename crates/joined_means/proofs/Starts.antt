-- At a table's start nothing is looked at, and no row waits; and a row that ends a run makes nothing.
use Rattle.std.proofs.Common.{◌≡◌, ◌⊎◌, ◌<◌, ℕ, Bool, true, false, not, ◌||◌, List, [], ◌∷◌, length, refl, sym, ap, ◌∙◌}
use Rattle.std.proofs.Common.{subst, inl, inr}
use Rattle.std.proofs.Common.{⊎_elim}
use Rattle.std.specs.Prelude.{nat_eq, ◌&&◌}
use Rattle.std.proofs.lemmas.Bool.{and_from, eqb-true, eq-eqb}
use Rattle.joined_core.specs.Rows.{Key, key_of, Site, nowhere, Way, onwards, answers_run, answers_fork}
use Rattle.joined_core.specs.Numbers.{key_number}
use Rattle.joined_core.specs.Listed.{Entry, site_of}
use Rattle.joined_core.proofs.Numbers.{AllIn, all_in, number_key}
use Rattle.joined_core.proofs.Same.{key_is}
use Rattle.joined_module.specs.Rows.{ModuleRow, Numbering, numbering, row_by_way, module_row, module_rows, is_new_cell}
use Rattle.joined_module.specs.Rows.{looks_at}
use Rattle.joined_module.specs.Fields.{at_value, changes, sees_later}
use Rattle.joined_module.specs.Module.{is_waited}
use Rattle.joined_found.specs.Found.{each_row, has_key}
use Rattle.joined_edges.specs.Timed.{ends_calm}
use Rattle.joined_numbers.proofs.Found.{row_key}

-- ---- a row that ends

calm_row : (N : Numbering) (e : Entry) → ends_calm (module_row N e) ≡ true
calm_row N e = go e.row.way
  where
    go : (w : Way) → ends_calm (row_by_way N e w) ≡ true
    go onwards = refl
    go answers_run = refl
    go (answers_fork q) = refl

pub calm_rows : (N : Numbering) (es : List Entry) → each_row ends_calm (module_rows N es) ≡ true
calm_rows N [] = refl
calm_rows N (e ∷ es) = and_from (ends_calm (module_row N e)) (each_row ends_calm (module_rows N es)) (calm_row N e) (calm_rows N es)

-- ---- a row that waits

-- none waits for what isn't looked at
looks_none : (r : ModuleRow) → r.site ≡ nowhere → sees_later r ≡ false
looks_none r h =
    ap (λ w. (at_value w && changes r.worth) || is_new_cell (looks_at r.waits w r.sigs r.boxes)) h ∙ go r.waits
  where
    go : (b : Bool) → is_new_cell (looks_at b nowhere r.sigs r.boxes) ≡ false
    go true = refl
    go false = refl

-- where a row goes it looks as the key's site says
goes_at : (N : Numbering) (e : Entry) → ((k : Key) × ((module_row N e).to ≡ N.key k) × ((module_row N e).site ≡ N.site k))
    ⊎ ((module_row N e).site ≡ nowhere)
goes_at N e = go e.row.way
  where
    go : (w : Way) → ((k : Key) × ((row_by_way N e w).to ≡ N.key k) × ((row_by_way N e w).site ≡ N.site k))
        ⊎ ((row_by_way N e w).site ≡ nowhere)
    go onwards = inl (key_of e.row.to.live, refl, refl)
    go answers_run = inr refl
    go (answers_fork q) = inl (key_of q.to.live, refl, refl)

and_false : (a b : Bool) → (b ≡ true → a ≡ false) → (a && b) ≡ false
and_false true true h = h refl
and_false true false h = refl
and_false false b h = refl

-- so none waits at a key that has rows, where nothing is looked at
none_waits : (sites : List (ℕ × Site)) (es xs : List Entry) (k : Key) → site_of sites k ≡ nowhere → key_number es k < length es →
    is_waited (module_rows (numbering sites es) xs) (key_number es k) ≡ false
none_waits sites es [] k w l = refl
none_waits sites es (x ∷ xs) k w l =
    ap (λ b. b || is_waited (module_rows N xs) (key_number es k))
    (and_false (sees_later (module_row N x)) (nat_eq (module_row N x).to (key_number es k)) later) ∙ none_waits sites es xs k w l
  where
    N : Numbering
    N = numbering sites es

    later : nat_eq (module_row N x).to (key_number es k) ≡ true → sees_later (module_row N x) ≡ false
    later e =
        ⊎_elim
        (λ q. let same : key_number es k ≡ key_number es q.0 = sym (eqb-true (module_row N x).to (key_number es k) e) ∙ q.1 in
        let is : k ≡ q.0 = key_is k q.0 (sym (number_key es k q.0 l) ∙ eq-eqb (key_number es k) (key_number es q.0) same) in
        looks_none (module_row N x) (q.2 ∙ ap (site_of sites) (sym is) ∙ w))
        (λ h. looks_none (module_row N x) h) (goes_at N x)

-- a key that has rows is one of the list
keyed_low : (sites : List (ℕ × Site)) (es xs : List Entry) (k : Key) → AllIn es xs →
    has_key (module_rows (numbering sites es) xs) (key_number es k) ≡ true → key_number es k < length es
keyed_low sites es [] k i h = absurd cc
keyed_low sites es (x ∷ xs) k i h =
    go (nat_eq (module_row N x).key (key_number es k)) refl h (λ h. keyed_low sites es xs k i.1 h)
  where
    N : Numbering
    N = numbering sites es

    go : (b : Bool) → nat_eq (module_row N x).key (key_number es k) ≡ b → (b || has_key (module_rows N xs) (key_number es k)) ≡ true →
        (has_key (module_rows N xs) (key_number es k) ≡ true → key_number es k < length es) → key_number es k < length es
    go true e h rest =
        subst (λ n. n < length es) (sym (row_key N x) ∙ eqb-true (module_row N x).key (key_number es k) e) i.0
    go false e h rest = rest h

pub none_at_start : (sites : List (ℕ × Site)) (es : List Entry) (k : Key) → site_of sites k ≡ nowhere →
    not (has_key (module_rows (numbering sites es) es) (key_number es k)
    && is_waited (module_rows (numbering sites es) es) (key_number es k)) ≡ true
none_at_start sites es k w = go (has_key (module_rows N es) (key_number es k)) refl
  where
    N : Numbering
    N = numbering sites es

    go : (b : Bool) → has_key (module_rows N es) (key_number es k) ≡ b → not (b && is_waited (module_rows N es) (key_number es k)) ≡ true
    go false h = refl
    go true h = ap not (none_waits sites es es k w (keyed_low sites es es k (all_in es) h))
