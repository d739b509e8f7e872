-- Rows of which all that is asked is true, one by one and all of them.
use Rattle.std.proofs.Common.{◌≡◌, ℕ, ◌+◌, ◌^◌, true, ◌&&◌, List, [], ◌∷◌, ◌++◌, refl}
use Rattle.std.proofs.lemmas.Bool.{and_from, and_parts}
use Rattle.net_build.specs.Nets.{NetTree}
use Rattle.joined_core.specs.Rows.{Site}
use Rattle.joined_core.specs.Right.{row_right}
use Rattle.joined_core.specs.Listed.{Entry, site_of, right_table}
use Rattle.joined_module.specs.Rows.{rows_fit}
use Rattle.joined_numbers.specs.Within.{entry_within, rows_below, rows_within}
use Rattle.joined_table.specs.declared.row.Entry as code
use Rattle.joined_table.specs.Views.{entry_view, entries_view}
use Rattle.joined_asked.specs.Parts.{fits, asked, all_asked}

module _ (net : NetTree) (n : ℕ) (sites : List (ℕ × Site)) where
  pub more_asked : (xs : List code.Entry) (x : code.Entry) → all_asked net n sites (entries_view xs) ≡ true →
      asked net n sites (entry_view x) ≡ true → all_asked net n sites (entries_view (xs ++ x ∷ [])) ≡ true
  more_asked [] x h g = and_from (asked net n sites (entry_view x)) true g refl
  more_asked (y ∷ ys) x h g =
      let p = and_parts (asked net n sites (entry_view y)) (all_asked net n sites (entries_view ys)) h in
      and_from (asked net n sites (entry_view y)) (all_asked net n sites (entries_view (ys ++ x ∷ []))) p.0 (more_asked ys x p.1 g)

  -- the parts of one row
  record One (e : Entry) : Type 0 where
    fit : fits e ≡ true
    within : entry_within sites (2 ^ 64 + n) e ≡ true
    right : row_right net (site_of sites e.key) e.key e.seen e.row ≡ true

  one : (e : Entry) → asked net n sites e ≡ true → One e
  one e h =
      let p = and_parts (fits e) (entry_within sites (2 ^ 64 + n) e && row_right net (site_of sites e.key) e.key e.seen e.row) h in
      let q = and_parts (entry_within sites (2 ^ 64 + n) e) (row_right net (site_of sites e.key) e.key e.seen e.row) p.1 in
      record { fit = p.0; within = q.0; right = q.1 }

  pub all_right : (es : List Entry) → all_asked net n sites es ≡ true → right_table net sites es ≡ true
  all_right [] h = refl
  all_right (e ∷ es) h =
      let p = and_parts (asked net n sites e) (all_asked net n sites es) h in
      and_from (row_right net (site_of sites e.key) e.key e.seen e.row) (right_table net sites es) (one e p.0).right (all_right es p.1)

  pub all_fit : (es : List Entry) → all_asked net n sites es ≡ true → rows_fit es ≡ true
  all_fit [] h = refl
  all_fit (e ∷ es) h =
      let p = and_parts (asked net n sites e) (all_asked net n sites es) h in
      and_from (fits e) (rows_fit es) (one e p.0).fit (all_fit es p.1)

  pub all_within : (es : List Entry) → all_asked net n sites es ≡ true → rows_within n sites es ≡ true
  all_within [] h = refl
  all_within (e ∷ es) h =
      let p = and_parts (asked net n sites e) (all_asked net n sites es) h in
      and_from (entry_within sites (2 ^ 64 + n) e) (rows_below sites (2 ^ 64 + n) es) (one e p.0).within (all_within es p.1)
