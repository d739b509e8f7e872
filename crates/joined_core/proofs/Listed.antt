-- A list of right rows is a right table.
use Rattle.std.proofs.Common.{◌≡◌, Bool, true, false, cond, List, [], ◌∷◌, Some, refl, subst}
use Rattle.std.specs.Prelude.{◌&&◌}
use Rattle.std.proofs.lemmas.Bool.{and_parts}
use Rattle.net_build.specs.Nets.{NetTree}
use Rattle.joined_core.specs.Rows.{Key, Site, Seen, JoinedRow}
use Rattle.joined_core.specs.Same.{same_key, same_seen}
use Rattle.joined_core.specs.Right.{row_right}
use Rattle.joined_core.specs.Listed.{Entry, find, site_of, rows_right, ListedTable}
use Rattle.joined_core.proofs.Same.{key_is, seen_is}

-- a row that is found is right at its own key and shape, and these are the ones that were asked
found : (net : NetTree) (w : Key → Site) (xs : List Entry) (k : Key) (e : Seen) (r : JoinedRow) → rows_right net w xs ≡ true →
    find xs k e ≡ Some r → row_right net (w k) k e r ≡ true
found net w [] k e r h f = absurd cc
found net w (x ∷ xs) k e r h f = go (λ f. found net w xs k e r p.1 f) (same_key x.key k && same_seen x.seen e) refl f
  where
    p : (row_right net (w x.key) x.key x.seen x.row ≡ true) × (rows_right net w xs ≡ true)
    p = and_parts (row_right net (w x.key) x.key x.seen x.row) (rows_right net w xs) h

    go : (find xs k e ≡ Some r → row_right net (w k) k e r ≡ true) → (b : Bool) → (same_key x.key k && same_seen x.seen e) ≡ b →
        cond b (Some x.row) (find xs k e) ≡ Some r → row_right net (w k) k e r ≡ true
    go rest false q f = rest f
    go rest true q f =
        let s = and_parts (same_key x.key k) (same_seen x.seen e) q in
        let same : x.row ≡ r = cc in
        subst (λ r. row_right net (w k) k e r ≡ true) same
        (subst (λ e. row_right net (w k) k e x.row ≡ true) (seen_is x.seen e s.1)
        (subst (λ k. row_right net (w k) k x.seen x.row ≡ true) (key_is x.key k s.0) p.0))

pub listed_table : ListedTable
listed_table net sites entries h k e r f = found net (site_of sites) entries k e r h f
