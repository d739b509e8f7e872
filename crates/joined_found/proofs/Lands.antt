-- The rows of entries that see what their sites show come to rows that see what they look at.
use Rattle.std.proofs.Common.{◌≡◌, ◌<◌, ℕ, suc, Bool, true, false, not, ◌&&◌, ◌||◌, cond, List, [], ◌∷◌, length}
use Rattle.std.proofs.Common.{refl, sym, ap, subst, ◌∙◌, nat_eq, nat_lt}
use Rattle.std.proofs.lemmas.Bool.{and_parts, and_from, or_right, eqb-true, eq-eqb, lt-ltb}
use Rattle.joined_core.specs.Rows.{Key, key_of, Site, nowhere, on_sigs, on_boxes, on_value, Seen, nothing, shaped, zero_is, Way, onwards}
use Rattle.joined_core.specs.Rows.{answers_run, answers_fork}
use Rattle.joined_core.specs.Listed.{Entry, site_of}
use Rattle.joined_core.specs.Numbers.{key_number}
use Rattle.joined_core.proofs.Numbers.{numbers_differ, AllIn, all_in}
use Rattle.joined_module.specs.Rows.{ModuleRow, Numbering, numbering, row_sees, row_by_way, module_rows}
use Rattle.joined_module.specs.Fields.{some_row}
use Rattle.joined_module.specs.Module.{site_at}
use Rattle.joined_found.specs.Found.{Each, each_row, has_key, sees_at, rows_see, same_site, lands_at, rows_land, rows_keyed, entry_sees}
use Rattle.joined_found.specs.Found.{entries_see}
use Rattle.joined_found.specs.Laws.{RowsLand}
use Rattle.joined_found.proofs.Eaches.{each_map, each_both}
use Rattle.joined_found.proofs.Keys.{key_low}

all_told : (f : ModuleRow → Bool) (rows : List ModuleRow) → Each (λ r. f r ≡ true) rows → each_row f rows ≡ true
all_told f [] h = refl
all_told f (r ∷ rs) h = and_from (f r) (each_row f rs) h.0 (all_told f rs h.1)

-- some row goes there
abbrev goes_to : List ModuleRow → ℕ → Bool
goes_to rows k = some_row (λ r. not r.ends && nat_eq r.to k) rows

-- where each of these goes some row goes
each_goes : (rows : List ModuleRow) → Each (λ r. r.ends ≡ false → goes_to rows r.to ≡ true) rows
each_goes [] = tt
each_goes (r ∷ rs) = (
  λ e. own r.ends e,
  each_map (λ s. s.ends ≡ false → goes_to rs s.to ≡ true) (λ s. s.ends ≡ false → goes_to (r ∷ rs) s.to ≡ true)
      (λ s h e. or_right (not r.ends && nat_eq r.to s.to) (goes_to rs s.to) (h e)) rs (each_goes rs),
)
  where
    own : (b : Bool) → b ≡ false → ((not b && nat_eq r.to r.to) || goes_to rs r.to) ≡ true
    own true e = absurd cc
    own false e = ap (λ c. c || goes_to rs r.to) (eq-eqb r.to r.to refl)

same_site_self : (w : Site) → same_site w w ≡ true
same_site_self nowhere = refl
same_site_self on_sigs = refl
same_site_self on_boxes = refl
same_site_self on_value = refl

module _ (sites : List (ℕ × Site)) (entries : List Entry) where
  abbrev N : Numbering
  N = numbering sites entries

  -- where a row goes
  record Goes (r : ModuleRow) : Type 0 where
    pub key : Key
    pub to : r.to ≡ key_number entries key
    pub site : r.site ≡ site_of sites key

  goes_by : (e : Entry) (w : Way) → (row_by_way N e w).ends ≡ false → Goes (row_by_way N e w)
  goes_by e onwards h = record { key = key_of e.row.to.live; to = refl; site = refl }
  goes_by e answers_run h = absurd cc
  goes_by e (answers_fork q) h = record { key = key_of q.to.live; to = refl; site = refl }

  goes : (es : List Entry) → Each (λ r. r.ends ≡ false → Goes r) (module_rows N es)
  goes [] = tt
  goes (e ∷ es) = (goes_by e e.row.way, goes es)

  -- what a row sees, at its own key
  record SeesThere (r : ModuleRow) : Type 0 where
    pub key : Key
    pub low : key_number entries key < length entries
    pub at : r.key ≡ key_number entries key
    pub sees : sees_at (site_of sites key) r.sees ≡ true
    pub waits : r.waits ≡ false

  sees_of : (w : Site) (e : Seen) → entry_sees w e ≡ true → sees_at w (row_sees N.tag e) ≡ true
  sees_of nowhere nothing h = refl
  sees_of on_sigs (shaped x) h = refl
  sees_of on_boxes (shaped x) h = refl
  sees_of on_value (zero_is b) h = refl
  sees_of nowhere (shaped x) h = absurd cc
  sees_of nowhere (zero_is b) h = absurd cc
  sees_of on_sigs nothing h = absurd cc
  sees_of on_sigs (zero_is b) h = absurd cc
  sees_of on_boxes nothing h = absurd cc
  sees_of on_boxes (zero_is b) h = absurd cc
  sees_of on_value nothing h = absurd cc
  sees_of on_value (shaped x) h = absurd cc

  there_by : (e : Entry) (w : Way) → key_number entries e.key < length entries → entry_sees (site_of sites e.key) e.seen ≡ true →
      SeesThere (row_by_way N e w)
  there_by e onwards l h = record { key = e.key; low = l; at = refl; sees = sees_of (site_of sites e.key) e.seen h; waits = refl }
  there_by e answers_run l h = record { key = e.key; low = l; at = refl; sees = sees_of (site_of sites e.key) e.seen h; waits = refl }
  there_by e (answers_fork q) l h = record { key = e.key; low = l; at = refl; sees = sees_of (site_of sites e.key) e.seen h; waits = refl }

  there : (es : List Entry) → Each (λ e. key_number entries e.key < length entries) es → entries_see sites es ≡ true →
      Each SeesThere (module_rows N es)
  there [] l h = tt
  there (e ∷ es) l h =
      let (a, b) = and_parts (entry_sees (site_of sites e.key) e.seen) (entries_see sites es) h in
      (there_by e e.row.way l.0 a, there es l.1 b)

  -- rows of a key that has rows see what is looked at there
  module _ (k : Key) (low : key_number entries k < length entries) where
    see_there : (rows : List ModuleRow) → Each SeesThere rows → rows_see rows (key_number entries k) (site_of sites k) ≡ true
    see_there [] h = refl
    see_there (r ∷ rs) h =
        and_from (not (nat_eq r.key (key_number entries k)) || sees_at (site_of sites k) r.sees)
        (rows_see rs (key_number entries k) (site_of sites k)) (go (nat_eq r.key (key_number entries k)) refl h.0) (see_there rs h.1)
      where
        go : (b : Bool) → nat_eq r.key (key_number entries k) ≡ b → SeesThere r → (not b || sees_at (site_of sites k) r.sees) ≡ true
        go false q s = refl
        go true q s =
            let same : s.key ≡ k = numbers_differ entries s.key k s.low (sym s.at ∙ eqb-true r.key (key_number entries k) q) in
            subst (λ j. sees_at (site_of sites j) r.sees ≡ true) same s.sees

    site_there : (rows : List ModuleRow) → Each (λ r. r.ends ≡ false → Goes r) rows → goes_to rows (key_number entries k) ≡ true →
        site_at rows (key_number entries k) ≡ site_of sites k
    site_there [] h g = absurd cc
    site_there (r ∷ rs) h g = go r.ends (nat_eq r.to (key_number entries k)) refl refl g h.0 (site_there rs h.1)
      where
        go : (b c : Bool) → r.ends ≡ b → nat_eq r.to (key_number entries k) ≡ c →
            ((not b && c) || goes_to rs (key_number entries k)) ≡ true → (r.ends ≡ false → Goes r) →
            (goes_to rs (key_number entries k) ≡ true → site_at rs (key_number entries k) ≡ site_of sites k) →
            cond (not b && c) r.site (site_at rs (key_number entries k)) ≡ site_of sites k
        go true c p q g s ih = ih g
        go false false p q g s ih = ih g
        go false true p q g s ih =
            let G : Goes r = s p in
            let same : k ≡ G.key = numbers_differ entries k G.key low (sym (eqb-true r.to (key_number entries k) q) ∙ G.to) in
            G.site ∙ ap (site_of sites) (sym same)

  lengths : (es : List Entry) → length (module_rows N es) ≡ length es
  lengths [] = refl
  lengths (e ∷ es) = ap suc (lengths es)

  in_all : (es : List Entry) → AllIn entries es → Each (λ e. key_number entries e.key < length entries) es
  in_all [] h = tt
  in_all (e ∷ es) h = (h.0, in_all es h.1)

  lands : (R : List ModuleRow) → Each SeesThere R → Each (λ r. r.ends ≡ false → Goes r) R → (k : Key) →
      goes_to R (key_number entries k) ≡ true → lands_at R (key_number entries k) (site_of sites k) ≡ true
  lands R s g k t = go (has_key R (key_number entries k)) refl
    where
      keys : Each (λ r. r.key < length entries) R
      keys = each_map SeesThere (λ r. r.key < length entries) (λ r q. subst (λ n. n < length entries) (sym q.at) q.low) R s

      go : (b : Bool) → has_key R (key_number entries k) ≡ b →
          (not b || (rows_see R (key_number entries k) (site_of sites k) &&
          same_site (site_at R (key_number entries k)) (site_of sites k))) ≡ true
      go false q = refl
      go true q =
          let low = key_low (length entries) (key_number entries k) R keys q in
          and_from (rows_see R (key_number entries k) (site_of sites k))
          (same_site (site_at R (key_number entries k)) (site_of sites k)) (see_there k low R s)
          (ap (λ w. same_site w (site_of sites k)) (site_there k low R g t) ∙ same_site_self (site_of sites k))

  land_all : (R : List ModuleRow) → Each SeesThere R → Each (λ r. r.ends ≡ false → Goes r) R → rows_land R ≡ true
  land_all R s g =
      all_told (λ r. r.ends || lands_at R r.to r.site) R
      (each_both (λ r. r.ends ≡ false → Goes r) (λ r. r.ends ≡ false → goes_to R r.to ≡ true)
      (λ r. (r.ends || lands_at R r.to r.site) ≡ true) (λ r q t. one r r.ends refl q t) R g (each_goes R))
    where
      one : (r : ModuleRow) (b : Bool) → r.ends ≡ b → (r.ends ≡ false → Goes r) → (r.ends ≡ false → goes_to R r.to ≡ true) →
          (b || lands_at R r.to r.site) ≡ true
      one r true e q t = refl
      one r false e q t =
          let G : Goes r = q e in
          ap (λ k. lands_at R k r.site) G.to ∙ ap (lands_at R (key_number entries G.key)) G.site
          ∙ lands R s g G.key (subst (λ k. goes_to R k ≡ true) G.to (t e))

  keyed_all : (R : List ModuleRow) → Each SeesThere R → length R ≡ length entries → rows_keyed R ≡ true
  keyed_all R s l =
      all_told (λ r. not r.waits && nat_lt r.key (length R)) R
      (each_map SeesThere (λ r. (not r.waits && nat_lt r.key (length R)) ≡ true)
      (λ r q. and_from (not r.waits) (nat_lt r.key (length R)) (ap not q.waits)
      (lt-ltb r.key (length R) (subst (λ n. r.key < n) (sym l) (subst (λ n. n < length entries) (sym q.at) q.low)))) R s)

pub rows_do_land : RowsLand
rows_do_land sites entries h =
    let s = there sites entries entries (in_all sites entries entries (all_in entries)) h in (
      land_all sites entries (module_rows (numbering sites entries) entries) s (goes sites entries entries),
      keyed_all sites entries (module_rows (numbering sites entries) entries) s (lengths sites entries entries),
    )
