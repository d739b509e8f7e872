-- Along the edges of rows with their waits each row is the one that is found, or waits for what is seen, and finds what it reads.
use Rattle.std.proofs.Common.{◌≡◌, ◌⊎◌, ℕ, zero, suc, Bool, true, false, cond, not, ◌||◌, List, [], ◌∷◌}
use Rattle.std.proofs.Common.{Option, Some, None}
use Rattle.std.proofs.Common.{refl, sym, ap, ◌∙◌, subst, inl, inr}
use Rattle.std.specs.Prelude.{nat_lt, nat_eq, ◌&&◌}
use Rattle.std.proofs.lemmas.Bool.{and_parts, or_left, or_right, eq-eqb, not-true}
use Rattle.net_rows.proofs.Small.{not_full}
use Rattle.joined_core.specs.Rows.{Site, nowhere, on_sigs, on_boxes, on_value}
use Rattle.joined_core.specs.Circuit.{Room}
use Rattle.joined_module.specs.Rows.{ModuleRow, Sees, is_new_cell, row_looks}
use Rattle.joined_module.specs.Fields.{some_row, at_value, changes, sees_later}
use Rattle.joined_module.specs.Module.{is_waited, waiting_row, site_at, found_rows}
use Rattle.joined_module.specs.Machine.{RowCircuit, looked_place, same_sees, seen_by, find_row, base_of, place_after, row_makes}
use Rattle.joined_module.specs.Machine.{too_many, row_made}
use Rattle.joined_module.specs.Machine.{row_clock, row_clocks, row_there, read_there, takes_words}
use Rattle.joined_found.specs.Found.{Each, has_key, waiting_found, next_row, same_site, lands_at, rows_see, rows_land}
use Rattle.joined_found.specs.Found.{rows_keyed, OfFound}
use Rattle.joined_found.proofs.Eaches.{each_map, each_told}
use Rattle.joined_found.proofs.Finds.{never_waits, taken}
use Rattle.joined_edges.specs.Timed.{Timed, timed_rest, timed_wait, timed_act, timed_none}
use Rattle.joined_edges.specs.Timed.{RowIs, Among, at_front, in_rest, something, RowRight, TimedRight}
use Rattle.joined_edges.proofs.Reset.{none_here, none_see}
use Rattle.joined_timed.specs.Laws.{RowsThere, RowsLook}

-- ---- rows of a list

-- a row that is found is one of the list
pub found_each : (p : ModuleRow → Type 0) (rows : List ModuleRow) (k : ℕ) (e : Sees) (r : ModuleRow) → Each p rows →
    find_row rows k e ≡ Some r → p r
found_each p [] k e r h f = absurd cc
found_each p (q ∷ rows) k e r h f = go (nat_eq q.key k && same_sees q.sees e) f (λ f. found_each p rows k e r h.1 f)
  where
    go : (b : Bool) → cond b (Some q) (find_row rows k e) ≡ Some r → (find_row rows k e ≡ Some r → p r) → p r
    go true f rest = let same : q ≡ r = cc in subst p same h.0
    go false f rest = rest f

pub found_some : (f : ModuleRow → Bool) (rows : List ModuleRow) (k : ℕ) (e : Sees) (r : ModuleRow) → f r ≡ true →
    find_row rows k e ≡ Some r → some_row f rows ≡ true
found_some f [] k e r h g = absurd cc
found_some f (q ∷ rows) k e r h g = go (nat_eq q.key k && same_sees q.sees e) g (λ g. found_some f rows k e r h g)
  where
    go : (b : Bool) → cond b (Some q) (find_row rows k e) ≡ Some r → (find_row rows k e ≡ Some r → some_row f rows ≡ true) →
        (f q || some_row f rows) ≡ true
    go true g rest = let same : q ≡ r = cc in or_left (f q) (some_row f rows) (ap f same ∙ h)
    go false g rest = or_right (f q) (some_row f rows) (rest g)

among_all : (rows : List ModuleRow) → Each (λ r. Among r rows) rows
among_all [] = tt
among_all (r ∷ rs) = (at_front rs, each_map (λ q. Among q rs) (λ q. Among q (r ∷ rs)) (λ q a. in_rest r rs a) rs (among_all rs))

pub among_next : (rows : List ModuleRow) → rows_keyed rows ≡ true → (later : Bool) (k : ℕ) (e : Sees) (r : ModuleRow) →
    next_row rows later k e ≡ Some r → Among r (found_rows rows)
among_next rows keyed later k e r h =
    subst (OfFound (λ r. Among r (found_rows rows))) h (taken (λ r. Among r (found_rows rows)) rows keyed (among_all
    (found_rows rows)) later k e)

-- a site is the same
site_is : (v w : Site) → same_site v w ≡ true → v ≡ w
site_is nowhere nowhere e = refl
site_is on_sigs on_sigs e = refl
site_is on_boxes on_boxes e = refl
site_is on_value on_value e = refl
site_is v w e = absurd cc

-- so many rows and one more
pub clocks_last : (ps : ℕ → ℕ) (z : Room) (rows : List ModuleRow) (k : ℕ) (D : RowCircuit) →
    row_clocks ps z rows (suc k) D ≡ row_clock ps z rows (row_clocks ps z rows k D)
clocks_last ps z rows zero D = refl
clocks_last ps z rows (suc k) D = clocks_last ps z rows k (row_clock ps z rows D)

module _ (ps : ℕ → ℕ) (z : Room) (rows : List ModuleRow) (keyed : rows_keyed rows ≡ true) (land : rows_land rows ≡ true)
    (D0 : RowCircuit) (there : RowsThere ps z rows D0) (look : RowsLook ps z rows D0) where
  -- the row at work is that of the circuit after so many rows
  pub record Along (j : ℕ) (t : Timed) : Type 0 where
    pub circuit : t.circuit ≡ row_clocks ps z rows j D0
    pub right : t.circuit.ended ≡ false → t.circuit.full ≡ false → TimedRight ps rows t

  pub found_waits : (k : ℕ) (e : Sees) (r : ModuleRow) → find_row rows k e ≡ Some r → r.waits ≡ false
  found_waits k e r f = found_each (λ r. r.waits ≡ false) rows k e r (never_waits rows keyed) f

  -- what is asked of a row that is found
  module _ (j : ℕ) (t : Timed) (c : t.circuit ≡ row_clocks ps z rows j D0) (ended : t.circuit.ended ≡ false)
      (full : t.circuit.full ≡ false) where
    looks_at : something t.circuit.site t.circuit.sigs t.circuit.boxes ≡ true
    looks_at =
        subst (λ (D : RowCircuit). D.full ≡ false → something D.site D.sigs D.boxes ≡ true) (sym c) (look j) full

    reads : (r : ModuleRow) → find_row rows t.circuit.key (seen_by t.circuit.site t.circuit) ≡ Some r →
        (row_there t.circuit r ≡ true) × (read_there ps rows t.circuit r ≡ true)
    reads r f =
        subst (λ (D : RowCircuit). D.ended ≡ false → D.full ≡ false → find_row rows D.key (seen_by D.site D) ≡ Some r →
        (row_there D r ≡ true) × (read_there ps rows D r ≡ true)) (sym c) (there j r) ended full f

    -- from what the row is, that it was read
    pub right_of : RowIs rows t → ((r : ModuleRow) → t.row ≡ Some r → Among r (found_rows rows)) →
        ((r : ModuleRow) → find_row rows t.circuit.key (seen_by t.circuit.site t.circuit) ≡ Some r → t.row ≡ Some r →
        takes_words (Some r) ≡ true → t.seen ≡ true) → rows_see rows t.circuit.key t.circuit.site ≡ true →
        t.circuit.read ≡ t.circuit.cells (looked_place t.circuit.site t.circuit.sigs t.circuit.boxes) → TimedRight ps rows t
    right_of is among seen sees old =
        record { row = is; among = among; sees = sees; looks = looks_at; reads = old; right = λ r e w. go r e w is }
      where
        go : (r : ModuleRow) → t.row ≡ Some r → r.waits ≡ false → RowIs rows t → RowRight ps rows t r
        go r e w (inl q) =
            let f = sym q ∙ e in
            let h = reads r f in
            record { there = h.0; read = h.1; seen = seen r f e }
        go r e w (inr q) =
            let same : waiting_row t.circuit.key t.circuit.site ≡ r = cc in
            not_full (ap (λ (r : ModuleRow). r.waits) same ∙ w)

  -- an edge at which the row rests
  pub rest_along : (j : ℕ) (t : Timed) → Along j t → Along j (timed_rest t)
  rest_along j t a = record {
    circuit = a.circuit;
    right = λ e f. let h = a.right e f in record {
      row = h.row;
      among = h.among;
      sees = h.sees;
      looks = h.looks;
      reads = h.reads;
      right = λ r q w. let x = h.right r q w in record { there = x.there; read = x.read; seen = x.seen };
    };
  }

  -- one of a row that waits
  pub wait_along : (j : ℕ) (t : Timed) → Along j t → Along j (timed_wait rows t)
  wait_along j t a = record {
    circuit = a.circuit;
    right = λ e f. right_of j (timed_wait rows t) a.circuit e f (inl refl)
        (λ r q. among_next rows keyed false t.circuit.key (seen_by t.circuit.site t.circuit) r q) (λ r g q w. refl)
        (a.right e f).sees (a.right e f).reads;
  }

  -- one without a row
  pub none_along : (j : ℕ) (t : Timed) → Along j t → t.circuit.ended ≡ false → t.circuit.full ≡ false → t.row ≡ None →
      Along (suc j) (timed_none t)
  none_along j t a ended full q = record {
    circuit = sym (ap (λ b. cond (b || t.circuit.full) t.circuit (row_made ps z f t.circuit)) ended
        ∙ ap (λ b. cond b t.circuit (row_made ps z f t.circuit)) full ∙ ap (λ o. row_made ps z o t.circuit) (go (a.right ended full).row))
        ∙ ap (row_clock ps z rows) a.circuit ∙ sym (clocks_last ps z rows j D0);
    right = λ e f. not_full f;
  }
    where
      f : Option ModuleRow
      f = find_row rows t.circuit.key (seen_by t.circuit.site t.circuit)

      go : RowIs rows t → f ≡ None
      go (inl h) = sym h ∙ q
      go (inr h) = let no : Some (waiting_row t.circuit.key t.circuit.site) ≡ None = sym h ∙ q in absurd cc

  -- and one at which it is made
  module _ (j : ℕ) (t : Timed) (a : Along j t) (ended : t.circuit.ended ≡ false) (full : t.circuit.full ≡ false) (r : ModuleRow)
      (row : t.row ≡ Some r) (waits : r.waits ≡ false) where
    abbrev D : RowCircuit
    D = t.circuit

    abbrev E : RowCircuit
    E = row_made ps z (Some r) D

    h : TimedRight ps rows t
    h = a.right ended full

    found : find_row rows D.key (seen_by D.site D) ≡ Some r
    found = go h.row
      where
        go : RowIs rows t → find_row rows D.key (seen_by D.site D) ≡ Some r
        go (inl q) = sym q ∙ row
        go (inr q) =
            let same : waiting_row D.key D.site ≡ r = cc in
            not_full (ap (λ (r : ModuleRow). r.waits) same ∙ waits)

    made : E ≡ row_clocks ps z rows (suc j) D0
    made =
        sym (ap (λ b. cond (b || D.full) D (row_made ps z (find_row rows D.key (seen_by D.site D)) D)) ended
        ∙ ap (λ b. cond b D (row_made ps z (find_row rows D.key (seen_by D.site D)) D)) full
        ∙ ap (λ o. row_made ps z o D) found)
        ∙ ap (row_clock ps z rows) a.circuit ∙ sym (clocks_last ps z rows j D0)

    -- there was room
    roomy : E.full ≡ false → E ≡ row_makes ps r D
    roomy = go (too_many z (row_makes ps r D))
      where
        go : (b : Bool) → (cond b (record D { full = true }) (row_makes ps r D)).full ≡ false →
            cond b (record D { full = true }) (row_makes ps r D) ≡ row_makes ps r D
        go true e = not_full e
        go false e = refl

    -- it goes where it says
    land_fact : r.ends ≡ false → lands_at rows r.to r.site ≡ true
    land_fact ends =
        ap (λ b. b || lands_at rows r.to r.site) (sym ends)
        ∙ found_each (λ r. (r.ends || lands_at rows r.to r.site) ≡ true) rows D.key (seen_by D.site D) r
        (each_told (λ r. r.ends || lands_at rows r.to r.site) rows land) found

    lands : r.ends ≡ false → has_key rows r.to ≡ true → site_at rows r.to ≡ r.site
    lands ends k =
        site_is (site_at rows r.to) r.site
        (and_parts (rows_see rows r.to r.site) (same_site (site_at rows r.to) r.site) (go (has_key rows r.to) k (land_fact ends))).1
      where
        go : (b : Bool) → b ≡ true → (not b || (rows_see rows r.to r.site && same_site (site_at rows r.to) r.site)) ≡ true →
            (rows_see rows r.to r.site && same_site (site_at rows r.to) r.site) ≡ true
        go false q f = absurd cc
        go true q f = f

    -- where it waits, it is sees later
    waited : sees_later r ≡ true → is_waited rows r.to ≡ true
    waited s =
        found_some (λ q. sees_later q && nat_eq q.to r.to) rows D.key (seen_by D.site D) r
        (ap (λ b. b && nat_eq r.to r.to) s ∙ eq-eqb r.to r.to refl) found

    abbrev t2 : Timed
    t2 = timed_act ps z rows r t

    module _ (ended2 : E.ended ≡ false) (full2 : E.full ≡ false) where
      is : E ≡ row_makes ps r D
      is = roomy full2

      ends : r.ends ≡ false
      ends = ap (λ (D : RowCircuit). D.ended) (sym is) ∙ ended2

      key_is : E.key ≡ r.to
      key_is = ap (λ (D : RowCircuit). D.key) is

      site_of : E.site ≡ r.site
      site_of = ap (λ (D : RowCircuit). D.site) is

      row_is : RowIs rows t2
      row_is = go (sees_later r && is_waited rows E.key) refl
        where
          by_key : (b : Bool) → has_key rows E.key ≡ b → (cond b (Some (waiting_row E.key (site_at rows E.key))) None
              ≡ find_row rows E.key (seen_by E.site E)) ⊎ (cond b (Some (waiting_row E.key (site_at rows E.key))) None
              ≡ Some (waiting_row E.key E.site))
          by_key true q =
              inr (ap (λ w. Some (waiting_row E.key w)) (ap (site_at rows) key_is ∙ lands ends (ap (has_key rows) (sym key_is) ∙ q)
              ∙ sym site_of))
          by_key false q = inl (sym (none_here rows E.key (seen_by E.site E) q))

          go : (b : Bool) → (sees_later r && is_waited rows E.key) ≡ b →
              (cond b (waiting_found rows E.key) (find_row rows E.key (seen_by E.site E)) ≡ find_row rows E.key (seen_by E.site E))
              ⊎ (cond b (waiting_found rows E.key) (find_row rows E.key (seen_by E.site E)) ≡ Some (waiting_row E.key E.site))
          go false q = inl refl
          go true q = by_key (has_key rows E.key) refl

      -- what is read of the cell that is looked at next was there before
      seen_is : (q : ModuleRow) → find_row rows E.key (seen_by E.site E) ≡ Some q → t2.row ≡ Some q → takes_words (Some q) ≡ true →
          t2.seen ≡ true
      seen_is q f e w = go (is_new_cell (row_looks r)) refl (nat_lt (place_after r D) (base_of r D)) read
        where
          next : find_row rows r.to (seen_by r.site (row_makes ps r D)) ≡ Some q
          next = ap (λ (D : RowCircuit). find_row rows D.key (seen_by D.site D)) (sym is) ∙ f

          read : (is_new_cell (row_looks r) || (nat_lt (place_after r D) (base_of r D) || not (takes_words (Some q)))) ≡ true
          read =
              ap (λ o. is_new_cell (row_looks r) || (nat_lt (place_after r D) (base_of r D) || not (takes_words o))) (sym next)
              ∙ (h.right r row waits).read

          -- else it would wait
          new : is_new_cell (row_looks r) ≡ true → {A : Type 0} → A
          new n =
              let s : sees_later r ≡ true = ap (λ b. (at_value r.site && changes r.worth) || b) n
              ∙ or_right (at_value r.site && changes r.worth) true refl in
              let l : (sees_later r && is_waited rows E.key) ≡ true =
              ap (λ b. b && is_waited rows E.key) s ∙ ap (is_waited rows) key_is ∙ waited s in
              let g : waiting_found rows E.key ≡ Some q =
              ap (λ b. cond b (waiting_found rows E.key) (find_row rows E.key (seen_by E.site E))) (sym l) ∙ e in
              no (has_key rows E.key) g
            where
              no : {A : Type 0} (b : Bool) → cond b (Some (waiting_row E.key (site_at rows E.key))) None ≡ Some q → A
              no false g = absurd cc
              no true g =
                  let same : waiting_row E.key (site_at rows E.key) ≡ q = cc in
                  not_full (ap (λ (r : ModuleRow). r.waits) same ∙ found_waits E.key (seen_by E.site E) q f)

          go : (a : Bool) → is_new_cell (row_looks r) ≡ a → (b : Bool) → (a || (b || not (takes_words (Some q)))) ≡ true →
              (not a && b) ≡ true
          go true n b e = new n
          go false n true e = refl
          go false n false e = not_full (sym w ∙ not-true (takes_words (Some q)) e)

      sees_is : rows_see rows E.key E.site ≡ true
      sees_is =
          ap (λ k. rows_see rows k E.site) key_is ∙ ap (rows_see rows r.to) site_of ∙ go (has_key rows r.to) refl (land_fact ends)
        where
          go : (b : Bool) → has_key rows r.to ≡ b →
              (not b || (rows_see rows r.to r.site && same_site (site_at rows r.to) r.site)) ≡ true → rows_see rows r.to r.site ≡ true
          go false q f = none_see rows r.to r.site q
          go true q f = (and_parts (rows_see rows r.to r.site) (same_site (site_at rows r.to) r.site) f).0

      act_right : TimedRight ps rows t2
      act_right =
          right_of (suc j) t2 made ended2 full2 row_is
          (λ q e. among_next rows keyed (sees_later r) E.key (seen_by E.site E) q e) seen_is sees_is
          (subst (λ (D : RowCircuit). D.read ≡ D.cells (looked_place D.site D.sigs D.boxes)) (sym is) refl)

    pub act_along : Along (suc j) t2
    act_along = record { circuit = made; right = act_right }
