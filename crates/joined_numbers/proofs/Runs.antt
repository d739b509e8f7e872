-- A run of rows from the start on.
use Rattle.std.proofs.Common.{◌≡◌, ◌⊎◌, ℕ, ◌+◌, ◌^◌, Bool, true, false, cond, ◌||◌, List, [], ◌∷◌, length, Option, Some, None}
use Rattle.std.proofs.Common.{refl, sym, ap, ◌∙◌, subst, inl, inr, ⊎_elim, arith}
use Rattle.std.specs.Prelude.{nat_lt, ◌&&◌}
use Rattle.std.proofs.lemmas.Bool.{lt-ltb, le-ltb}
use Rattle.net_rows.proofs.Small.{not_full}
use Rattle.pcf_values.specs.Terms.{TermTree, nat}
use Rattle.pcf_values.specs.Typing.{HasType}
use Rattle.net_build.specs.Nets.{NetTree}
use Rattle.net_build.specs.NetOf.{net_of}
use Rattle.net_build.specs.Sound.{Sound}
use Rattle.interleave_laws.specs.Runs.{Runs}
use Rattle.adequacy_laws.proofs.Agreeing.{built_runs}
use Rattle.newest_core.specs.Meaning.{Tells}
use Rattle.joined_rows.specs.Compound.{Pointer}
use Rattle.joined_core.specs.Rows.{Key, Site, nowhere, on_sigs, on_boxes, on_value, Seen, Table}
use Rattle.joined_core.specs.Same.{same_key, same_seen}
use Rattle.joined_core.specs.Listed.{Entry, find, listed, site_of}
use Rattle.joined_core.specs.Numbers.{key_number}
use Rattle.joined_core.specs.Circuit.{JoinedToken, JoinedCircuit, Room, joined_powered, joined_circuit, seen_at, left_answer}
use Rattle.joined_core.specs.Room.{many_rows}
use Rattle.joined_core.proofs.Follow.{at_power, clocks_keep, keeps_tells}
use Rattle.joined_core.proofs.Room.{room_same}
use Rattle.joined_core.proofs.Time.{Asked, many_asked, rows_move}
use Rattle.joined_module.specs.Rows.{ModuleRow, Numbering, numbering, module_row}
use Rattle.joined_module.specs.Machine.{RowCircuit, looked_place, seen_by, find_row, row_clocks, row_start, row_there, read_there}
use Rattle.joined_numbers.specs.Within.{start_key, is_nowhere}
use Rattle.joined_numbers.specs.At.{entries_at}
use Rattle.joined_numbers.specs.Put.{put_live, put}
use Rattle.joined_numbers.specs.Laws.{SameRow, RowFound, table_rows, memory_of, rows_run, TableRuns, RowsAlong, RowNeeds, looks_there}
use Rattle.joined_numbers.specs.Laws.{RowLooks}
use Rattle.joined_numbers.specs.Laws.{RowsTell}
use Rattle.joined_numbers.proofs.Found.{find_entry, entry_number, row_found_by}
use Rattle.joined_numbers.proofs.Pointers.{long_put}
use Rattle.joined_numbers.proofs.Clocks.{LooksAt, LiveLooks, Goes, found_put, clocks_go, clocks_put}
use Rattle.joined_numbers.proofs.There.{found_there, found_reads}

-- both find the row of an entry, or none
found_row_of : (es : List Entry) (k : Key) (e : Seen) (N : Numbering) → SameRow N (find es k e) (entry_number N (find_entry es k e))
found_row_of [] k e N = tt
found_row_of (x ∷ xs) k e N = go (same_key x.key k && same_seen x.seen e) (found_row_of xs k e N)
  where
    go : (b : Bool) → SameRow N (find xs k e) (entry_number N (find_entry xs k e)) →
        SameRow N (cond b (Some x.row) (find xs k e)) (entry_number N (cond b (Some x) (find_entry xs k e)))
    go true h = (x, refl, refl)
    go false h = h

pub row_found_is : RowFound
row_found_is sites entries k e =
    subst (SameRow (numbering sites entries) (find entries k e)) (sym (row_found_by sites entries k e))
    (found_row_of entries k e (numbering sites entries))

pub nowhere_is : (w : Site) → is_nowhere w ≡ true → w ≡ nowhere
nowhere_is nowhere e = refl
nowhere_is on_sigs e = absurd cc
nowhere_is on_boxes e = absurd cc
nowhere_is on_value e = absurd cc

pub full_is : (N : Numbering) (C : JoinedCircuit) → (put N C).full ≡ C.full
full_is N C = go C.live
  where
    go : (d : Option JoinedToken) → (put_live N d C).full ≡ C.full
    go None = refl
    go (Some k) = refl

module _ (net : NetTree) (runs : Runs net) (sites : List (ℕ × Site)) (entries : List Entry) (ps : ℕ → ℕ)
    (t : TableRuns net sites entries ps) (z : Room) (mem : ℕ → ℕ → Pointer) where
  abbrev N : Numbering
  N = numbering sites entries

  abbrev T : Table
  T = listed sites (entries_at ps entries)

  abbrev b : ℕ
  b = 2 ^ 64 + t.ports

  abbrev P : JoinedCircuit
  P = joined_powered net mem

  site_is : site_of sites (start_key net) ≡ nowhere
  site_is = nowhere_is (site_of sites (start_key net)) t.start

  begins : row_start (key_number entries (start_key net)) (memory_of sites entries mem) ≡ put N P
  begins = ap (λ w. record (put N P) { site = w; read = memory_of sites entries mem (looked_place w [] []) }) (sym site_is)

  starts : (P.full ≡ true) ⊎ Goes net runs sites entries ps b t.right t.fit t.within z P
  starts = inr (record {
    keeps = at_power net mem;
    looks = subst (λ w. LooksAt w (record { sigs = []; boxes = [] })) (sym site_is) tt;
    room = ap (λ b. b || nat_lt z.forks 0) (le-ltb z.cells 0 (omega arith)) ∙ le-ltb z.forks 0 (omega arith);
  })

  abbrev C : ℕ → JoinedCircuit
  C k = joined_circuit net T z mem k

  abbrev D : ℕ → RowCircuit
  D k = rows_run net sites entries ps z (memory_of sites entries mem) k

  along : (k : ℕ) → D k ≡ put N (C k)
  along k =
      ap (row_clocks ps z (table_rows sites entries) k) begins
      ∙ clocks_put net runs sites entries ps b t.right t.fit t.within z k P starts

  goes : (k : ℕ) → ((C k).full ≡ true) ⊎ Goes net runs sites entries ps b t.right t.fit t.within z (C k)
  goes k = clocks_go net runs sites entries ps b t.right t.fit t.within z k P starts

  -- where it isn't full
  ready : (k : ℕ) → (D k).full ≡ false → (C k).full ≡ false
  ready k e = sym (full_is N (C k)) ∙ ap (λ (D : RowCircuit). D.full) (sym (along k)) ∙ e

  goes_on : (k : ℕ) → (D k).full ≡ false → Goes net runs sites entries ps b t.right t.fit t.within z (C k)
  goes_on k e = ⊎_elim (λ f. not_full (sym f ∙ ready k e)) (λ g. g) (goes k)

  -- the row that is found
  needs : (k : ℕ) (r : ModuleRow) → (D k).ended ≡ false → (D k).full ≡ false →
      find_row (table_rows sites entries) (D k).key (seen_by (D k).site (D k)) ≡ Some r →
      (row_there (D k) r ≡ true) × (read_there ps (table_rows sites entries) (D k) r ≡ true)
  needs k r e f h =
      subst (λ D. (row_there D r ≡ true) × (read_there ps (table_rows sites entries) D r ≡ true)) (sym (along k))
      (go (C k).live refl (ap (λ (D : RowCircuit). D.ended) (sym (along k)) ∙ e)
      (ap (λ (D : RowCircuit). find_row (table_rows sites entries) D.key (seen_by D.site D)) (sym (along k)) ∙ h))
    where
      g : Goes net runs sites entries ps b t.right t.fit t.within z (C k)
      g = goes_on k f

      by : (l : JoinedToken) (live : (C k).live ≡ Some l) (o : Option Entry) → find_entry entries l.key (seen_at
          (site_of sites l.key) l) ≡ o →
          entry_number N o ≡ Some r →
          (row_there (put_live N (Some l) (C k)) r ≡ true) × (read_there ps (table_rows sites entries) (put_live N (Some l) (C k)) r ≡ true)
      by l live None q h = absurd cc
      by l live (Some x) q h =
          let same : module_row N x ≡ r = cc in
          subst (λ r. (row_there (put_live N (Some l) (C k)) r ≡ true)
          × (read_there ps (table_rows sites entries) (put_live N (Some l) (C k)) r ≡ true)) same (
            found_there net runs sites entries ps b t.right t.fit t.within z (C k) g l live x q,
            found_reads net runs sites entries ps b t.right t.fit t.within z (C k) g l live x q,
          )

      go : (d : Option JoinedToken) → (C k).live ≡ d → (put_live N d (C k)).ended ≡ false →
          find_row (table_rows sites entries) (put_live N d (C k)).key (seen_by (put_live N d (C k)).site (put_live N d (C k))) ≡ Some r →
          (row_there (put_live N d (C k)) r ≡ true) × (read_there ps (table_rows sites entries) (put_live N d (C k)) r ≡ true)
      go None live e h = not_full e
      go (Some l) live e h =
          by l live (find_entry entries l.key (seen_at (site_of sites l.key) l)) refl
          (sym (found_put net runs sites entries ps b t.right t.fit t.within (C k) l (subst (LiveLooks (site_of sites)) live g.looks)) ∙ h)

  looks : (k : ℕ) → (D k).full ≡ false → looks_there (D k) (D k).site ≡ true
  looks k f = subst (λ (D : RowCircuit). looks_there D D.site ≡ true) (sym (along k)) (go (C k).live (goes_on k f).looks)
    where
      there : (l : JoinedToken) (w : Site) → LooksAt w l.lists → looks_there (put_live N (Some l) (C k)) w ≡ true
      there l nowhere h = refl
      there l on_sigs h = ap (nat_lt 0) (long_put N.tag l.lists.sigs) ∙ lt-ltb 0 (length l.lists.sigs) h
      there l on_boxes h = ap (nat_lt 0) (long_put N.tag l.lists.boxes) ∙ lt-ltb 0 (length l.lists.boxes) h
      there l on_value h = refl

      go : (d : Option JoinedToken) → LiveLooks (site_of sites) d → looks_there (put_live N d (C k)) (put_live N d (C k)).site ≡ true
      go None h = refl
      go (Some l) h = there l (site_of sites l.key) h

pub rows_along : RowsAlong
rows_along net runs sites entries ps t z mem k = along net runs sites entries ps t z mem k

pub row_needs : RowNeeds
row_needs net runs sites entries ps t z mem k r e f h = needs net runs sites entries ps t z mem k r e f h

pub row_looks_there : RowLooks
row_looks_there net runs sites entries ps t z mem k f = looks net runs sites entries ps t z mem k f

-- what they tell of a program
pub rows_mean : (m : TermTree) (typed : HasType [] m nat) (sound : Sound (net_of m)) (sites : List (ℕ × Site)) (entries : List Entry)
    (ps : ℕ → ℕ) → TableRuns (net_of m) sites entries ps → (z : Room) (mem : ℕ → ℕ → Pointer) (k : ℕ) →
    let D = rows_run (net_of m) sites entries ps z (memory_of sites entries mem) k in (D.full ≡ true) ⊎ RowsTell m k D
rows_mean m typed sound sites entries ps t z mem k =
    subst (λ (D : RowCircuit). (D.full ≡ true) ⊎ RowsTell m k D) (sym (rows_along (net_of m) runs sites entries ps t z mem k))
    (⊎_elim (λ e. inl (full_is N C ∙ e)) (λ h. by C.full refl (keeps_tells m typed sound C h))
    (clocks_keep (net_of m) runs T t.right z k (joined_powered (net_of m) mem) (at_power (net_of m) mem)))
  where
    runs : Runs (net_of m)
    runs = built_runs m typed sound

    N : Numbering
    N = numbering sites entries

    T : Table
    T = listed sites (entries_at ps entries)

    C : JoinedCircuit
    C = joined_circuit (net_of m) T z mem k

    told : C.full ≡ false → (d : Option JoinedToken) → C.live ≡ d → Asked d C.result → Tells m C.moves C.result C.moves →
        RowsTell m k (put_live N d C)
    told f None live a h = record {
      means = λ e. ((h.answers (left_answer C.result)).0 (a.1 ∙ ap Some (sym (ap left_answer a.1)))).0;
      length = λ e. h.as_long (left_answer C.result) (a.1 ∙ ap Some (sym (ap left_answer a.1)));
      waits = λ e. not_full e;
      goes = λ e. not_full e;
    }
    told f (Some l) live a h = record {
      means = λ e. not_full (sym e);
      length = λ e. not_full (sym e);
      waits = λ e. h.waits.0 a;
      goes = λ e. rows_move (net_of m) runs T t.right z mem k l f live;
    }

    by : (f : Bool) → C.full ≡ f → Tells m C.moves C.result C.moves → ((put N C).full ≡ true) ⊎ RowsTell m k (put N C)
    by true f h = inl (full_is N C ∙ f)
    by false f h =
        let same : C ≡ many_rows T k (joined_powered (net_of m) mem) = room_same (net_of m) T z mem k f in
        inr (told f C.live refl
        (subst (λ (D : JoinedCircuit). Asked D.live D.result) (sym same) (many_asked T k (joined_powered (net_of m) mem) refl)) h)
