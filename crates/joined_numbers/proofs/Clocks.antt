-- The numbers go along with the circuit, row by row.
use Rattle.std.proofs.Common.{◌≡◌, ◌⊎◌, ◌<◌, ℕ, zero, suc, ◌+◌, Bool, true, false, cond, List, [], ◌∷◌, ◌||◌, length, Option, Some, None}
use Rattle.std.proofs.Common.{refl, sym, ap, ◌∙◌, subst, inl, inr, ⊎_elim, arith}
use Rattle.std.specs.Prelude.{nat_lt, nat_eq, ◌&&◌}
use Rattle.std.proofs.lemmas.Bool.{and_parts, ltb-true, eqb-true}
use Rattle.net_build.specs.Nets.{NetTree}
use Rattle.move_rules.specs.Places.{TokenTree}
use Rattle.interleave_laws.specs.Runs.{Runs}
use Rattle.newest_core.specs.Processor.{Registers, ticks, reset}
use Rattle.joined_rows.specs.Open.{Term, Walker, asks, says, spot_of}
use Rattle.joined_rows.specs.Compound.{Pointer, terms_of, pointers_for, Lists, Account}
use Rattle.joined_rows.specs.Ticks.{NamedFork}
use Rattle.joined_core.specs.Rows.{Key, key_of, Site, nowhere, on_sigs, on_boxes, on_value, Seen, nothing}
use Rattle.joined_core.specs.Rows.{Source, a_sig, a_box, a_word, a_part, given_at, Second, Way, onwards, answers_run, answers_fork}
use Rattle.joined_core.specs.Rows.{Table, row_moves}
use Rattle.joined_core.specs.Right.{IsTable, seen_cell}
use Rattle.joined_core.specs.Listed.{Entry, listed, site_of}
use Rattle.joined_core.specs.Circuit.{JoinedToken, JoinedFork, JoinedCircuit, stuck, seen_at, row_names, value_of, amount_of}
use Rattle.joined_core.specs.Circuit.{ends, meets_fork, joined_row, row_found, row_on, a_row, Room, no_room, joined_clock, joined_clocks}
use Rattle.joined_core.specs.Laws.{IsToken, IsLive, Keeps}
use Rattle.joined_core.proofs.Told.{SourceFits, SourcesFit, WayRuns, RowRuns, row_runs, given_fits}
use Rattle.joined_core.proofs.Step.{ticks_add, Meets, ForkThere, row_long, row_forks}
use Rattle.joined_core.proofs.Follow.{run_meets, row_keeps}
use Rattle.joined_core.proofs.Room.{full_stays}
use Rattle.joined_module.specs.Rows.{sees_tag, ModuleRow, Numbering, numbering, row_sees, row_by_way}
use Rattle.joined_module.specs.Rows.{module_row, module_rows, walker_fits, walker_small, forks_fit, second_fork_fits, way_fits, rows_fit}
use Rattle.joined_module.specs.Machine.{Tagged, RowCircuit, seen_by, find_row, row_makes, too_many, if_room, row_made}
use Rattle.joined_module.specs.Machine.{row_clock, row_clocks, has_cell}
use Rattle.joined_numbers.specs.Within.{source_within, sources_within, named_within, looks_within, lands_within, boxes_within}
use Rattle.joined_numbers.specs.Within.{second_within}
use Rattle.joined_numbers.specs.Within.{way_within, row_within, seen_within, entry_within, rows_below}
use Rattle.joined_numbers.specs.At.{walker_at, named_at, way_at, row_at, entries_at}
use Rattle.joined_numbers.specs.Put.{put_forks, put_live, put}
use Rattle.joined_numbers.proofs.Found.{find_entry, entry_row, entry_number, found_at, entry_is, entry_has, row_found_by}
use Rattle.joined_numbers.proofs.Pointers.{SourceIn, pointer_put}
use Rattle.joined_numbers.proofs.Rows.{onwards_put, answers_put, meets_put}

-- where a pointer is looked at, there is one
abbrev pub LooksAt : Site → Lists → Type 0
LooksAt nowhere k = Unit {0}
LooksAt on_sigs k = 0 < length k.sigs
LooksAt on_boxes k = 0 < length k.boxes
LooksAt on_value k = Unit {0}

abbrev pub LiveLooks : (Key → Site) → Option JoinedToken → Type 0
LiveLooks f None = Unit {0}
LiveLooks f (Some k) = LooksAt (f k.key) k.lists

-- so what is seen is the same
pub seen_put : (N : Numbering) (C : JoinedCircuit) (k : JoinedToken) (w : Site) → LooksAt w k.lists →
    seen_by w (put_live N (Some k) C) ≡ row_sees N.tag (seen_at w k)
seen_put N C k nowhere h = refl
seen_put N C k on_sigs h = ap (λ (p : Tagged). sees_tag p.tag) (pointer_put N.tag k.lists.sigs 0 h)
seen_put N C k on_boxes h = ap (λ (p : Tagged). sees_tag p.tag) (pointer_put N.tag k.lists.boxes 0 h)
seen_put N C k on_value h = refl

-- a cell is seen where one is looked at
pub cell_looks : (w : Site) (k : JoinedToken) → seen_cell (seen_at w k) ≡ true → has_cell w ≡ true
cell_looks nowhere k e = absurd cc
cell_looks on_sigs k e = refl
cell_looks on_boxes k e = refl
cell_looks on_value k e = absurd cc

-- each source is there
one_in : (w : Site) (m n : ℕ) (e : Seen) → (seen_cell e ≡ true → has_cell w ≡ true) → (s : Source) → source_within m n s ≡ true →
    SourceFits e s → SourceIn w m n s
one_in w m n e c (a_sig i) h f = ltb-true i m h
one_in w m n e c (a_box i) h f = ltb-true i n h
one_in w m n e c (a_word i) h f = ltb-true i 2 h
one_in w m n e c (a_part x) h f = λ q. c (f q)

pub sources_in : (w : Site) (m n : ℕ) (e : Seen) → (seen_cell e ≡ true → has_cell w ≡ true) → (gs : List Source) →
    sources_within m n gs ≡ true → SourcesFit e gs → (j : ℕ) → SourceIn w m n (given_at gs j)
sources_in w m n e c [] h f j = λ q. absurd cc
sources_in w m n e c (s ∷ gs) h f zero =
    one_in w m n e c s (and_parts (source_within m n s) (sources_within m n gs) h).0 f.0
sources_in w m n e c (s ∷ gs) h f (suc j) =
    sources_in w m n e c gs (and_parts (source_within m n s) (sources_within m n gs) h).1 f.1 j

-- what a row leaves to look at
lists_look : (w : Site) (g : ℕ → Pointer) (n : ℕ) (xs ys : List Term) → looks_within w xs ys ≡ true →
    LooksAt w (record { sigs = pointers_for g n xs; boxes = pointers_for g n ys })
lists_look nowhere g n xs ys h = tt
lists_look on_value g n xs ys h = tt
lists_look on_sigs g n [] ys h = absurd cc
lists_look on_sigs g n (x ∷ xs) ys h = omega arith
lists_look on_boxes g n xs [] h = absurd cc
lists_look on_boxes g n xs (y ∷ ys) h = omega arith

lands_look : (sites : List (ℕ × Site)) (ps : ℕ → ℕ) (g : ℕ → Pointer) (n : ℕ) (y : Walker) → lands_within sites y ≡ true →
    LooksAt (site_of sites (key_of (walker_at ps y))) (record {
      sigs = pointers_for g n (terms_of (spot_of (walker_at ps y)).work);
      boxes = pointers_for g n (spot_of (walker_at ps y)).boxes;
    })
lands_look sites ps g n (asks s) h = lists_look (site_of sites (key_of (asks s))) g n (terms_of s.work) s.boxes h
lands_look sites ps g n (says a s) h = lists_look (site_of sites (key_of (says a s))) g n (terms_of s.work) s.boxes h

-- a token that the processor has
pub record IsThere (n : ℕ) (M : Account) (c : Option (ℕ × TokenTree)) (k : JoinedToken) : Type 0 where
  pub ticket : ℕ
  pub token : TokenTree
  pub live : c ≡ Some (ticket, token)
  pub is : IsToken n M token k

is_there : (n : ℕ) (M : Account) (c : Option (ℕ × TokenTree)) (d : Option JoinedToken) (k : JoinedToken) → IsLive n M c d → d ≡ Some k →
    IsThere n M c k
is_there n M None None k h e = absurd cc
is_there n M None (Some j) k h e = elim h [ ]
is_there n M (Some c) None k h e = elim h [ ]
is_there n M (Some c) (Some j) k h e =
    let same : j ≡ k = cc in record { ticket = c.0; token = c.1; live = refl; is = subst (IsToken n M c.1) same h }

-- a table whose rows are right of the net and fit
module _ (net : NetTree) (runs : Runs net) (sites : List (ℕ × Site)) (es : List Entry) (ps : ℕ → ℕ) (b : ℕ)
    (right : IsTable net (listed sites (entries_at ps es))) (fit : rows_fit es ≡ true) (within : rows_below sites b es ≡ true) where
  abbrev pub N : Numbering
  N = numbering sites es

  abbrev pub T : Table
  T = listed sites (entries_at ps es)

  abbrev pub rows : List ModuleRow
  rows = module_rows N es

  module _ (C : JoinedCircuit) (h : Keeps net C) (k : JoinedToken) (live : C.live ≡ Some k) where
    abbrev pub w : Site
    w = site_of sites k.key

    abbrev pub e : Seen
    e = seen_at w k

    abbrev pub R : Registers
    R = ticks net C.moves (reset net)

    pub meets : (j : ℕ) → Meets net (ticks net j R)
    meets j = subst (Meets net) (ticks_add net C.moves j (reset net)) (run_meets net runs (C.moves + j))

    pub there : IsThere C.store.top h.account R.live k
    there = is_there C.store.top h.account R.live C.live k h.live live

    -- the row that is found
    module _ (x : Entry) (o : find_entry es k.key e ≡ Some x) where
      pub is : (x.key ≡ k.key) × (x.seen ≡ e)
      is = entry_is es k.key e x o

      pub row_is : T.row k.key e ≡ Some (row_at ps x.row)
      row_is = found_at ps es k.key e ∙ ap (entry_row ps) o

      pub row_runs_there : RowRuns net w k.key e (row_at ps x.row)
      row_runs_there = row_runs net w k.key e (row_at ps x.row) (right k.key e (row_at ps x.row) row_is)

      pub fits : way_fits x.row.to x.row.way ≡ true
      fits =
          (and_parts (way_fits x.row.to x.row.way) (nat_lt (row_moves x.seen x.row) 256)
          (entry_has (λ e. way_fits e.row.to e.row.way && nat_lt (row_moves e.seen e.row) 256) rows_fit
          (λ x xs. refl) es k.key e x fit o)).0

      abbrev pub sources : Bool
      sources = sources_within (length (terms_of (spot_of x.row.from).work)) (length (spot_of x.row.from).boxes) x.row.given

      row_in : (sources ≡ true) × ((named_within b x.row.to && way_within sites b x.row.to.live x.row.way) ≡ true)
      row_in =
          and_parts sources (named_within b x.row.to && way_within sites b x.row.to.live x.row.way)
          (and_parts (seen_within (site_of sites x.key) x.seen) (row_within sites b x.row)
          (entry_has (entry_within sites b) (rows_below sites b) (λ x xs. refl) es k.key e x within o)).1

      pub way_in : way_within sites b x.row.to.live x.row.way ≡ true
      way_in = (and_parts (named_within b x.row.to) (way_within sites b x.row.to.live x.row.way) row_in.1).1

      pub given_in : (n : ℕ) → SourceIn (site_of sites x.key) (length k.lists.sigs) (length k.lists.boxes) (given_at x.row.given n)
      given_in =
          let long = row_long net T right R C h meets there.ticket there.token there.live k there.is (row_at ps x.row) row_runs_there in
          sources_in (site_of sites x.key) (length k.lists.sigs) (length k.lists.boxes) e
          (λ c. ap (λ k. has_cell (site_of sites k)) is.0 ∙ cell_looks w k c) x.row.given
          (subst (λ n. sources_within (length k.lists.sigs) n x.row.given ≡ true) long.1
          (subst (λ n. sources_within n (length (spot_of x.row.from).boxes) x.row.given ≡ true) long.0 row_in.0))
          row_runs_there.sources

      pub forked : (q : Second) → x.row.way ≡ answers_fork q → ForkThere net (record q { to = named_at ps q.to }) C.forks
      forked q way =
          row_forks net T right R C h meets there.ticket there.token there.live k there.is (row_at ps x.row) row_runs_there
          (record q { to = named_at ps q.to }) (ap (way_at ps) way)

      -- the circuit after it
      abbrev pub After : Way → JoinedCircuit
      After wy =
          ends (way_at ps wy) (named_at ps x.row.to) (row_names C.store (site_of sites x.key) k.lists x.row.given) k.value
          (amount_of (λ n. k.value)) (record C { moves = C.moves + row_moves x.seen (row_at ps x.row) })

      pub after_is : After x.row.way ≡ joined_row w e (row_at ps x.row) k C
      after_is =
          ap (λ c. joined_row (site_of sites c) x.seen (row_at ps x.row) k C) is.0 ∙ ap (λ f. joined_row w f (row_at ps x.row) k C) is.1

      -- a fork's box is one of it, and no word is read
      pub box_in : (q : Second) (f : JoinedFork) → second_within sites b q ≡ true → length q.boxes ≡ length f.boxes →
          SourcesFit nothing q.given →
          (n : ℕ) → SourceIn nowhere 0 (length f.boxes) (given_at q.given n)
      box_in q f h long fits =
          sources_in nowhere 0 (length f.boxes) nothing (λ c. absurd cc) q.given
          (subst (λ n. sources_within 0 n q.given ≡ true) long
          (and_parts (sources_within 0 (length q.boxes) q.given)
          (named_within b q.to && (lands_within sites q.to.live && boxes_within (length q.boxes) q.to.forks)) h).0) fits

      pub wordless : (q : Second) → SourcesFit nothing q.given → (n i : ℕ) → given_at q.given n ≡ a_word i → ⊥
      wordless q fits n i g = let no : false ≡ true = subst (SourceFits nothing) g (given_fits nothing q.given fits n) in absurd cc

      pub boxes_long : (n m : ℕ) (fs : List NamedFork) → boxes_within n fs ≡ true → n ≡ m → (g : NamedFork) → fs ≡ g ∷ [] →
          length g.boxes ≡ m
      boxes_long n m [] h l g q = absurd cc
      boxes_long n m (f ∷ fs) h l g q =
          let same : f ≡ g = cc in
          ap (λ (f : NamedFork). length f.boxes) (sym same)
          ∙ eqb-true (length f.boxes) n (and_parts (nat_eq (length f.boxes) n) (boxes_within n fs) h).0 ∙ l

      pub second_lands : (q : Second) → second_within sites b q ≡ true → lands_within sites q.to.live ≡ true
      second_lands q h =
          (and_parts (lands_within sites q.to.live) (boxes_within (length q.boxes) q.to.forks)
          (and_parts (named_within b q.to) (lands_within sites q.to.live && boxes_within (length q.boxes) q.to.forks)
          (and_parts (sources_within 0 (length q.boxes) q.given)
          (named_within b q.to && (lands_within sites q.to.live && boxes_within (length q.boxes) q.to.forks)) h).1).1).0

      pub second_boxes : (q : Second) → second_within sites b q ≡ true → boxes_within (length q.boxes) q.to.forks ≡ true
      second_boxes q h =
          (and_parts (lands_within sites q.to.live) (boxes_within (length q.boxes) q.to.forks)
          (and_parts (named_within b q.to) (lands_within sites q.to.live && boxes_within (length q.boxes) q.to.forks)
          (and_parts (sources_within 0 (length q.boxes) q.given)
          (named_within b q.to && (lands_within sites q.to.live && boxes_within (length q.boxes) q.to.forks)) h).1).1).1

      abbrev pub D : RowCircuit
      D = put_live N (Some k) C

      -- it is made of numbers
      pub after_put : (wy : Way) → x.row.way ≡ wy → row_makes ps (row_by_way N x wy) D ≡ put N (After wy)
      after_put onwards q =
          let f = and_parts (walker_fits x.row.to.live) (forks_fit x.row.to.live x.row.to.forks) (ap (way_fits x.row.to) (sym q) ∙ fits) in
          onwards_put N ps C k x is.0 given_in f.0 f.1
      after_put answers_run q = answers_put N ps C k x (ap (way_fits x.row.to) (sym q) ∙ fits)
      after_put (answers_fork q) o =
          let g = forked q o in
          let f = and_parts (walker_small x.row.to.live) (walker_fits q.to.live && second_fork_fits q.given q.to.live q.to.forks)
          (ap (way_fits x.row.to) (sym o) ∙ fits) in
          let f2 = and_parts (walker_fits q.to.live) (second_fork_fits q.given q.to.live q.to.forks) f.1 in
          let h = ap (way_within sites b x.row.to.live) (sym o) ∙ way_in in
          let m = subst (WayRuns net (named_at ps x.row.to)) (ap (way_at ps) o) row_runs_there.way in
          let fit = m.2.fits.1 in
          meets_put N ps C k x q g.fork g.around g.forks (box_in q g.fork h g.long fit) (wordless q fit) f.0 f2.0 f2.1
          (boxes_long (length q.boxes) (length g.fork.boxes) q.to.forks (second_boxes q h) g.long)
          ∙ ap (λ fs. put N (meets_fork fs (record q { to = named_at ps q.to }) k.value
          (value_of k.value (amount_of (λ n. k.value)) (walker_at ps x.row.to.live))
          (record C { moves = C.moves + row_moves x.seen (row_at ps x.row) }))) (sym g.forks)

      pub made : row_makes ps (module_row N x) D ≡ put N (joined_row w e (row_at ps x.row) k C)
      made = after_put x.row.way refl ∙ ap (put N) after_is

      -- and there is something to look at
      pub after_looks : (wy : Way) → x.row.way ≡ wy → LiveLooks (site_of sites) (After wy).live
      after_looks onwards q =
          lands_look sites ps (row_names C.store (site_of sites x.key) k.lists x.row.given) C.store.top x.row.to.live
          (ap (way_within sites b x.row.to.live) (sym q) ∙ way_in)
      after_looks answers_run q = tt
      after_looks (answers_fork q) o = go C.forks (forked q o).forks
        where
          inside : second_within sites b q ≡ true
          inside = ap (way_within sites b x.row.to.live) (sym o) ∙ way_in

          go : (fs : List JoinedFork) → fs ≡ (forked q o).fork ∷ (forked q o).around →
              LiveLooks (site_of sites) (meets_fork fs (record q { to = named_at ps q.to }) k.value
              (value_of k.value (amount_of (λ n. k.value)) (walker_at ps x.row.to.live))
              (record C { moves = C.moves + row_moves x.seen (row_at ps x.row) })).live
          go [] e = absurd cc
          go (f ∷ fs) e = lands_look sites ps _ f.top q.to.live (second_lands q inside)

      pub made_looks : LiveLooks (site_of sites) (joined_row w e (row_at ps x.row) k C).live
      made_looks = subst (λ (C : JoinedCircuit). LiveLooks (site_of sites) C.live) after_is (after_looks x.row.way refl)

  -- the circuit keeps to the processor, something is there to look at, and there is room
  pub record Goes (z : Room) (C : JoinedCircuit) : Type 0 where
    pub keeps : Keeps net C
    pub looks : LiveLooks (site_of sites) C.live
    pub room : no_room z C ≡ false

  -- the row that the circuit makes is found by numbers
  pub found_put : (C : JoinedCircuit) (k : JoinedToken) → LooksAt (site_of sites k.key) k.lists →
      find_row rows (N.key k.key) (seen_by (N.site k.key) (put_live N (Some k) C))
      ≡ entry_number N (find_entry es k.key (seen_at (site_of sites k.key) k))
  found_put C k l =
      ap (find_row rows (N.key k.key)) (seen_put N C k (site_of sites k.key) l)
      ∙ row_found_by sites es k.key (seen_at (site_of sites k.key) k)

  pub live_row : (C : JoinedCircuit) → C.full ≡ false → a_row T C ≡ row_on T C.live C
  live_row C e = ap (λ b. cond b C (row_on T C.live C)) e

  -- what is looked at behind it
  found_looks : (z : Room) (C : JoinedCircuit) → Goes z C → (k : JoinedToken) → C.live ≡ Some k → (o : Option Entry) →
      find_entry es k.key (seen_at (site_of sites k.key) k) ≡ o →
      LiveLooks (site_of sites) (row_found (site_of sites k.key) (seen_at (site_of sites k.key) k) (entry_row ps o) k C).live
  found_looks z C g k live None q = g.looks
  found_looks z C g k live (Some x) q = made_looks C g.keeps k live x q

  pub row_looks_on : (z : Room) (C : JoinedCircuit) → Goes z C → (d : Option JoinedToken) → C.live ≡ d →
      LiveLooks (site_of sites) (row_on T d C).live
  row_looks_on z C g None e = subst (LiveLooks (site_of sites)) (sym e) tt
  row_looks_on z C g (Some k) e =
      subst (λ o. LiveLooks (site_of sites) (row_found (site_of sites k.key) (seen_at (site_of sites k.key) k) o k C).live)
      (sym (found_at ps es k.key (seen_at (site_of sites k.key) k)))
      (found_looks z C g k e (find_entry es k.key (seen_at (site_of sites k.key) k)) refl)

  -- a cycle goes on so, or is full
  pub clock_goes : (z : Room) (C : JoinedCircuit) → (C.full ≡ true) ⊎ Goes z C →
      ((joined_clock T z C).full ≡ true) ⊎ Goes z (joined_clock T z C)
  clock_goes z C (inl e) = inl (full_stays T z 1 C e)
  clock_goes z C (inr g) = go (no_room z (a_row T C)) refl
    where
      A : JoinedCircuit
      A = a_row T C

      go : (b : Bool) → no_room z A ≡ b → ((cond b (stuck C) A).full ≡ true) ⊎ Goes z (cond b (stuck C) A)
      go true q = inl refl
      go false q = ⊎_elim inl (λ k. inr (record {
        keeps = k;
        looks = subst (λ (C : JoinedCircuit). LiveLooks (site_of sites) C.live) (sym (live_row C g.keeps.ready))
            (row_looks_on z C g C.live refl);
        room = q;
      })) (row_keeps net runs T right C g.keeps)

  pub clocks_go : (z : Room) (k : ℕ) (C : JoinedCircuit) → (C.full ≡ true) ⊎ Goes z C →
      ((joined_clocks T z k C).full ≡ true) ⊎ Goes z (joined_clocks T z k C)
  clocks_go z zero C g = g
  clocks_go z (suc k) C g = clocks_go z k (joined_clock T z C) (clock_goes z C g)

  -- numbers have no more room
  room_put : (z : Room) (C : JoinedCircuit) → too_many z (put N C) ≡ no_room z C
  room_put z C = go C.live
    where
      forks_long : (fs : List JoinedFork) → length (put_forks N.tag fs) ≡ length fs
      forks_long [] = refl
      forks_long (f ∷ fs) = ap suc (forks_long fs)

      go : (d : Option JoinedToken) → too_many z (put_live N d C) ≡ no_room z C
      go None = ap (λ n. nat_lt z.cells C.store.top || nat_lt z.forks n) (forks_long C.forks)
      go (Some k) = ap (λ n. nat_lt z.cells C.store.top || nat_lt z.forks n) (forks_long C.forks)

  full_put : (C : JoinedCircuit) → C.full ≡ true → (z : Room) → row_clock ps z rows (put N C) ≡ put N C
  full_put C e z = go C.live
    where
      go : (d : Option JoinedToken) → row_clock ps z rows (put_live N d C) ≡ put_live N d C
      go None = refl
      go (Some k) =
          ap (λ b. cond b (put_live N (Some k) C)
          (row_made ps z (find_row rows (N.key k.key) (seen_by (N.site k.key) (put_live N (Some k) C))) (put_live N (Some k) C))) e

  full_clock : (C : JoinedCircuit) → C.full ≡ true → (z : Room) → joined_clock T z C ≡ C
  full_clock C e z =
      ap (λ A. cond (no_room z A) (stuck C) A) (ap (λ b. cond b C (row_on T C.live C)) e) ∙ go (no_room z C)
    where
      go : (b : Bool) → cond b (stuck C) C ≡ C
      go true = ap (λ b. record C { full = b }) (sym e)
      go false = refl

  -- a row that is found, or isn't
  found_clock : (z : Room) (C : JoinedCircuit) → Goes z C → (k : JoinedToken) → C.live ≡ Some k → (o : Option Entry) →
      find_entry es k.key (seen_at (site_of sites k.key) k) ≡ o →
      row_made ps z (entry_number N o) (put_live N (Some k) C)
      ≡ put N (cond (no_room z (row_found (site_of sites k.key) (seen_at (site_of sites k.key) k) (entry_row ps o) k C)) (stuck C)
      (row_found (site_of sites k.key) (seen_at (site_of sites k.key) k) (entry_row ps o) k C))
  found_clock z C g k live None q =
      ap (λ d. put_live N d (stuck C)) (sym live) ∙ ap (put N) (go (no_room z (stuck C)))
    where
      go : (b : Bool) → stuck C ≡ cond b (stuck C) (stuck C)
      go true = refl
      go false = refl
  found_clock z C g k live (Some x) q =
      ap (λ E. if_room z E (put_live N (Some k) C)) (made C g.keeps k live x q)
      ∙ ap (λ b. cond b (record (put_live N (Some k) C) { full = true }) (put N A)) (room_put z A) ∙ go (no_room z A)
    where
      A : JoinedCircuit
      A = joined_row (site_of sites k.key) (seen_at (site_of sites k.key) k) (row_at ps x.row) k C

      go : (b : Bool) → cond b (record (put_live N (Some k) C) { full = true }) (put N A) ≡ put N (cond b (stuck C) A)
      go true = ap (λ d. put_live N d (stuck C)) (sym live)
      go false = refl

  live_clock : (z : Room) (C : JoinedCircuit) → Goes z C → (d : Option JoinedToken) → C.live ≡ d →
      row_clock ps z rows (put_live N d C) ≡ put N (cond (no_room z (row_on T d C)) (stuck C) (row_on T d C))
  live_clock z C g None e =
      ap (λ d. put_live N d C) (sym e) ∙ ap (λ b. put N (cond b (stuck C) C)) (sym g.room)
  live_clock z C g (Some k) e =
      ap (λ b. cond b (put_live N (Some k) C)
      (row_made ps z (find_row rows (N.key k.key) (seen_by (N.site k.key) (put_live N (Some k) C))) (put_live N (Some k) C))) g.keeps.ready
      ∙ ap (λ o. row_made ps z o (put_live N (Some k) C)) (found_put C k (subst (LiveLooks (site_of sites)) e g.looks))
      ∙ found_clock z C g k e (find_entry es k.key s) refl
      ∙ ap (λ o. put N (cond (no_room z (row_found (site_of sites k.key) s o k C)) (stuck C) (row_found (site_of sites k.key) s o k C)))
      (sym (found_at ps es k.key s))
    where
      s : Seen
      s = seen_at (site_of sites k.key) k

  -- a cycle of numbers is a cycle of the circuit
  pub clock_put : (z : Room) (C : JoinedCircuit) → (C.full ≡ true) ⊎ Goes z C → row_clock ps z rows (put N C) ≡ put N (joined_clock T z C)
  clock_put z C (inl e) = full_put C e z ∙ ap (put N) (sym (full_clock C e z))
  clock_put z C (inr g) =
      live_clock z C g C.live refl ∙ ap (λ A. put N (cond (no_room z A) (stuck C) A)) (sym (live_row C g.keeps.ready))

  pub clocks_put : (z : Room) (k : ℕ) (C : JoinedCircuit) → (C.full ≡ true) ⊎ Goes z C →
      row_clocks ps z rows k (put N C) ≡ put N (joined_clocks T z k C)
  clocks_put z zero C g = refl
  clocks_put z (suc k) C g =
      ap (row_clocks ps z rows k) (clock_put z C g) ∙ clocks_put z k (joined_clock T z C) (clock_goes z C g)
