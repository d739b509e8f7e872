-- A row that is found finds what it reads.
use Rattle.std.proofs.Common.{◌≡◌, ◌⊎◌, ◌<◌, ◌≤◌, ℕ, ◌+◌, max, Bool, true, false, cond, not, List, [], ◌∷◌, ◌||◌, length, Option, Some}
use Rattle.std.proofs.Common.{None, refl, sym, ap, ◌∙◌, subst, inl, inr, ⊎_elim, arith}
use Rattle.std.specs.Prelude.{nat_lt, nat_eq, ◌&&◌, is_some}
use Rattle.std.proofs.lemmas.Bool.{and_from, lt-ltb, eqb-true}
use Rattle.pcf_values.specs.declared.val.Val.{Val}
use Rattle.token_stacks.specs.Signatures.{Sig}
use Rattle.net_build.specs.Nets.{NetTree}
use Rattle.move_rules.specs.Places.{TokenTree, ask, ans, place_of}
use Rattle.interleave_laws.specs.Runs.{Runs}
use Rattle.newest_core.specs.Processor.{OpenFork, ticks, reset}
use Rattle.joined_rows.specs.Open.{Term, Amount, Walker, asks, says, spot_of}
use Rattle.joined_rows.specs.Compound.{Right as IsRight}
use Rattle.joined_rows.specs.Compound.{Pointer, Store, Low, AllRead, Account, back_to, terms_of}
use Rattle.joined_rows.specs.Ticks.{NamedFork, Named}
use Rattle.joined_rows.proofs.Compound.{given_back}
use Rattle.joined_core.specs.Rows.{Key, key_of, Site, nowhere, on_sigs, on_boxes, on_value, Seen, nothing, given_at}
use Rattle.joined_core.specs.Rows.{Source, a_sig, a_box, a_word, a_part}
use Rattle.joined_core.specs.Rows.{Second, Way, onwards, answers_run, answers_fork, row_moves}
use Rattle.joined_core.specs.Right.{IsTable, seen_cell}
use Rattle.joined_core.specs.Listed.{Entry, listed, site_of}
use Rattle.joined_core.specs.Circuit.{JoinedToken, JoinedFork, JoinedCircuit, looked_at, seen_at, row_names, fork_lists, fork_names}
use Rattle.joined_core.specs.Circuit.{token_on, amount_of, value_of, two_values, lands, meets_fork, Room}
use Rattle.joined_core.specs.Laws.{StandsAt, IsToken, IsStack}
use Rattle.joined_core.proofs.OneValue.{OneValue}
use Rattle.joined_core.proofs.Told.{SourcesFit, WayRuns, RowRuns, row_runs, given_fits}
use Rattle.joined_core.proofs.Fits.{given_low, seen_low, names_low}
use Rattle.joined_core.proofs.Step.{ForkThere}
use Rattle.joined_module.specs.Rows.{From, ModuleRow, Numbering, numbering, row_by_way, module_row, module_rows, rows_fit, first_given}
use Rattle.joined_module.specs.Rows.{second_given}
use Rattle.joined_module.specs.Rows.{first_from, second_from, terms_from, forks_opened, forks_answered, walker_worth, first_value}
use Rattle.joined_module.specs.Rows.{second_value, walker_operand}
use Rattle.joined_module.specs.Rows.{Operand, Worth, ForkDeed, landing_row, word_of_from, is_new_cell, row_looks, looks_at}
use Rattle.joined_module.specs.Rows.{row_words_read, sees_nothing, Sees}
use Rattle.joined_module.specs.Machine.{RowCircuit, innermost, looked_place, has_cell, seen_by, find_row, base_of, place_after, row_makes}
use Rattle.joined_module.specs.Machine.{same_sees, from_there, is_answered, is_open, row_there, takes_words, read_there}
use Rattle.joined_numbers.specs.Within.{rows_below, way_within}
use Rattle.joined_numbers.specs.At.{walker_at, named_at, way_at, row_at, entries_at}
use Rattle.joined_numbers.specs.Put.{put_forks, put_live, put}
use Rattle.joined_numbers.proofs.Found.{find_entry, entry_row, entry_number, found_at, row_key, row_found_by}
use Rattle.joined_numbers.proofs.Rows.{walker_key}
use Rattle.joined_numbers.proofs.Pointers.{SourceIn, looked_put, long_put}
use Rattle.joined_numbers.proofs.Clocks.{LooksAt, LiveLooks, cell_looks, e, there, is, row_runs_there, given_in}
use Rattle.joined_numbers.proofs.Clocks.{box_in, way_in, forked, after_put, after_looks, Goes, found_put}
use Rattle.joined_numbers.proofs.Needs.{terms_there, two_there, opened_there, source_there, walker_first_there, walker_second_there}
use Rattle.joined_numbers.proofs.Needs.{answered_there, terms_words, two_words_none, opened_words, answered_words, first_word}
use Rattle.joined_numbers.proofs.Needs.{second_word, looks_new}

-- all parts of a row that lands
all_of_it : (a b c d e : Bool) → a ≡ true → b ≡ true → c ≡ true → d ≡ true → e ≡ true → (a && (b && (c && (d && e)))) ≡ true
all_of_it a b c d e p q r s t = and_from a _ p (and_from b _ q (and_from c _ r (and_from d e s t)))

-- a row without words takes none
no_words : (a b c d : ℕ) → a ≡ 0 → b ≡ 0 → c ≡ 0 → d ≡ 0 → max a (max b (max c d)) ≡ 0
no_words a b c d p q r s = omega (arith, p, q, r, s)

-- a box of the fork
box_there : (tag : Term → ℕ) (D : RowCircuit) (n : ℕ) → length (innermost D.forks).boxes ≡ n → (s : Source) → SourceIn nowhere 0 n s →
    from_there D (second_from tag s) ≡ true
box_there tag D n l (a_sig i) h = refl
box_there tag D n l (a_box i) h = ap (nat_lt i) l ∙ lt-ltb i n h
box_there tag D n l (a_word i) h = refl
box_there tag D n l (a_part x) h = refl

module _ (net : NetTree) (runs : Runs net) (sites : List (ℕ × Site)) (es : List Entry) (ps : ℕ → ℕ) (b : ℕ)
    (right : IsTable net (listed sites (entries_at ps es))) (fit : rows_fit es ≡ true) (within : rows_below sites b es ≡ true) where
  abbrev M : Numbering
  M = numbering sites es

  -- where no cell is seen, a row takes no words
  row_words : (x : Entry) (k : Key) (e : Seen) → find_entry es k e ≡ Some x → seen_cell e ≡ false → row_words_read (module_row M x) ≡ 0
  row_words x k e o c = go x.row.way
    where
      fits : SourcesFit e x.row.given
      fits = (row_runs net (site_of sites k) k e (row_at ps x.row)
          (right k e (row_at ps x.row) (found_at ps es k e ∙ ap (entry_row ps) o))).sources

      first : (n : ℕ) → word_of_from (Some (first_given M x n)) ≡ 0
      first n = first_word M.tag (M.site x.key) e c x.row.given fits n

      go : (wy : Way) → row_words_read (row_by_way M x wy) ≡ 0
      go onwards =
          no_words _ _ _ _ (terms_words M.tag (first_given M x) first (terms_of (spot_of x.row.to.live).work))
          (terms_words M.tag (first_given M x) first (spot_of x.row.to.live).boxes) (two_words_none M.tag (first_given M x) first)
          (opened_words M.tag (first_given M x) first x.row.to.forks)
      go answers_run = refl
      go (answers_fork q) =
          let second : ((n : ℕ) → word_of_from (Some (second_given M q n)) ≡ 0) = λ n. second_word M.tag (given_at q.given n) in
          no_words _ _ _ _ (terms_words M.tag (second_given M q) second (terms_of (spot_of q.to.live).work))
          (terms_words M.tag (second_given M q) second (spot_of q.to.live).boxes) (two_words_none M.tag (second_given M q) second)
          (answered_words (second_value (walker_operand x.row.to.live)) q.to.forks)

  entry_words : (k : Key) (e : Seen) → seen_cell e ≡ false → (o : Option Entry) → find_entry es k e ≡ o →
      takes_words (entry_number M o) ≡ false
  entry_words k e c None q = refl
  entry_words k e c (Some x) q = ap (nat_lt 0) (row_words x k e q c)

  -- so where nothing is seen, none is taken at any key
  finds_key : (xs : List Entry) (n : ℕ) (e : Sees) (m : ModuleRow) → find_row (module_rows M xs) n e ≡ Some m →
      (y : Entry) × (M.key y.key ≡ n)
  finds_key [] n e m h = absurd cc
  finds_key (x ∷ xs) n e m h =
      go (nat_eq (module_row M x).key n) (same_sees (module_row M x).sees e) refl h (λ h. finds_key xs n e m h)
    where
      go : (c d : Bool) → nat_eq (module_row M x).key n ≡ c → cond (c && d) (Some (module_row M x)) (find_row
          (module_rows M xs) n e) ≡ Some m →
          (find_row (module_rows M xs) n e ≡ Some m → (y : Entry) × (M.key y.key ≡ n)) → (y : Entry) × (M.key y.key ≡ n)
      go false d q h rest = rest h
      go true false q h rest = rest h
      go true true q h rest = (x, sym (row_key M x) ∙ eqb-true (module_row M x).key n q)

  nothing_taken : (n : ℕ) → takes_words (find_row (module_rows M es) n sees_nothing) ≡ false
  nothing_taken n = go (find_row (module_rows M es) n sees_nothing) refl
    where
      go : (o : Option ModuleRow) → find_row (module_rows M es) n sees_nothing ≡ o →
          takes_words (find_row (module_rows M es) n sees_nothing) ≡ false
      go None h = ap takes_words h
      go (Some m) h =
          let y = finds_key es n sees_nothing m h in
          ap (λ n. takes_words (find_row (module_rows M es) n sees_nothing)) (sym y.1)
          ∙ ap takes_words (row_found_by sites es y.0.key nothing)
          ∙ entry_words y.0.key nothing refl (find_entry es y.0.key nothing) refl

  module _ (z : Room) (C : JoinedCircuit) (g : Goes net runs sites es ps b right fit within z C) (k : JoinedToken) (live : C.live ≡ Some k)
      (x : Entry) (o : find_entry es k.key (seen_at (site_of sites k.key) k) ≡ Some x) where
    abbrev v : Site
    v = site_of sites k.key

    abbrev s : Seen
    s = seen_at v k

    abbrev D : RowCircuit
    D = put_live M (Some k) C

    abbrev A : Account
    A = g.keeps.account

    found : (x.key ≡ k.key) × (x.seen ≡ s)
    found = is net runs sites es ps b right fit within C g.keeps k live x o

    runs_there : RowRuns net v k.key s (row_at ps x.row)
    runs_there = row_runs_there net runs sites es ps b right fit within C g.keeps k live x o

    looks : LooksAt v k.lists
    looks = subst (LiveLooks (site_of sites)) live g.looks

    stands : StandsAt C.store.top A (place_of (there net runs sites es ps b right fit within C g.keeps k live).token) k
    stands = go (there net runs sites es ps b right fit within C g.keeps k live).token
        (there net runs sites es ps b right fit within C g.keeps k live).is
      where
        go : (t : TokenTree) → IsToken C.store.top A t k → StandsAt C.store.top A (place_of t) k
        go (ask p) t = t.1
        go (ans v p) t = t.2

    -- the cell that is looked at is in use
    low : seen_cell s ≡ true → (has_cell v ≡ true) × (looked_place v D.sigs D.boxes < D.top)
    low c = (
      cell_looks v k c,
      subst (λ n. n < C.store.top) (sym (looked_put M.tag v k.lists))
          (seen_low C.store A g.keeps.right v k (row_at ps x.row) _ _ stands.sigs stands.boxes c),
    )

    first_sources : (n : ℕ) → from_there D (first_given M x n) ≡ true
    first_sources n =
        ap (λ c. from_there D (first_from M.tag (M.site c) (given_at x.row.given n))) found.0
        ∙ source_there M.tag D k v refl refl looks refl low (given_at x.row.given n)
        (subst (λ c. SourceIn (site_of sites c) (length k.lists.sigs) (length k.lists.boxes) (given_at x.row.given n)) found.0
        (given_in net runs sites es ps b right fit within C g.keeps k live x o n))
        (given_fits s x.row.given runs_there.sources n)

    fork_of : (q : Second) → x.row.way ≡ answers_fork q → ForkThere net (record q { to = named_at ps q.to }) C.forks
    fork_of q way = forked net runs sites es ps b right fit within C g.keeps k live x o q way

    there_by : (wy : Way) → x.row.way ≡ wy → row_there D (row_by_way M x wy) ≡ true
    there_by onwards q =
        all_of_it _ _ _ _ _ (terms_there M.tag D (first_given M x) first_sources (terms_of (spot_of x.row.to.live).work))
        (terms_there M.tag D (first_given M x) first_sources (spot_of x.row.to.live).boxes)
        (two_there M.tag D (first_given M x) first_sources)
        (opened_there M.tag D (first_given M x) first_sources x.row.to.forks) (walker_first_there D x.row.to.live)
    there_by answers_run q = walker_first_there D x.row.to.live
    there_by (answers_fork q) way =
        all_of_it _ _ _ _ _ (terms_there M.tag D (second_given M q) second_sources (terms_of (spot_of q.to.live).work))
        (terms_there M.tag D (second_given M q) second_sources (spot_of q.to.live).boxes)
        (two_there M.tag D (second_given M q) second_sources)
        (answered_there ps D x.row.to.live (ap (λ fs. is_open (put_forks M.tag fs)) f.forks) q.to.forks (came (λ p. p.1) f.answered))
        (walker_second_there ps D x.row.to.live q.to.live (came (λ p. p.0) f.answered))
      where
        f : ForkThere net (record q { to = named_at ps q.to }) C.forks
        f = fork_of q way

        came : {B : Type 0} → (OneValue (named_at ps q.to) → B) → OneValue (named_at ps q.to) ⊎ ((u : Val) × (f.fork.answered ≡ Some u)) →
            B ⊎ (is_answered D.forks ≡ true)
        came h (inl a) = inl (h a)
        came h (inr c) = inr (ap (λ fs. is_answered (put_forks M.tag fs)) f.forks ∙ ap is_some c.1)

        long : length (innermost D.forks).boxes ≡ length f.fork.boxes
        long = ap (λ fs. length (innermost (put_forks M.tag fs)).boxes) f.forks ∙ long_put M.tag f.fork.boxes

        second_sources : (n : ℕ) → from_there D (second_given M q n) ≡ true
        second_sources n =
            box_there M.tag D (length f.fork.boxes) long (given_at q.given n)
            (box_in net runs sites es ps b right fit within C g.keeps k live x o q f.fork
            (ap (way_within sites b x.row.to.live) (sym way) ∙ way_in net runs sites es ps b right fit within C g.keeps k live x o)
            f.long (subst (WayRuns net (named_at ps x.row.to)) (ap (way_at ps) way) runs_there.way).2.fits.1 n)

    pub found_there : row_there D (module_row M x) ≡ true
    found_there = there_by x.row.way refl

    -- ---- what is read of a cell was there

    -- a row that lands
    module _ (h : ℕ → From) (Y : Named) (d : ForkDeed) (wth : Worth) (V : Store) (G : ℕ → Pointer) (vs : Amount → Val)
        (gs : List JoinedFork) (F : JoinedCircuit) where
      abbrev m : ModuleRow
      m = landing_row M x h Y d wth

      abbrev E : JoinedCircuit
      E = lands (named_at ps Y) V G k.value vs gs F

      abbrev k2 : JoinedToken
      k2 = token_on G V.top k.value vs (walker_at ps Y.live)

      new_or_low : ((j : ℕ) → Low V.top (G j)) → (y : Walker) (W : Site) → seen_cell (seen_at W (token_on G V.top k.value vs
          (walker_at ps y))) ≡ true →
          (is_new_cell (looks_at false W (terms_from M.tag h (terms_of (spot_of y).work)) (terms_from M.tag h (spot_of y).boxes)) ≡ true)
          ⊎ ((looked_at W (token_on G V.top k.value vs (walker_at ps y)).lists).place < V.top)
      new_or_low lows y nowhere c = absurd cc
      new_or_low lows y on_value c = absurd cc
      new_or_low lows (asks t) on_sigs c = looks_new M.tag h G V.top lows (terms_of t.work) c
      new_or_low lows (says a t) on_sigs c = looks_new M.tag h G V.top lows (terms_of t.work) c
      new_or_low lows (asks t) on_boxes c = looks_new M.tag h G V.top lows t.boxes c
      new_or_low lows (says a t) on_boxes c = looks_new M.tag h G V.top lows t.boxes c

      landing_read : row_makes ps m D ≡ put M E → base_of m D ≡ V.top → ((j : ℕ) → Low V.top (G j)) →
          LiveLooks (site_of sites) E.live → read_there ps (module_rows M es) D m ≡ true
      landing_read is base lows look =
          ap (λ o. is_new_cell (row_looks m) || (nat_lt (place_after m D) (base_of m D) || not (takes_words o))) next
          ∙ go (find_entry es k2.key (seen_at (site_of sites k2.key) k2)) refl
        where
          same : key_of (walker_at ps Y.live) ≡ key_of Y.live
          same = walker_key ps Y.live

          next : find_row (module_rows M es) m.to (seen_by m.site (row_makes ps m D))
              ≡ entry_number M (find_entry es k2.key (seen_at (site_of sites k2.key) k2))
          next =
              ap (λ D. find_row (module_rows M es) m.to (seen_by m.site D)) is
              ∙ ap (λ c. find_row (module_rows M es) (M.key c) (seen_by (M.site c) (put M E))) (sym same)
              ∙ found_put net runs sites es ps b right fit within E k2 look

          place : place_after m D ≡ (looked_at m.site k2.lists).place
          place =
              ap (λ (D : RowCircuit). looked_place m.site D.sigs D.boxes) is ∙ looked_put M.tag m.site k2.lists

          last : (a b c : Bool) → c ≡ false → (a || (b || not c)) ≡ true
          last true b c e = refl
          last false true c e = refl
          last false false c e = ap not e

          first : (a b c : Bool) → a ≡ true → (a || (b || c)) ≡ true
          first a b c e = ap (λ a. a || (b || c)) e

          middle : (a b c : Bool) → b ≡ true → (a || (b || c)) ≡ true
          middle true b c e = refl
          middle false b c e = ap (λ b. b || c) e

          go : (o : Option Entry) → find_entry es k2.key (seen_at (site_of sites k2.key) k2) ≡ o →
              (is_new_cell (row_looks m) || (nat_lt (place_after m D) (base_of m D) || not (takes_words (entry_number M o)))) ≡ true
          go o q = by (seen_cell (seen_at (site_of sites k2.key) k2)) refl
            where
              by : (c : Bool) → seen_cell (seen_at (site_of sites k2.key) k2) ≡ c →
                  (is_new_cell (row_looks m) || (nat_lt (place_after m D) (base_of m D) || not (takes_words (entry_number M o)))) ≡ true
              by false c =
                  last (is_new_cell (row_looks m)) (nat_lt (place_after m D) (base_of m D)) (takes_words (entry_number M o))
                  (entry_words k2.key (seen_at (site_of sites k2.key) k2) c o q)
              by true c =
                  ⊎_elim
                  (λ n. first (is_new_cell (row_looks m)) (nat_lt (place_after m D) (base_of m D)) (not (takes_words (entry_number M o))) n)
                  (λ l. middle (is_new_cell (row_looks m)) (nat_lt (place_after m D) (base_of m D)) (not (takes_words (entry_number M o)))
                  (ap (λ n. nat_lt n (base_of m D)) place ∙ ap (nat_lt (looked_at m.site k2.lists).place) base
                  ∙ lt-ltb (looked_at m.site k2.lists).place V.top l))
                  (new_or_low lows Y.live m.site (subst (λ c. seen_cell (seen_at (site_of sites c) k2) ≡ true) same c))

    first_low : (j : ℕ) → Low C.store.top (row_names C.store (site_of sites x.key) k.lists x.row.given j)
    first_low =
        subst (λ c. (j : ℕ) → Low C.store.top (row_names C.store (site_of sites c) k.lists x.row.given j)) (sym found.0)
        (names_low C.store A g.keeps.right v k (row_at ps x.row) _ _ stands.sigs stands.boxes runs_there.sources)

    -- the boxes of the innermost fork stand for what they did when it was opened
    stack_first : (n : ℕ) (os : List OpenFork) (f : JoinedFork) (gs : List JoinedFork) → IsStack n A os (f ∷ gs) →
        (bs : List Sig) × (AllRead f.top A f.boxes bs × (f.top ≤ n))
    stack_first n [] f gs h = elim h [ ]
    stack_first n (o ∷ os) f gs h = (o.boxes, (h.0.boxes, h.0.low))

    read_by : (wy : Way) → x.row.way ≡ wy → read_there ps (module_rows M es) D (row_by_way M x wy) ≡ true
    read_by onwards q =
        landing_read (first_given M x) x.row.to (forks_opened M.tag (first_given M x) x.row.to.forks)
        (walker_worth first_value x.row.to.live)
        C.store (row_names C.store (site_of sites x.key) k.lists x.row.given) (amount_of (λ n. k.value)) C.forks
        (record C { moves = C.moves + row_moves x.seen (row_at ps x.row) })
        (after_put net runs sites es ps b right fit within C g.keeps k live x o onwards q) (base x.row.to.forks) first_low
        (after_looks net runs sites es ps b right fit within C g.keeps k live x o onwards q)
      where
        base : (fs : List NamedFork) → base_of
            (landing_row M x (first_given M x) x.row.to (forks_opened M.tag (first_given M x) fs)
            (walker_worth first_value x.row.to.live)) D
            ≡ C.store.top
        base [] = refl
        base (f ∷ fs) = refl
    read_by answers_run q =
        ap (λ c. nat_lt (place_after (row_by_way M x answers_run) D) (base_of (row_by_way M x answers_run) D) || not c) (nothing_taken 0)
        ∙ or_true (nat_lt (place_after (row_by_way M x answers_run) D) (base_of (row_by_way M x answers_run) D))
      where
        or_true : (c : Bool) → (c || true) ≡ true
        or_true true = refl
        or_true false = refl
    read_by (answers_fork q) way =
        landing_read (second_given M q) q.to (forks_answered F q.to.forks) (walker_worth F q.to.live) V (fork_names V q f.fork)
        (amount_of (two_values a f.fork.answered)) f.around (record C { moves = C.moves + row_moves x.seen (row_at ps x.row) })
        (after_put net runs sites es ps b right fit within C g.keeps k live x o (answers_fork q) way
        ∙ ap (λ fs. put M (meets_fork fs (record q { to = named_at ps q.to }) k.value a
        (record C { moves = C.moves + row_moves x.seen (row_at ps x.row) }))) f.forks)
        (base q.to.forks ∙ ap (λ fs. (innermost (put_forks M.tag fs)).top) f.forks)
        (given_low V A back_right nowhere (fork_lists f.fork) q.given [] stack.0 tt stack.1.0 fits)
        (ap_looks (after_looks net runs sites es ps b right fit within C g.keeps k live x o (answers_fork q) way))
      where
        f : ForkThere net (record q { to = named_at ps q.to }) C.forks
        f = fork_of q way

        F : ℕ → Operand
        F = second_value (walker_operand x.row.to.live)

        a : Val
        a = value_of k.value (amount_of (λ n. k.value)) (walker_at ps x.row.to.live)

        V : Store
        V = back_to C.store f.fork.top

        fits : SourcesFit nothing q.given
        fits = (subst (WayRuns net (named_at ps x.row.to)) (ap (way_at ps) way) runs_there.way).2.fits.1

        stack : (bs : List Sig) × (AllRead f.fork.top A f.fork.boxes bs × (f.fork.top ≤ C.store.top))
        stack =
            stack_first C.store.top (ticks net C.moves (reset net)).forks f.fork f.around
            (subst (IsStack C.store.top A (ticks net C.moves (reset net)).forks) f.forks g.keeps.forks)

        back_right : IsRight V A
        back_right = given_back C.store A g.keeps.right f.fork.top stack.1.1

        base : (fs : List NamedFork) →
            base_of (landing_row M x (second_given M q) q.to (forks_answered F fs) (walker_worth F q.to.live)) D ≡ (innermost D.forks).top
        base [] = refl
        base (f ∷ fs) = refl

        ap_looks : LiveLooks (site_of sites) (meets_fork C.forks (record q { to = named_at ps q.to }) k.value a
            (record C { moves = C.moves + row_moves x.seen (row_at ps x.row) })).live →
            LiveLooks (site_of sites) (lands (named_at ps q.to) V (fork_names V q f.fork) k.value (amount_of (two_values a f.fork.answered))
            f.around (record C { moves = C.moves + row_moves x.seen (row_at ps x.row) })).live
        ap_looks = subst (λ fs. LiveLooks (site_of sites) (meets_fork fs (record q { to = named_at ps q.to }) k.value a
            (record C { moves = C.moves + row_moves x.seen (row_at ps x.row) })).live) f.forks

    pub found_reads : read_there ps (module_rows M es) D (module_row M x) ≡ true
    found_reads = read_by x.row.way refl
