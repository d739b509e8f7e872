-- A row is made of numbers as it is of pointers.
use Rattle.std.proofs.Common.{◌≡◌, ℕ, zero, suc, ◌+◌, Bool, true, false, cond, List, [], ◌∷◌, ◌||◌, length, Option, Some, None}
use Rattle.std.proofs.Common.{refl, sym, ap, ◌∙◌, arith}
use Rattle.std.specs.Prelude.{◌&&◌}
use Rattle.std.proofs.lemmas.Bool.{and_parts, or_right, eqb-true}
use Rattle.pcf_values.specs.declared.val.Val.{Val}
use Rattle.verilog_tree.specs.Meaning.{flag}
use Rattle.joined_rows.specs.Open.{Term, named, Spot, Walker, asks, says, spot_of}
use Rattle.joined_rows.specs.Compound.{Pointer, Store, back_to, terms_of, pointer_for, pointers_for}
use Rattle.joined_rows.specs.Ticks.{NamedHalf, waiting, left, NamedFork, Named}
use Rattle.joined_core.specs.Rows.{key_of, Site, nowhere, Seen, Source, a_box, a_word, given_at}
use Rattle.joined_core.specs.Rows.{Second, Way, onwards, answers_run, answers_fork, JoinedRow, row_moves, way_moves, test_moves}
use Rattle.joined_core.specs.Circuit.{JoinedToken, JoinedFork, JoinedCircuit, pointer_at, looked_at, source_of, row_names, any_new}
use Rattle.joined_core.specs.Circuit.{forks_new}
use Rattle.joined_core.specs.Circuit.{makes_cell, top_by, forks_on, value_of, amount_of, stored, lands, two_values}
use Rattle.joined_core.specs.Circuit.{left_answer, fork_lists, fork_names}
use Rattle.joined_core.specs.Listed.{Entry}
use Rattle.joined_module.specs.Rows.{From, Operand, Worth, ForkDeed, ModuleRow}
use Rattle.joined_module.specs.Rows.{Numbering, walker_worth, first_value, second_value}
use Rattle.joined_module.specs.Rows.{walker_operand, forks_opened, half_answered, forks_answered, landing_row}
use Rattle.joined_module.specs.Rows.{first_given, second_given, row_by_way, is_small, walker_fits, walker_small, half_fits, forks_fit}
use Rattle.joined_module.specs.Rows.{is_box, is_fork_box, fork_boxes_stay, half_came, second_fork_fits}
use Rattle.joined_module.specs.Machine.{Tagged, RowFork, RowCircuit, innermost, around, looked_place, base_of, pointer_from}
use Rattle.joined_module.specs.Machine.{pointers_from, operand_value, worth_value, forks_after, cells_after, row_makes}
use Rattle.joined_numbers.specs.At.{walker_at, forks_at, named_at, way_at, row_at}
use Rattle.joined_numbers.specs.Put.{put_pointer, put_pointers, put_cells, put_forks, put_live, put}
use Rattle.joined_numbers.proofs.Values.{left_is, half_small, operand_is, walker_is, kept_is, answered_is}
use Rattle.joined_numbers.proofs.Pointers.{SourceIn, looked_put, first_put, second_put, terms_put, cells_put}

-- a text at some numbers of the ports stands where it stood
pub walker_spot : (ps : ℕ → ℕ) (x : Walker) → spot_of (walker_at ps x) ≡ spot_of x
walker_spot ps (asks s) = refl
walker_spot ps (says a s) = refl

pub walker_key : (ps : ℕ → ℕ) (x : Walker) → key_of (walker_at ps x) ≡ key_of x
walker_key ps (asks s) = refl
walker_key ps (says a s) = refl

pub new_at : (ps : ℕ → ℕ) (fs : List NamedFork) → forks_new (forks_at ps fs) ≡ forks_new fs
new_at ps [] = refl
new_at ps (f ∷ fs) = ap (λ b. any_new f.boxes || b) (new_at ps fs)

pub makes_at : (ps : ℕ → ℕ) (Y : Named) → makes_cell (named_at ps Y) ≡ makes_cell Y
makes_at ps Y =
    ap (λ (s : Spot). any_new (terms_of s.work) || (any_new s.boxes || forks_new (forks_at ps Y.forks))) (walker_spot ps Y.live)
    ∙ ap (λ b. any_new (terms_of (spot_of Y.live).work) || (any_new (spot_of Y.live).boxes || b)) (new_at ps Y.forks)

pub moves_at : (ps : ℕ → ℕ) (e : Seen) (r : JoinedRow) → row_moves e (row_at ps r) ≡ row_moves e r
moves_at ps e r = ap (λ n. test_moves e + (r.moves + n)) (go r.way)
  where
    go : (w : Way) → way_moves (way_at ps w) ≡ way_moves w
    go onwards = refl
    go answers_run = refl
    go (answers_fork q) = refl

-- registers of these fields
abbrev regs : ℕ → Site → Val → (sigs boxes : List Tagged) → (ℕ → Tagged) → (ℕ → ℕ → Tagged) → ℕ → List RowFork → Bool → Bool → ℕ →
    RowCircuit
regs k w v ss bs r c t fs e f n = record {
  key = k;
  site = w;
  value = v;
  sigs = ss;
  boxes = bs;
  read = r;
  cells = c;
  top = t;
  forks = fs;
  ended = e;
  full = f;
  moves = n;
}

same_regs : (e f : Bool) {k l : ℕ} {w x : Site} {v u : Val} {ss ts bs cs : List Tagged} {r s : ℕ → Tagged} {c d : ℕ → ℕ → Tagged}
    {t o : ℕ} {fs gs : List RowFork} {m n : ℕ} → k ≡ l → w ≡ x → v ≡ u → ss ≡ ts → bs ≡ cs → r ≡ s → c ≡ d → t ≡ o → fs ≡ gs → m ≡ n →
    regs k w v ss bs r c t fs e f m ≡ regs l x u ts cs s d o gs e f n
same_regs e f h1 h2 h3 h4 h5 h6 h7 h8 h9 h10 = cc

stored_top : (b : Bool) (V : Store) (g : ℕ → Pointer) → V.top + flag b ≡ (stored b V g).top
stored_top true V g = omega arith
stored_top false V g = omega arith

module _ (N : Numbering) (ps : ℕ → ℕ) (C : JoinedCircuit) (k : JoinedToken) where
  abbrev D : RowCircuit
  D = put_live N (Some k) C

  -- a row that lands, from these pointers and over this store
  module _ (x : Entry) (g : ℕ → From) (Y : Named) (d : ForkDeed) (w : Worth) (V : Store) (G : ℕ → Pointer) (vs : ℕ → Val)
      (gs : List JoinedFork) where
    abbrev m : ModuleRow
    m = landing_row N x g Y d w

    abbrev Z : Named
    Z = named_at ps Y

    abbrev E : JoinedCircuit
    E = lands Z V G k.value (amount_of vs) gs (record C { moves = C.moves + row_moves x.seen (row_at ps x.row) })

    pub landing_put : base_of m D ≡ V.top → V.words ≡ C.store.words → ((n : ℕ) → pointer_from m D (g n) ≡ put_pointer N.tag (G n)) →
        worth_value ps D w ≡ value_of k.value (amount_of vs) Z.live → forks_after ps m D d ≡ put_forks N.tag E.forks →
        row_makes ps m D ≡ put N E
    landing_put base words names worth forks =
        same_regs false C.full
        (ap N.key (sym (walker_key ps Y.live)))
        site worth sigs boxes
        (ap (λ (c : ℕ → ℕ → Tagged). c (looked_place m.site (pointers_from m D m.sigs) (pointers_from m D m.boxes))) cells
        ∙ ap (λ w. put_cells N.tag E.store.words (looked_place w (pointers_from m D m.sigs) (pointers_from m D m.boxes))) site
        ∙ ap (λ ss. put_cells N.tag E.store.words (looked_place (N.site (key_of Z.live)) ss (pointers_from m D m.boxes))) sigs
        ∙ ap (λ bs. put_cells N.tag E.store.words
        (looked_place (N.site (key_of Z.live)) (put_pointers N.tag (pointers_for G V.top (terms_of (spot_of Z.live).work))) bs)) boxes)
        cells top forks
        (ap (λ n. C.moves + n) (sym (moves_at ps x.seen x.row)))
      where
        site : N.site (key_of Y.live) ≡ N.site (key_of Z.live)
        site = ap N.site (sym (walker_key ps Y.live))

        sigs : pointers_from m D m.sigs ≡ put_pointers N.tag (pointers_for G V.top (terms_of (spot_of Z.live).work))
        sigs =
            terms_put N.tag m D V base g G names (terms_of (spot_of Y.live).work)
            ∙ ap (λ (s : Spot). put_pointers N.tag (pointers_for G V.top (terms_of s.work))) (sym (walker_spot ps Y.live))

        boxes : pointers_from m D m.boxes ≡ put_pointers N.tag (pointers_for G V.top (spot_of Z.live).boxes)
        boxes =
            terms_put N.tag m D V base g G names (spot_of Y.live).boxes
            ∙ ap (λ (s : Spot). put_pointers N.tag (pointers_for G V.top s.boxes)) (sym (walker_spot ps Y.live))

        cells : cells_after m D ≡ put_cells N.tag E.store.words
        cells =
            cells_put N.tag m D V base g G names (ap (put_cells N.tag) (sym words)) refl
            ∙ ap (λ b. put_cells N.tag (stored b V G).words) (sym (makes_at ps Y))

        top : base_of m D + flag m.makes ≡ E.store.top
        top =
            ap (λ n. n + flag m.makes) base ∙ stored_top m.makes V G ∙ ap (λ b. (stored b V G).top) (sym (makes_at ps Y))

  -- ---- a first part

  -- forks that it opens
  opened_put : (m : ModuleRow) (g : ℕ → From) (G : ℕ → Pointer) (base : base_of m D ≡ C.store.top) →
      ((n : ℕ) → pointer_from m D (g n) ≡ put_pointer N.tag (G n)) → (x : Walker) (fs : List NamedFork) → forks_fit x fs ≡ true →
      (forks_new fs ≡ true → m.makes ≡ true) →
      forks_after ps m D (forks_opened N.tag g fs)
      ≡ put_forks N.tag (forks_on G C.store.top (amount_of (λ n. k.value)) (forks_at ps fs) C.forks)
  opened_put m g G base names x [] fit new = refl
  opened_put m g G base names x (f ∷ f' ∷ fs) fit new = absurd cc
  opened_put m g G base names x (f ∷ []) fit new =
      same_open (terms_put N.tag m D C.store base g G names f.boxes)
      (kept_is ps D first_value (λ n. k.value) (λ n. refl) f.half (small f.half fit)) (top (forks_new (f ∷ [])) m.makes new)
    where
      small : (h : NamedHalf) → half_fits x h ≡ true → half_small h ≡ true
      small (waiting q) e = refl
      small (left a) e = (and_parts (is_small a) (walker_small x) e).0

      top : (b c : Bool) → (b ≡ true → c ≡ true) → base_of m D + cond b (flag c) 0 ≡ top_by b C.store.top
      top true true h = omega (arith, base)
      top true false h = let e = h refl in absurd cc
      top false c h = omega (arith, base)

      same_open : {bs cs : List Tagged} {o q : Option Val} {t u : ℕ} → bs ≡ cs → o ≡ q → t ≡ u →
          record { boxes = bs; answered = o; top = t } ∷ put_forks N.tag C.forks
          ≡ record { boxes = cs; answered = q; top = u } ∷ put_forks N.tag C.forks
      same_open h1 h2 h3 = cc

  -- what a first part asks of the row
  module _ (x : Entry) (at : x.key ≡ k.key)
      (within : (n : ℕ) → SourceIn (N.site x.key) (length k.lists.sigs) (length k.lists.boxes) (given_at x.row.given n)) where
    abbrev w : Site
    w = N.site x.key

    abbrev G : ℕ → Pointer
    G = row_names C.store w k.lists x.row.given

    reads : D.read ≡ put_cells N.tag C.store.words (looked_at w k.lists).place
    reads =
        ap (put_cells N.tag C.store.words) (looked_put N.tag (N.site k.key) k.lists)
        ∙ ap (λ w. put_cells N.tag C.store.words (looked_at w k.lists).place) (ap N.site (sym at))

    first_names : (m : ModuleRow) → base_of m D ≡ C.store.top → (n : ℕ) →
        pointer_from m D (first_given N x n) ≡ put_pointer N.tag (G n)
    first_names m base n =
        first_put N.tag m D C.store base w k.lists refl refl reads (given_at x.row.given n) (within n)

    pub onwards_put : walker_fits x.row.to.live ≡ true → forks_fit x.row.to.live x.row.to.forks ≡ true →
        row_makes ps (row_by_way N x onwards) D ≡ put N (lands (named_at ps x.row.to) C.store G k.value (amount_of (λ n. k.value)) C.forks
        (record C { moves = C.moves + row_moves x.seen (row_at ps x.row) }))
    onwards_put fit forks =
        landing_put x (first_given N x) x.row.to (forks_opened N.tag (first_given N x) x.row.to.forks)
        (walker_worth first_value x.row.to.live) C.store G (λ n. k.value) C.forks (base x.row.to.forks) refl
        (first_names m (base x.row.to.forks))
        (walker_is ps D first_value (λ n. k.value) (λ n. refl) x.row.to.live fit)
        (opened_put m (first_given N x) G (base x.row.to.forks) (first_names m (base x.row.to.forks)) x.row.to.live x.row.to.forks forks
        (λ e. or_right (any_new (terms_of (spot_of x.row.to.live).work)) (any_new (spot_of x.row.to.live).boxes || forks_new x.row.to.forks)
        (or_right (any_new (spot_of x.row.to.live).boxes) (forks_new x.row.to.forks) e)))
      where
        m : ModuleRow
        m = row_by_way N x onwards

        base : (fs : List NamedFork) → base_of
            (landing_row N x (first_given N x) x.row.to (forks_opened N.tag (first_given N x) fs)
            (walker_worth first_value x.row.to.live)) D
            ≡ C.store.top
        base [] = refl
        base (f ∷ fs) = refl

  -- the run's answer
  pub answers_put : (x : Entry) → walker_fits x.row.to.live ≡ true →
      row_makes ps (row_by_way N x answers_run) D ≡ put N (record C {
        moves = C.moves + row_moves x.seen (row_at ps x.row);
        live = None;
        result = Some (value_of k.value (amount_of (λ n. k.value)) (walker_at ps x.row.to.live));
      })
  answers_put x fit =
      same_regs true C.full refl refl (walker_is ps D first_value (λ n. k.value) (λ n. refl) x.row.to.live fit) refl refl refl refl
      (omega arith) refl (ap (λ n. C.moves + n) (sym (moves_at ps x.seen x.row)))

  -- ---- a second part

  module _ (x : Entry) (q : Second) (f : JoinedFork) (gs : List JoinedFork) (forked : C.forks ≡ f ∷ gs)
      (within : (n : ℕ) → SourceIn nowhere 0 (length f.boxes) (given_at q.given n))
      (wordless : (n i : ℕ) → given_at q.given n ≡ a_word i → ⊥) (small : walker_small x.row.to.live ≡ true) where
    abbrev V : Store
    V = back_to C.store f.top

    abbrev P : ℕ → Pointer
    P = fork_names V q f

    abbrev a : Val
    a = value_of k.value (amount_of (λ n. k.value)) (walker_at ps x.row.to.live)

    abbrev vs : ℕ → Val
    vs = two_values a f.answered

    abbrev F : ℕ → Operand
    F = second_value (walker_operand x.row.to.live)

    answer_is : (y : Walker) → walker_small y ≡ true →
        operand_value ps D (walker_operand y) ≡ value_of k.value (amount_of (λ n. k.value)) (walker_at ps y)
    answer_is (asks s) e = refl
    answer_is (says a s) e = operand_is ps D first_value (λ n. k.value) (λ n. refl) a e

    values : (n : ℕ) → operand_value ps D (F n) ≡ vs n
    values zero = answer_is x.row.to.live small
    values (suc n) = left_is (innermost D.forks).answered ∙ ap (λ fs. left_answer (innermost (put_forks N.tag fs)).answered) forked

    abbrev met : ModuleRow
    met = row_by_way N x (answers_fork q)

    base : base_of met D ≡ f.top
    base = go q.to.forks ∙ ap (λ fs. (innermost (put_forks N.tag fs)).top) forked
      where
        go : (fs : List NamedFork) → base_of (landing_row N x (second_given N q) q.to (forks_answered F fs) (walker_worth F q.to.live)) D
            ≡ (innermost D.forks).top
        go [] = refl
        go (g ∷ fs) = refl

    second_names : (n : ℕ) → pointer_from met D (second_given N q n) ≡ put_pointer N.tag (P n)
    second_names n =
        second_put N.tag met D V base f.boxes (fork_lists f) refl (ap (λ fs. (innermost (put_forks N.tag fs)).boxes) forked)
        (looked_at nowhere (fork_lists f)) (given_at q.given n) (within n) (wordless n)

    -- the fork's own boxes
    box_is : (s : Source) (i : ℕ) → is_box s i ≡ true → s ≡ a_box i
    box_is (a_box j) i e = ap a_box (eqb-true j i e)
    box_is s i e = absurd cc

    own_box : (y : Term) (i : ℕ) → is_fork_box q.given y i ≡ true → (n : ℕ) → pointer_for P n y ≡ pointer_at f.boxes i
    own_box (named j) i e n = ap (source_of V (looked_at nowhere (fork_lists f)) (fork_lists f)) (box_is (given_at q.given j) i e)
    own_box y i e n = absurd cc

    old_box : (y : Term) (i : ℕ) → is_fork_box q.given y i ≡ true → any_new (y ∷ []) ≡ false
    old_box (named j) i e = refl
    old_box y i e = absurd cc

    or_false : (b c : Bool) → (b || false) ≡ false → c ≡ false → (b || c) ≡ false
    or_false true c h e = absurd cc
    or_false false c h e = e

    stay : (n i : ℕ) (ys : List Term) (bs : List Pointer) → fork_boxes_stay q.given i ys ≡ true → length ys ≡ length bs →
        ((j : ℕ) → pointer_at f.boxes (i + j) ≡ pointer_at bs j) → (pointers_for P n ys ≡ bs) × (any_new ys ≡ false)
    stay n i [] [] e l h = (refl, refl)
    stay n i [] (b ∷ bs) e l h = absurd cc
    stay n i (y ∷ ys) [] e l h = absurd cc
    stay n i (y ∷ ys) (b ∷ bs) e l h =
        let p = and_parts (is_fork_box q.given y i) (fork_boxes_stay q.given (suc i) ys) e in
        let z : i ≡ i + 0 = omega arith in
        let rest = stay n (suc i) ys bs p.1 (cc) (λ j. let e : suc i + j ≡ i + suc j = omega arith in ap (pointer_at f.boxes) e
        ∙ h (suc j)) in (
          ap (λ b. b ∷ pointers_for P n ys) (own_box y i p.0 n ∙ ap (pointer_at f.boxes) z ∙ h 0) ∙ ap (λ bs. b ∷ bs) rest.0,
          or_false _ (any_new ys) (old_box y i p.0) rest.1,
        )

    answered_put : (fs : List NamedFork) → second_fork_fits q.given q.to.live fs ≡ true →
        ((g : NamedFork) → fs ≡ g ∷ [] → length g.boxes ≡ length f.boxes) →
        forks_after ps met D (forks_answered F fs) ≡ put_forks N.tag (forks_on P f.top (amount_of vs) (forks_at ps fs) gs)
    answered_put [] fit long = ap (λ fs. around (put_forks N.tag fs)) forked
    answered_put (g ∷ g' ∷ fs) fit long = absurd cc
    answered_put (g ∷ []) fit long =
        ap (λ fs. record (innermost (put_forks N.tag fs)) { answered = Some (operand_value ps D (half_answered F g.half)) }
        ∷ around (put_forks N.tag fs)) forked
        ∙ same_keep (ap (put_pointers N.tag) (sym both.0)) (answered_is ps D F vs values g.half p.0)
        (ap (λ b. top_by (b || false) f.top) (sym both.1))
      where
        p : (half_came g.half ≡ true) × ((walker_small q.to.live && fork_boxes_stay q.given 0 g.boxes) ≡ true)
        p = and_parts (half_came g.half) (walker_small q.to.live && fork_boxes_stay q.given 0 g.boxes) fit

        r : (walker_small q.to.live ≡ true) × (fork_boxes_stay q.given 0 g.boxes ≡ true)
        r = and_parts (walker_small q.to.live) (fork_boxes_stay q.given 0 g.boxes) p.1

        both : (pointers_for P f.top g.boxes ≡ f.boxes) × (any_new g.boxes ≡ false)
        both = stay f.top 0 g.boxes f.boxes r.1 (long g refl) (λ j. let z : 0 + j ≡ j = omega arith in ap (pointer_at f.boxes) z)

        same_keep : {bs cs : List Tagged} {o u : Option Val} {s t : ℕ} → bs ≡ cs → o ≡ u → s ≡ t →
            record { boxes = bs; answered = o; top = s } ∷ put_forks N.tag gs
            ≡ record { boxes = cs; answered = u; top = t } ∷ put_forks N.tag gs
        same_keep h1 h2 h3 = cc

    pub meets_put : walker_fits q.to.live ≡ true → second_fork_fits q.given q.to.live q.to.forks ≡ true →
        ((g : NamedFork) → q.to.forks ≡ g ∷ [] → length g.boxes ≡ length f.boxes) →
        row_makes ps met D ≡ put N (lands (named_at ps q.to) V P k.value (amount_of vs) gs
        (record C { moves = C.moves + row_moves x.seen (row_at ps x.row) }))
    meets_put fit forks long =
        landing_put x (second_given N q) q.to (forks_answered F q.to.forks) (walker_worth F q.to.live) V P vs gs base refl second_names
        (walker_is ps D F vs values q.to.live fit) (answered_put q.to.forks forks long)
