-- Where a row's names have their pointers, what it begins with is what the registers have.
use Rattle.std.proofs.Common.{◌≡◌, ◌<◌, ℕ, zero, suc, ◌+◌, Bool, true, false, cond, ◌||◌, List, [], ◌∷◌, length, Option, Some, None}
use Rattle.std.proofs.Common.{refl, sym, ap, ◌∙◌, subst, arith}
use Rattle.std.proofs.lemmas.Bool.{or_left, or_right}
use Rattle.token_stacks.specs.Signatures.{Sig, left_of, right_of, pair_of, again, R, L, S, Work, Boxes}
use Rattle.move_rules.specs.Places.{Place, up, down, TokenTree, ask, ans}
use Rattle.net_rows.specs.RowMoves.{at}
use Rattle.joined_rows.specs.Open.{Term, named, a_star, a_left, a_right, a_pair, an_again, Mark, to_R, to_L, sign, term_of}
use Rattle.joined_rows.specs.Open.{Amount, some, val_of, Spot, Walker, asks, says, spot_of, work_of, boxes_of, place_in, token_in}
use Rattle.joined_rows.specs.Compound.{Pointer, Store, Account, read, has_name, Low, Right, AllRead, terms_of, signs_of, Lists}
use Rattle.joined_rows.specs.Ticks.{Names, of_names}
use Rattle.joined_rows.specs.CompoundTicks.{names_of}
use Rattle.joined_rows.proofs.Compound.{agree, low_up}
use Rattle.net_rows.proofs.Small.{not_full}
use Rattle.joined_core.specs.Rows.{sorts_of, work_sorts, Key, key_of, Site, nowhere, on_sigs, on_boxes, on_value, nothing}
use Rattle.joined_core.specs.Rows.{Source, a_sig, a_box, a_word, a_part, given_at, JoinedRow}
use Rattle.joined_core.specs.Right.{both_of, one_of, shape_from, shape_in, on_sigs_seen, on_boxes_seen, seen_cell}
use Rattle.joined_core.specs.Circuit.{JoinedToken, pointer_at, looked_at, seen_at, source_of, row_names}
use Rattle.joined_core.specs.Laws.{StandsAt, IsToken}
use Rattle.joined_core.proofs.Told.{FitsAt, ListFits, SourceFits, SourcesFit, ValueNamed, RowRuns, given_fits}

-- a pointer of a list needs nothing above the top
pub pointer_low : (n : ℕ) (M : Account) (ps : List Pointer) (ss : List Sig) → AllRead n M ps ss → (i : ℕ) → Low n (pointer_at ps i)
pointer_low n M [] ss h i = λ e. absurd cc
pointer_low n M (p ∷ ps) [] h i = elim h [ ]
pointer_low n M (p ∷ ps) (s ∷ ss) h zero = h.1
pointer_low n M (p ∷ ps) (s ∷ ss) h (suc i) = pointer_low n M ps ss h.2 i

pub reads_long : (n : ℕ) (M : Account) (ps : List Pointer) (ss : List Sig) → AllRead n M ps ss → length ps ≡ length ss
reads_long n M [] [] h = refl
reads_long n M [] (s ∷ ss) h = elim h [ ]
reads_long n M (p ∷ ps) [] h = elim h [ ]
reads_long n M (p ∷ ps) (s ∷ ss) h = ap suc (reads_long n M ps ss h.2)

-- the terms' signatures
abbrev pub all_of : (ℕ → Sig) → List Term → List Sig
all_of f [] = []
all_of f (x ∷ xs) = term_of f x ∷ all_of f xs

pub boxes_all : (N : Names) (t : List Term) → boxes_of (of_names N) t ≡ all_of N.sigs t
boxes_all N [] = refl
boxes_all N (x ∷ t) = ap (λ s. term_of N.sigs x ∷ s) (boxes_all N t)

-- a work stack is told by its marks and its signatures
pub sorts_long : (m : List Mark) (w : Work) → sorts_of m ≡ work_sorts w → length (terms_of m) ≡ length (signs_of w)
sorts_long [] [] e = refl
sorts_long [] (R ∷ w) e = absurd cc
sorts_long [] (L ∷ w) e = absurd cc
sorts_long [] (S s ∷ w) e = absurd cc
sorts_long (to_R ∷ m) [] e = absurd cc
sorts_long (to_R ∷ m) (R ∷ w) e = sorts_long m w (cc)
sorts_long (to_R ∷ m) (L ∷ w) e = absurd cc
sorts_long (to_R ∷ m) (S s ∷ w) e = absurd cc
sorts_long (to_L ∷ m) [] e = absurd cc
sorts_long (to_L ∷ m) (R ∷ w) e = absurd cc
sorts_long (to_L ∷ m) (L ∷ w) e = sorts_long m w (cc)
sorts_long (to_L ∷ m) (S s ∷ w) e = absurd cc
sorts_long (sign x ∷ m) [] e = absurd cc
sorts_long (sign x ∷ m) (R ∷ w) e = absurd cc
sorts_long (sign x ∷ m) (L ∷ w) e = absurd cc
sorts_long (sign x ∷ m) (S s ∷ w) e = ap suc (sorts_long m w (cc))

-- so these tell it whole
work_told : (N : Names) (m : List Mark) (w : Work) → sorts_of m ≡ work_sorts w → all_of N.sigs (terms_of m) ≡ signs_of w →
    work_of (of_names N) m ≡ w
work_told N [] [] e h = refl
work_told N [] (R ∷ w) e h = absurd cc
work_told N [] (L ∷ w) e h = absurd cc
work_told N [] (S s ∷ w) e h = absurd cc
work_told N (to_R ∷ m) [] e h = absurd cc
work_told N (to_R ∷ m) (R ∷ w) e h = ap (λ w. R ∷ w) (work_told N m w (cc) h)
work_told N (to_R ∷ m) (L ∷ w) e h = absurd cc
work_told N (to_R ∷ m) (S s ∷ w) e h = absurd cc
work_told N (to_L ∷ m) [] e h = absurd cc
work_told N (to_L ∷ m) (R ∷ w) e h = absurd cc
work_told N (to_L ∷ m) (L ∷ w) e h = ap (λ w. L ∷ w) (work_told N m w (cc) h)
work_told N (to_L ∷ m) (S s ∷ w) e h = absurd cc
work_told N (sign x ∷ m) [] e h = absurd cc
work_told N (sign x ∷ m) (R ∷ w) e h = absurd cc
work_told N (sign x ∷ m) (L ∷ w) e h = absurd cc
work_told N (sign x ∷ m) (S s ∷ w) e h =
    let a : term_of N.sigs x ≡ s = cc in
    let b : work_of (of_names N) m ≡ w = work_told N m w (cc) (cc) in
    ap (λ s. S s ∷ work_of (of_names N) m) a ∙ ap (λ w. S s ∷ w) b

module _ (V : Store) (M : Account) (r : Right V M) (p : Pointer) (k : Lists) where
  -- a part reads as a shape of the cell, and one without names wants no cell
  part_reads : (x : Term) → term_of (M (cond (has_name x) p.place V.top)) x ≡ term_of (M p.place) x
  part_reads x = go (has_name x) refl
    where
      go : (b : Bool) → has_name x ≡ b → term_of (M (cond b p.place V.top)) x ≡ term_of (M p.place) x
      go true e = refl
      go false e = agree (M V.top) (M p.place) x (λ h. not_full (sym h ∙ e))

  -- a source's pointer as a shape of the cell
  source_shape : (s : Source) (y : Term) → shape_from s ≡ Some y → (has_name y ≡ true → p.place < V.top) →
      read M (source_of V p k s) ≡ term_of (M p.place) y
  source_shape (a_sig i) y e l = absurd cc
  source_shape (a_box i) y e l = absurd cc
  source_shape (a_word i) y e l =
      let same : named i ≡ y = cc in
      r.says p.place i (l (ap has_name (sym same))) ∙ ap (term_of (M p.place)) same
  source_shape (a_part x) y e l = let same : x ≡ y = cc in part_reads x ∙ ap (term_of (M p.place)) same

  module _ (G : ℕ → Source) where
    abbrev f : ℕ → Sig
    f n = read M (source_of V p k (G n))

    one_shape : (x : Term) (c : Term → Term) (d : Sig → Sig) (y : Term) (o : Option Term) → one_of o c ≡ Some y →
        ((z : Term) → has_name (c z) ≡ has_name z) → ((z : Term) → term_of (M p.place) (c z) ≡ d (term_of (M p.place) z)) →
        (has_name y ≡ true → p.place < V.top) →
        ((z : Term) → o ≡ Some z → (has_name z ≡ true → p.place < V.top) → term_of f x ≡ term_of (M p.place) z) →
        d (term_of f x) ≡ term_of (M p.place) y
    one_shape x c d y None e h t l go = absurd cc
    one_shape x c d y (Some z) e h t l go =
        let same : c z ≡ y = cc in
        ap d (go z refl (λ q. l (ap has_name (sym same) ∙ h z ∙ q))) ∙ sym (t z) ∙ ap (term_of (M p.place)) same

    two_shape : (x u : Term) (c : Term → Term → Term) (d : Sig → Sig → Sig) (y : Term) (o q : Option Term) → both_of o q c ≡ Some y →
        ((z w : Term) → has_name (c z w) ≡ (has_name z || has_name w)) →
        ((z w : Term) → term_of (M p.place) (c z w) ≡ d (term_of (M p.place) z) (term_of (M p.place) w)) →
        (has_name y ≡ true → p.place < V.top) →
        ((z : Term) → o ≡ Some z → (has_name z ≡ true → p.place < V.top) → term_of f x ≡ term_of (M p.place) z) →
        ((z : Term) → q ≡ Some z → (has_name z ≡ true → p.place < V.top) → term_of f u ≡ term_of (M p.place) z) →
        d (term_of f x) (term_of f u) ≡ term_of (M p.place) y
    two_shape x u c d y None q e h t l go come = absurd cc
    two_shape x u c d y (Some z) None e h t l go come = absurd cc
    two_shape x u c d y (Some z) (Some w) e h t l go come =
        let same : c z w ≡ y = cc in
        ap (λ s. d s (term_of f u)) (go z refl (λ q. l (ap has_name (sym same) ∙ h z w ∙ or_left (has_name z) (has_name w) q)))
        ∙ ap (d (term_of (M p.place) z)) (come w refl (λ q. l (ap has_name (sym same) ∙ h z w ∙ or_right (has_name z) (has_name w) q)))
        ∙ sym (t z w) ∙ ap (term_of (M p.place)) same

    -- a term whose names are of the cell as a shape of it
    shape_reads : (x y : Term) → shape_in G x ≡ Some y → (has_name y ≡ true → p.place < V.top) → term_of f x ≡ term_of (M p.place) y
    shape_reads (named n) y e l = source_shape (G n) y e l
    shape_reads a_star y e l = let same : a_star ≡ y = cc in ap (term_of (M p.place)) same
    shape_reads (a_left x) y e l = one_shape x a_left left_of y (shape_in G x) e (λ z. refl) (λ z. refl) l (λ z h m. shape_reads x z h m)
    shape_reads (a_right x) y e l = one_shape x a_right right_of y (shape_in G x) e (λ z. refl) (λ z. refl) l (λ z h m. shape_reads x z h m)
    shape_reads (a_pair x u) y e l = two_shape x u a_pair pair_of y (shape_in G x) (shape_in G u) e (λ z w. refl) (λ z w. refl) l
        (λ z h m. shape_reads x z h m) (λ z h m. shape_reads u z h m)
    shape_reads (an_again x u) y e l = two_shape x u an_again again y (shape_in G x) (shape_in G u) e (λ z w. refl) (λ z w. refl) l
        (λ z h m. shape_reads x z h m) (λ z h m. shape_reads u z h m)

    -- what stands at a place of a list
    at_reads : (s : Source) (seen : Option Term) (x : Term) (a : Pointer) → FitsAt G s seen x → source_of V p k s ≡ a → Low V.top a →
        ((y : Term) → seen ≡ Some y → (p ≡ a) × (y ≡ p.shape)) → term_of f x ≡ read M a
    at_reads s None (named n) a h e l o = ap (λ s. read M (source_of V p k s)) h ∙ ap (read M) e
    at_reads s None a_star a h e l o = elim h [ ]
    at_reads s None (a_left x) a h e l o = elim h [ ]
    at_reads s None (a_right x) a h e l o = elim h [ ]
    at_reads s None (a_pair x y) a h e l o = elim h [ ]
    at_reads s None (an_again x y) a h e l o = elim h [ ]
    at_reads s (Some y) x a h e l o =
        let q = o y refl in
        let low : Low V.top p = subst (Low V.top) (sym q.0) l in
        shape_reads x y h (λ n. low (ap has_name (sym q.1) ∙ n)) ∙ ap (term_of (M p.place)) q.1 ∙ ap (read M) q.0

    pub list_reads : (src : ℕ → Source) (seen : Option Term) (i : ℕ) (xs : List Term) (ps : List Pointer) (ss : List Sig) →
        ListFits G src seen i xs → length xs ≡ length ss → AllRead V.top M ps ss →
        ((j : ℕ) → source_of V p k (src (i + j)) ≡ pointer_at ps j) →
        ((y : Term) → seen ≡ Some y → (p ≡ pointer_at ps 0) × (y ≡ p.shape)) → all_of f xs ≡ ss
    list_reads src seen i [] ps [] h n a q o = refl
    list_reads src seen i [] ps (s ∷ ss) h n a q o = absurd cc
    list_reads src seen i (x ∷ xs) ps [] h n a q o = absurd cc
    list_reads src seen i (x ∷ xs) [] (s ∷ ss) h n a q o = elim a [ ]
    list_reads src seen i (x ∷ xs) (b ∷ ps) (s ∷ ss) h n a q o =
        let z : i ≡ i + 0 = omega arith in
        ap (λ s. s ∷ all_of f xs) (at_reads (src i) seen x b h.0 (ap (λ m. source_of V p k (src m)) z ∙ q 0) a.1 o ∙ a.0)
        ∙ ap (λ ss. s ∷ ss) (list_reads src None (suc i) xs ps ss h.1 (cc) a.2
        (λ j. let e : suc i + j ≡ i + suc j = omega arith in ap (λ m. source_of V p k (src m)) e ∙ q (suc j)) (λ y e. absurd cc))

-- names without a look have low pointers
pub given_low : (V : Store) (M : Account) → Right V M → (w : Site) (k : Lists) (gs : List Source) (sigs boxes : List Sig) →
    AllRead V.top M k.sigs sigs → AllRead V.top M k.boxes boxes → SourcesFit nothing gs → (n : ℕ) → Low V.top (row_names V w k gs n)
given_low V M r w k gs sigs boxes a b h n = go (given_at gs n) (given_fits nothing gs h n)
  where
    go : (s : Source) → SourceFits nothing s → Low V.top (source_of V (looked_at w k) k s)
    go (a_sig i) h = pointer_low V.top M k.sigs sigs a i
    go (a_box i) h = pointer_low V.top M k.boxes boxes b i
    go (a_word i) h = absurd cc
    go (a_part x) h = λ e. let c = h e in absurd cc

-- what a row begins with
module _ (V : Store) (M : Account) (r : Right V M) (w : Site) (k : JoinedToken) (row : JoinedRow) where
  abbrev g : ℕ → Pointer
  g = row_names V w k.lists row.given

  abbrev N : Names
  N = names_of M g (λ n. k.value)

  -- the cell that was looked at is in use
  pub seen_low : (sigs boxes : List Sig) → AllRead V.top M k.lists.sigs sigs → AllRead V.top M k.lists.boxes boxes →
      seen_cell (seen_at w k) ≡ true → (looked_at w k.lists).place < V.top
  seen_low sigs boxes s b e = go w e
    where
      go : (w : Site) → seen_cell (seen_at w k) ≡ true → (looked_at w k.lists).place < V.top
      go nowhere e = absurd cc
      go on_sigs e = pointer_low V.top M k.lists.sigs sigs s 0 e
      go on_boxes e = pointer_low V.top M k.lists.boxes boxes b 0 e
      go on_value e = absurd cc

  source_low : (sigs boxes : List Sig) → AllRead V.top M k.lists.sigs sigs → AllRead V.top M k.lists.boxes boxes → (s : Source) →
      SourceFits (seen_at w k) s → Low V.top (source_of V (looked_at w k.lists) k.lists s)
  source_low sigs boxes a b (a_sig i) h = pointer_low V.top M k.lists.sigs sigs a i
  source_low sigs boxes a b (a_box i) h = pointer_low V.top M k.lists.boxes boxes b i
  source_low sigs boxes a b (a_word i) h =
      let j : ℕ = (looked_at w k.lists).place in
      let l : j < V.top = seen_low sigs boxes a b h in
      low_up j V.top (V.words j i) (omega arith) (r.low j i l)
  source_low sigs boxes a b (a_part x) h =
      λ e. subst (λ c. cond c (looked_at w k.lists).place V.top < V.top) (sym e) (seen_low sigs boxes a b (h e))

  pub names_low : (sigs boxes : List Sig) → AllRead V.top M k.lists.sigs sigs → AllRead V.top M k.lists.boxes boxes →
      SourcesFit (seen_at w k) row.given → (n : ℕ) → Low V.top (g n)
  names_low sigs boxes a b h n =
      source_low sigs boxes a b (given_at row.given n) (given_fits (seen_at w k) row.given h n)

  sigs_seen : (y : Term) → on_sigs_seen w (seen_at w k) ≡ Some y →
      (looked_at w k.lists ≡ pointer_at k.lists.sigs 0) × (y ≡ (looked_at w k.lists).shape)
  sigs_seen y e = go w e
    where
      go : (w : Site) → on_sigs_seen w (seen_at w k) ≡ Some y →
          (looked_at w k.lists ≡ pointer_at k.lists.sigs 0) × (y ≡ (looked_at w k.lists).shape)
      go nowhere e = absurd cc
      go on_sigs e = (refl, cc)
      go on_boxes e = absurd cc
      go on_value e = absurd cc

  boxes_seen : (y : Term) → on_boxes_seen w (seen_at w k) ≡ Some y →
      (looked_at w k.lists ≡ pointer_at k.lists.boxes 0) × (y ≡ (looked_at w k.lists).shape)
  boxes_seen y e = go w e
    where
      go : (w : Site) → on_boxes_seen w (seen_at w k) ≡ Some y →
          (looked_at w k.lists ≡ pointer_at k.lists.boxes 0) × (y ≡ (looked_at w k.lists).shape)
      go nowhere e = absurd cc
      go on_sigs e = absurd cc
      go on_boxes e = (refl, cc)
      go on_value e = absurd cc

  module _ (net : _) (runs : RowRuns net w k.key (seen_at w k) row) where
    -- where it begins is where the token is
    place_fits : (s : Spot) (p : Place) → spot_of row.from ≡ s → s.channel ≡ k.key.channel → sorts_of s.work ≡ k.key.marks →
        length s.boxes ≡ length k.lists.boxes → StandsAt V.top M p k → place_in (of_names N) s ≡ p
    place_fits s p e c m l h = go p h
      where
        works : (m : Work) → k.key.marks ≡ work_sorts m → AllRead V.top M k.lists.sigs (signs_of m) → work_of (of_names N) s.work ≡ m
        works u q h =
            let same : sorts_of s.work ≡ work_sorts u = m ∙ q in
            work_told N s.work u same
            (list_reads V M r (looked_at w k.lists) k.lists (given_at row.given) a_sig (on_sigs_seen w (seen_at w k)) 0 (terms_of s.work)
            k.lists.sigs (signs_of u)
            (subst (λ s. ListFits (given_at row.given) a_sig (on_sigs_seen w (seen_at w k)) 0 (terms_of s.work)) e runs.sigs)
            (sorts_long s.work u same) h
            (λ j. let z : 0 + j ≡ j = omega arith in ap (pointer_at k.lists.sigs) z) sigs_seen)

        boxed : (t : Boxes) → AllRead V.top M k.lists.boxes t → boxes_of (of_names N) s.boxes ≡ t
        boxed t h =
            boxes_all N s.boxes
            ∙ list_reads V M r (looked_at w k.lists) k.lists (given_at row.given) a_box (on_boxes_seen w (seen_at w k)) 0 s.boxes
            k.lists.boxes t
            (subst (λ s. ListFits (given_at row.given) a_box (on_boxes_seen w (seen_at w k)) 0 s.boxes) e runs.boxes)
            (l ∙ reads_long V.top M k.lists.boxes t h) h
            (λ j. let z : 0 + j ≡ j = omega arith in ap (pointer_at k.lists.boxes) z) boxes_seen

        go : (p : Place) → StandsAt V.top M p k → place_in (of_names N) s ≡ p
        go (up v m t) h =
            ap (λ c. at c (work_of (of_names N) s.work) (boxes_of (of_names N) s.boxes)) (c ∙ h.channel)
            ∙ ap (λ m. up v m (boxes_of (of_names N) s.boxes)) (works m h.marks h.sigs) ∙ ap (up v m) (boxed t h.boxes)
        go (down v m t) h =
            ap (λ c. at c (work_of (of_names N) s.work) (boxes_of (of_names N) s.boxes)) (c ∙ h.channel)
            ∙ ap (λ m. down v m (boxes_of (of_names N) s.boxes)) (works m h.marks h.sigs) ∙ ap (down v m) (boxed t h.boxes)

    pub token_fits : (x : TokenTree) → IsToken V.top M x k → length (spot_of row.from).boxes ≡ length k.lists.boxes →
        token_in (of_names N) row.from ≡ x
    token_fits x h l = go x h row.from refl
      where
        go : (x : TokenTree) → IsToken V.top M x k → (y : Walker) → row.from ≡ y → token_in (of_names N) y ≡ x
        go (ask p) h (asks s) e =
            let place : key_of (asks s) ≡ k.key = ap key_of (sym e) ∙ runs.place in
            ap ask (place_fits s p (ap spot_of e) (ap (λ (k : Key). k.channel) place) (ap (λ (k : Key). k.marks) place)
            (ap (λ x. length (spot_of x).boxes) (sym e) ∙ l) h.1)
        go (ask p) h (says a s) e =
            let place : true ≡ k.key.answers = ap (λ (k : Key). k.answers) (ap key_of (sym e) ∙ runs.place) in
            let no = h.0 in
            absurd cc
        go (ans v p) h (asks s) e =
            let place : false ≡ k.key.answers = ap (λ (k : Key). k.answers) (ap key_of (sym e) ∙ runs.place) in
            let no = h.0 in
            absurd cc
        go (ans v p) h (says a s) e =
            let place : key_of (says a s) ≡ k.key = ap key_of (sym e) ∙ runs.place in
            ap (λ v. ans v (place_in (of_names N) s)) (valued a (subst ValueNamed e runs.value) ∙ h.1)
            ∙ ap (ans v) (place_fits s p (ap spot_of e) (ap (λ (k : Key). k.channel) place) (ap (λ (k : Key). k.marks) place)
            (ap (λ x. length (spot_of x).boxes) (sym e) ∙ l) h.2)
          where
            valued : (a : Amount) → ValueNamed (says a s) → val_of (of_names N) a ≡ k.value
            valued (some n) h = refl
            valued a h = elim h [ ]
