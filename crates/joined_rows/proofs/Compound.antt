-- What a compound cell stands for, and that a joined row leaves what its names come to.
use Rattle.std.proofs.Common.{◌≡◌, ◌≤◌, ◌<◌, ℕ, suc, Bool, true, false, cond, List, [], ◌∷◌, ◌++◌, ◌||◌, refl, sym, ap, ◌∙◌, subst, arith}
use Rattle.std.proofs.lemmas.Bool.{eq-eqb, ne_eqb, eqb-true, eqb-false, or_left, or_right}
use Rattle.std.specs.Prelude.{nat_eq}
use Rattle.token_stacks.specs.Signatures.{Sig, left_of, right_of, pair_of, again}
use Rattle.joined_rows.specs.Open.{Term, named, a_star, a_left, a_right, a_pair, an_again, Mark, to_R, to_L, sign, term_of, Filling}
use Rattle.joined_rows.specs.Open.{work_of, boxes_of, spot_of}
use Rattle.joined_rows.specs.Compound.{Pointer, Store, point, Account, read, has_name, Low, with_cell, account_with, terms_of}
use Rattle.joined_rows.specs.Compound.{signs_of, AllRead, pointer_for, pointers_for}
use Rattle.joined_rows.specs.CompoundLaws.{Looked, CellKept, CellMade, CellRight, GivenBack, filled, CompoundRows}
use Rattle.joined_rows.proofs.Runs.{joined_runs}

-- a term is told by what its names are, if it has one
pub agree : (f g : ℕ → Sig) (x : Term) → (has_name x ≡ true → (i : ℕ) → f i ≡ g i) → term_of f x ≡ term_of g x
agree f g (named i) h = h refl i
agree f g a_star h = refl
agree f g (a_left x) h = ap left_of (agree f g x h)
agree f g (a_right x) h = ap right_of (agree f g x h)
agree f g (a_pair x y) h =
    ap (λ s. pair_of s (term_of f y)) (agree f g x (λ e. h (or_left (has_name x) (has_name y) e)))
    ∙ ap (pair_of (term_of g x)) (agree f g y (λ e. h (or_right (has_name x) (has_name y) e)))
agree f g (an_again x y) h =
    ap (λ s. again s (term_of f y)) (agree f g x (λ e. h (or_left (has_name x) (has_name y) e)))
    ∙ ap (again (term_of g x)) (agree f g y (λ e. h (or_right (has_name x) (has_name y) e)))

pub looked : Looked
looked V M r p l = agree (M p.place) (λ i. read M (V.words p.place i)) p.shape (λ e i. sym (r.says p.place i l))

-- another cell than the new one
other : (M : Account) (n : ℕ) (g : ℕ → Pointer) (j i : ℕ) → j < n → account_with M n g j i ≡ M j i
other M n g j i l = ap (λ b. cond b (λ i. read M (g i)) (M j) i) (ne_eqb j n (λ e. omega arith))

kept_at : (M : Account) (n : ℕ) (g : ℕ → Pointer) (p : Pointer) → Low n p → read (account_with M n g) p ≡ read M p
kept_at M n g p l = agree (account_with M n g p.place) (M p.place) p.shape (λ e i. other M n g p.place i (l e))

pub cell_kept : CellKept
cell_kept V M g p l = kept_at M V.top g p l

pub cell_made : CellMade
cell_made V M g x = ap (λ b. term_of (cond b (λ i. read M (g i)) (M V.top)) x) (eq-eqb V.top V.top refl)

pub low_up : (n k : ℕ) (p : Pointer) → n ≤ k → Low n p → Low k p
low_up n k p m l = λ e. let a = l e in omega arith

pub cell_right : CellRight
cell_right V M r g lows = record { says = says; low = low }
  where
    W : Store
    W = with_cell V g

    said : (j i : ℕ) (b : Bool) → nat_eq j V.top ≡ b → j < suc V.top →
        read (account_with M V.top g) (cond b g (V.words j) i) ≡ cond b (λ i. read M (g i)) (M j) i
    said j i true e l = kept_at M V.top g (g i) (lows i)
    said j i false e l =
        let n = eqb-false j V.top e in
        let m : j < V.top = omega arith in
        kept_at M V.top g (V.words j i) (low_up j V.top (V.words j i) (omega arith) (r.low j i m)) ∙ r.says j i m

    says : (j i : ℕ) → j < suc V.top → read (account_with M V.top g) (W.words j i) ≡ account_with M V.top g j i
    says j i l = said j i (nat_eq j V.top) refl l

    lowed : (j i : ℕ) (b : Bool) → nat_eq j V.top ≡ b → j < suc V.top → Low j (cond b g (V.words j) i)
    lowed j i true e l = let n = eqb-true j V.top e in subst (λ k. Low k (g i)) (sym n) (lows i)
    lowed j i false e l = let n = eqb-false j V.top e in r.low j i (omega arith)

    low : (j i : ℕ) → j < suc V.top → Low j (W.words j i)
    low j i l = lowed j i (nat_eq j V.top) refl l

pub given_back : GivenBack
given_back V M r n l = record { says = λ j i m. r.says j i (omega arith); low = λ j i m. r.low j i (omega arith) }

module _ (V : Store) (M : Account) (g : ℕ → Pointer) (lows : (i : ℕ) → Low V.top (g i)) (F : Filling) where
  abbrev W : Store
  W = with_cell V g

  abbrev N : Account
  N = account_with M V.top g

  next_top : V.top ≤ suc V.top
  next_top = omega arith

  at_top : (x : Term) → Low (suc V.top) (point x V.top)
  at_top x = λ e. omega arith

  -- the pointer of a term reads as the term
  one_reads : (x : Term) → read N (pointer_for g V.top x) ≡ term_of (filled M g F).sigs x
  one_reads (named i) = kept_at M V.top g (g i) (lows i)
  one_reads a_star = refl
  one_reads (a_left x) = cell_made V M g (a_left x)
  one_reads (a_right x) = cell_made V M g (a_right x)
  one_reads (a_pair x y) = cell_made V M g (a_pair x y)
  one_reads (an_again x y) = cell_made V M g (an_again x y)

  one_low : (x : Term) → Low (suc V.top) (pointer_for g V.top x)
  one_low (named i) = low_up V.top (suc V.top) (g i) next_top (lows i)
  one_low a_star = at_top a_star
  one_low (a_left x) = at_top (a_left x)
  one_low (a_right x) = at_top (a_right x)
  one_low (a_pair x y) = at_top (a_pair x y)
  one_low (an_again x y) = at_top (an_again x y)

  -- what is below stays
  all_kept : (ps : List Pointer) (ss : List Sig) → AllRead V.top M ps ss → AllRead (suc V.top) N ps ss
  all_kept [] [] h = h
  all_kept [] (s ∷ ss) h = elim h [ ]
  all_kept (p ∷ ps) [] h = elim h [ ]
  all_kept (p ∷ ps) (s ∷ ss) h =
      (kept_at M V.top g p h.1 ∙ h.0, low_up V.top (suc V.top) p next_top h.1, all_kept ps ss h.2)

  pub sigs_read : (m : List Mark) (ps : List Pointer) → AllRead V.top M ps (signs_of F.work) →
      AllRead (suc V.top) N (pointers_for g V.top (terms_of m) ++ ps) (signs_of (work_of (filled M g F) m))
  sigs_read [] ps h = all_kept ps (signs_of F.work) h
  sigs_read (to_R ∷ m) ps h = sigs_read m ps h
  sigs_read (to_L ∷ m) ps h = sigs_read m ps h
  sigs_read (sign x ∷ m) ps h = (one_reads x, one_low x, sigs_read m ps h)

  pub boxes_read : (t : List Term) (ps : List Pointer) → AllRead V.top M ps F.boxes →
      AllRead (suc V.top) N (pointers_for g V.top t ++ ps) (boxes_of (filled M g F) t)
  boxes_read [] ps h = all_kept ps F.boxes h
  boxes_read (x ∷ t) ps h = (one_reads x, one_low x, boxes_read t ps h)

pub compound_rows : CompoundRows
compound_rows net x y n j V M r g lows F below shows = (
  joined_runs net x y n j (filled M g F),
  cell_right V M r g lows,
  record {
    sigs = sigs_read V M g lows F (spot_of y).work below.sigs shows.sigs;
    boxes = boxes_read V M g lows F (spot_of y).boxes below.boxes shows.boxes;
  },
)
