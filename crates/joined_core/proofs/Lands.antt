-- What the registers have after a row.
use Rattle.std.proofs.Common.{◌≡◌, ◌≤◌, ◌<◌, ℕ, suc, Bool, true, false, ◌||◌, List, [], ◌∷◌, Some, refl, sym, ap}
use Rattle.std.proofs.Common.{◌∙◌, subst, arith}
use Rattle.std.proofs.lemmas.Bool.{or_left, or_right, and_parts}
use Rattle.std.proofs.Common.{zero}
use Rattle.pcf_values.specs.declared.val.Val.{Val}
use Rattle.pcf_values.specs.Values.{val_succ, val_pred, val_op}
use Rattle.token_stacks.specs.Signatures.{Sig, left_of, right_of, pair_of, again, Work, Boxes}
use Rattle.net_rows.specs.Rows.{Channel, rises, falls}
use Rattle.net_rows.specs.RowMoves.{at}
use Rattle.newest_core.specs.Processor.{Half, waits, came, OpenFork, Registers}
use Rattle.joined_rows.specs.Open.{Term, named, a_star, a_left, a_right, a_pair, an_again, Mark, to_R, to_L, sign, term_of, Filling}
use Rattle.joined_rows.specs.Open.{Amount, some, known, more_than, less_than, both, Walker, asks, says, spot_of, val_of}
use Rattle.joined_rows.specs.Open.{work_of, boxes_of, token_in}
use Rattle.joined_rows.specs.Compound.{Pointer, Store, point, Account, read, has_name, Low, Right, account_with, terms_of}
use Rattle.joined_rows.specs.Compound.{signs_of, AllRead, pointer_for, pointers_for}
use Rattle.joined_rows.specs.Ticks.{Names, of_names, NamedHalf, waiting, left, NamedFork, Named, HalfIs, ForksAre, IsNamed}
use Rattle.joined_rows.specs.CompoundTicks.{names_of}
use Rattle.joined_rows.proofs.Compound.{agree, low_up, cell_right, cell_made, cell_kept}
use Rattle.net_rows.proofs.Small.{not_full}
use Rattle.joined_core.specs.Rows.{is_R, is_L, is_sig, sorts_of, work_sorts}
use Rattle.joined_core.specs.Circuit.{JoinedToken, JoinedFork, JoinedCircuit, is_new, any_new, forks_new, makes_cell, top_by, half_answer}
use Rattle.joined_core.specs.Circuit.{forks_on, amount_of, token_on, two_words, stored, lands}
use Rattle.joined_core.specs.Right.{few}
use Rattle.joined_core.proofs.Told.{FewTerm, FewAt, FewForks, Landed}
use Rattle.joined_core.specs.Laws.{StandsAt, IsLive, IsToken, IsHalf, IsStack, JoinedHas}

-- two words tell such a term
few_agree : (f h : ℕ → Sig) → f 0 ≡ h 0 → f 1 ≡ h 1 → (x : Term) → few x ≡ true → term_of f x ≡ term_of h x
few_agree f h a b (named zero) e = a
few_agree f h a b (named (suc zero)) e = b
few_agree f h a b (named (suc (suc n))) e = absurd cc
few_agree f h a b a_star e = refl
few_agree f h a b (a_left x) e = ap left_of (few_agree f h a b x e)
few_agree f h a b (a_right x) e = ap right_of (few_agree f h a b x e)
few_agree f h a b (a_pair x y) e =
    let p = and_parts (few x) (few y) e in
    ap (λ s. pair_of s (term_of f y)) (few_agree f h a b x p.0) ∙ ap (pair_of (term_of h x)) (few_agree f h a b y p.1)
few_agree f h a b (an_again x y) e =
    let p = and_parts (few x) (few y) e in
    ap (λ s. again s (term_of f y)) (few_agree f h a b x p.0) ∙ ap (again (term_of h x)) (few_agree f h a b y p.1)

-- the account after a row that makes a cell or not
abbrev pub acc : Bool → Account → ℕ → (ℕ → Pointer) → Account
acc true M n g = account_with M n (two_words g)
acc false M n g = M

top_same : (b c : Bool) (n : ℕ) → (c ≡ true → b ≡ true) → top_by c n ≤ top_by b n
top_same true true n h = omega arith
top_same true false n h = omega arith
top_same false true n h = let e = h refl in absurd cc
top_same false false n h = omega arith

top_least : (b : Bool) (n : ℕ) → n ≤ top_by b n
top_least true n = omega arith
top_least false n = omega arith

top_more : (b : Bool) (n : ℕ) → b ≡ true → n < top_by b n
top_more true n e = omega arith
top_more false n e = absurd cc

-- amounts are those of the names
pub amounts : (N : Names) (a : Amount) → amount_of N.vals a ≡ val_of (of_names N) a
amounts N (some n) = refl
amounts N (known v) = refl
amounts N (more_than a) = ap val_succ (amounts N a)
amounts N (less_than a) = ap val_pred (amounts N a)
amounts N (both o a b) = ap (λ x. val_op o x (amount_of N.vals b)) (amounts N a) ∙ ap (val_op o (val_of (of_names N) a)) (amounts N b)

stack_up : (n k : ℕ) (M : Account) (fs : List OpenFork) (gs : List JoinedFork) → n ≤ k → IsStack n M fs gs → IsStack k M fs gs
stack_up n k M [] [] l h = h
stack_up n k M [] (g ∷ gs) l h = elim h [ ]
stack_up n k M (f ∷ fs) [] l h = elim h [ ]
stack_up n k M (f ∷ fs) (g ∷ gs) l h =
    let m = h.0.low in
    (record { half = h.0.half; boxes = h.0.boxes; low = omega arith }, h.1)

-- marks of a filled work stack
sorts_filled : (N : Names) (m : List Mark) → sorts_of m ≡ work_sorts (work_of (of_names N) m)
sorts_filled N [] = refl
sorts_filled N (to_R ∷ m) = ap (λ x. is_R ∷ x) (sorts_filled N m)
sorts_filled N (to_L ∷ m) = ap (λ x. is_L ∷ x) (sorts_filled N m)
sorts_filled N (sign x ∷ m) = ap (λ x. is_sig ∷ x) (sorts_filled N m)

module _ (V : Store) (M : Account) (r : Right V M) (g : ℕ → Pointer) (lows : (i : ℕ) → Low V.top (g i)) (u : Val) (vs : ℕ → Val) where
  abbrev N : Names
  N = names_of M g vs

  abbrev F : Filling
  F = of_names N

  kept : (b : Bool) (p : Pointer) → Low V.top p → read (acc b M V.top g) p ≡ read M p
  kept true p l = cell_kept V M (two_words g) p l
  kept false p l = refl

  -- a term's pointer reads as the term
  made : (b : Bool) (x : Term) → few x ≡ true → is_new x ≡ has_name x → (is_new x ≡ true → b ≡ true) →
      read (acc b M V.top g) (point x V.top) ≡ term_of N.sigs x
  made true x w n h = cell_made V M (two_words g) x ∙ few_agree (λ i. read M (two_words g i)) N.sigs refl refl x w
  made false x w n h = agree (M V.top) N.sigs x (λ e. not_full (sym (h (n ∙ e))))

  term_reads : (b : Bool) (x : Term) → FewTerm x → (is_new x ≡ true → b ≡ true) →
      read (acc b M V.top g) (pointer_for g V.top x) ≡ term_of N.sigs x
  term_reads b (named i) w h = kept b (g i) (lows i)
  term_reads true a_star w h = refl
  term_reads false a_star w h = refl
  term_reads b (a_left x) w h = made b (a_left x) w refl h
  term_reads b (a_right x) w h = made b (a_right x) w refl h
  term_reads b (a_pair x y) w h = made b (a_pair x y) w refl h
  term_reads b (an_again x y) w h = made b (an_again x y) w refl h

  term_low : (c : Bool) (x : Term) → (is_new x ≡ true → c ≡ true) → Low (top_by c V.top) (pointer_for g V.top x)
  term_low c (named i) h = low_up V.top (top_by c V.top) (g i) (top_least c V.top) (lows i)
  term_low c a_star h = λ e. absurd cc
  term_low c (a_left x) h = λ e. top_more c V.top (h e)
  term_low c (a_right x) h = λ e. top_more c V.top (h e)
  term_low c (a_pair x y) h = λ e. top_more c V.top (h e)
  term_low c (an_again x y) h = λ e. top_more c V.top (h e)

  boxes_read : (b c : Bool) (t : List Term) → FewAt t → (any_new t ≡ true → b ≡ true) → (any_new t ≡ true → c ≡ true) →
      AllRead (top_by c V.top) (acc b M V.top g) (pointers_for g V.top t) (boxes_of F t)
  boxes_read b c [] w h k = tt
  boxes_read b c (x ∷ t) w h k = (
    term_reads b x w.0 (λ e. h (or_left (is_new x) (any_new t) e)),
    term_low c x (λ e. k (or_left (is_new x) (any_new t) e)),
    boxes_read b c t w.1 (λ e. h (or_right (is_new x) (any_new t) e)) (λ e. k (or_right (is_new x) (any_new t) e)),
  )

  sigs_read : (b c : Bool) (m : List Mark) → FewAt (terms_of m) → (any_new (terms_of m) ≡ true → b ≡ true) →
      (any_new (terms_of m) ≡ true → c ≡ true) →
      AllRead (top_by c V.top) (acc b M V.top g) (pointers_for g V.top (terms_of m)) (signs_of (work_of F m))
  sigs_read b c [] w h k = tt
  sigs_read b c (to_R ∷ m) w h k = sigs_read b c m w h k
  sigs_read b c (to_L ∷ m) w h k = sigs_read b c m w h k
  sigs_read b c (sign x ∷ m) w h k = (
    term_reads b x w.0 (λ e. h (or_left (is_new x) (any_new (terms_of m)) e)),
    term_low c x (λ e. k (or_left (is_new x) (any_new (terms_of m)) e)),
    sigs_read b c m w.1 (λ e. h (or_right (is_new x) (any_new (terms_of m)) e)) (λ e. k (or_right (is_new x) (any_new (terms_of m)) e)),
  )

  -- forks around
  reads_kept : (b : Bool) (k : ℕ) (ps : List Pointer) (ss : List Sig) → k ≤ V.top → AllRead k M ps ss → AllRead k (acc b M V.top g) ps ss
  reads_kept b k [] [] l h = h
  reads_kept b k [] (s ∷ ss) l h = elim h [ ]
  reads_kept b k (p ∷ ps) [] l h = elim h [ ]
  reads_kept b k (p ∷ ps) (s ∷ ss) l h = (kept b p (low_up k V.top p l h.1) ∙ h.0, h.1, reads_kept b k ps ss l h.2)

  stack_kept : (b : Bool) (k : ℕ) (fs : List OpenFork) (gs : List JoinedFork) → k ≤ V.top → IsStack k M fs gs →
      IsStack k (acc b M V.top g) fs gs
  stack_kept b k [] [] l h = h
  stack_kept b k [] (g ∷ gs) l h = elim h [ ]
  stack_kept b k (f ∷ fs) [] l h = elim h [ ]
  stack_kept b k (f ∷ fs) (j ∷ gs) l h =
      let m = h.0.low in (
        record { half = h.0.half; boxes = reads_kept b j.top j.boxes f.boxes (omega arith) h.0.boxes; low = m },
        stack_kept b j.top fs gs (omega arith) h.1,
      )

  -- forks that the row leaves open
  half_lands : (hq : NamedHalf) (hp : Half) (j : JoinedFork) → HalfIs F hq hp → j.answered ≡ half_answer (amount_of vs) hq → IsHalf hp j
  half_lands (waiting q) (waits i p) j h a = tt
  half_lands (waiting q) (came v) j h a = elim h [ ]
  half_lands (left x) (waits i p) j h a = elim h [ ]
  half_lands (left x) (came v) j h a = a ∙ ap Some (amounts N x ∙ sym h)

  forks_land : (b : Bool) (fs : List NamedFork) (os around : List OpenFork) (gs : List JoinedFork) → FewForks fs →
      ForksAre F around fs os → (forks_new fs ≡ true → b ≡ true) → IsStack V.top M around gs →
      IsStack (top_by (forks_new fs) V.top) (acc b M V.top g) os (forks_on g V.top (amount_of vs) fs gs)
  forks_land b [] os around gs v a h s =
      subst (λ os. IsStack V.top (acc b M V.top g) os gs) (sym a) (stack_kept b V.top around gs (omega arith) s)
  forks_land b (f ∷ fs) [] around gs v a h s = elim a [ ]
  forks_land b (f ∷ fs) (o ∷ os) around gs v a h s =
      let c : Bool = forks_new (f ∷ fs) in (
        record {
          half = half_lands f.half o.half (record {
            boxes = pointers_for g V.top f.boxes;
            answered = half_answer (amount_of vs) f.half;
            top = top_by c V.top;
          }) a.0.half refl;
          boxes = subst (AllRead (top_by c V.top) (acc b M V.top g) (pointers_for g V.top f.boxes)) (sym a.0.boxes)
              (boxes_read b c f.boxes v.0 (λ e. h (or_left (any_new f.boxes) (forks_new fs) e))
              (λ e. or_left (any_new f.boxes) (forks_new fs) e));
          low = omega arith;
        },
        stack_up (top_by (forks_new fs) V.top) (top_by c V.top) (acc b M V.top g) os (forks_on g V.top (amount_of vs) fs gs)
            (top_same c (forks_new fs) V.top (λ e. or_right (any_new f.boxes) (forks_new fs) e))
            (forks_land b fs os around gs v.1 a.1 (λ e. h (or_right (any_new f.boxes) (forks_new fs) e)) s),
      )

  -- the token
  stands : (n : ℕ) (A : Account) (k : JoinedToken) (c : Channel) (m : Work) (t : Boxes) → k.key.channel ≡ c → k.key.marks ≡ work_sorts m →
      AllRead n A k.lists.sigs (signs_of m) → AllRead n A k.lists.boxes t → StandsAt n A (at c m t) k
  stands n A k (rises w) m t e h s b = record { channel = e; marks = h; sigs = s; boxes = b }
  stands n A k (falls w) m t e h s b = record { channel = e; marks = h; sigs = s; boxes = b }

  token_lands : (b : Bool) (x : Walker) → FewAt (terms_of (spot_of x).work) → FewAt (spot_of x).boxes →
      (any_new (terms_of (spot_of x).work) ≡ true → b ≡ true) →
      (any_new (spot_of x).boxes ≡ true → b ≡ true) →
      IsToken (top_by b V.top) (acc b M V.top g) (token_in F x) (token_on g V.top u (amount_of vs) x)
  token_lands b (asks s) v w h k = (
    refl,
    stands (top_by b V.top) (acc b M V.top g) (token_on g V.top u (amount_of vs) (asks s)) s.channel
        (work_of F s.work) (boxes_of F s.boxes) refl (sorts_filled N s.work) (sigs_read b b s.work v h h) (boxes_read b b s.boxes w k k),
  )
  token_lands b (says a s) v w h k = (
    refl,
    amounts N a,
    stands (top_by b V.top) (acc b M V.top g) (token_on g V.top u (amount_of vs) (says a s)) s.channel
        (work_of F s.work) (boxes_of F s.boxes) refl (sorts_filled N s.work) (sigs_read b b s.work v h h) (boxes_read b b s.boxes w k k),
  )

  two_low : (i : ℕ) → Low V.top (two_words g i)
  two_low zero = lows 0
  two_low (suc zero) = lows 1
  two_low (suc (suc n)) = λ e. absurd cc

  -- the account stays right
  right_on : (b : Bool) → Right (stored b V g) (acc b M V.top g)
  right_on true = cell_right V M r (two_words g) two_low
  right_on false = r

  top_on : (b : Bool) → (stored b V g).top ≡ top_by b V.top
  top_on true = refl
  top_on false = refl

  -- all registers
  lands_by : (Y : Named) (C : JoinedCircuit) (T : Registers) (around : List OpenFork) (gs : List JoinedFork) (b : Bool) →
      makes_cell Y ≡ b → IsNamed F around Y T → Landed Y → IsStack V.top M around gs → C.result ≡ T.result → C.moves ≡ T.moves →
      C.full ≡ false → JoinedHas T (record C {
        live = Some (token_on g V.top u (amount_of vs) Y.live);
        forks = forks_on g V.top (amount_of vs) Y.forks gs;
        store = stored b V g;
      })
  lands_by Y C T around gs b e n o s h m f =
      let w : Bool = any_new (terms_of (spot_of Y.live).work) in
      let x : Bool = any_new (spot_of Y.live).boxes in
      let y : Bool = forks_new Y.forks in
      let A : Account = acc b M V.top g in
      record {
        account = A;
        right = right_on b;
        live = subst (λ l. IsLive (stored b V g).top A l (Some (token_on g V.top u (amount_of vs) Y.live))) (sym n.live)
            (subst (λ k. IsToken k A (token_in F Y.live) (token_on g V.top u (amount_of vs) Y.live)) (sym (top_on b))
            (token_lands b Y.live o.sigs o.boxes (λ q. sym e ∙ or_left w (x || y) q) (λ q. sym e ∙ or_right w (x || y) (or_left x y q))));
        forks = subst (λ k. IsStack k A T.forks (forks_on g V.top (amount_of vs) Y.forks gs)) (sym (top_on b))
            (stack_up (top_by y V.top) (top_by b V.top) A T.forks (forks_on g V.top (amount_of vs) Y.forks gs)
            (top_same b y V.top (λ q. sym e ∙ or_right w (x || y) (or_right x y q)))
            (forks_land b Y.forks T.forks around gs o.forks n.forks (λ q. sym e ∙ or_right w (x || y) (or_right x y q)) s));
        result = h;
        moves = m;
        ready = f;
      }

  -- as the processor
  pub lands_has : (Y : Named) (C : JoinedCircuit) (T : Registers) (around : List OpenFork) (gs : List JoinedFork) → IsNamed F around Y T →
      Landed Y → IsStack V.top M around gs → C.result ≡ T.result → C.moves ≡ T.moves → C.full ≡ false →
      JoinedHas T (lands Y V g u (amount_of vs) gs C)
  lands_has Y C T around gs n o s h m f = lands_by Y C T around gs (makes_cell Y) refl n o s h m f
