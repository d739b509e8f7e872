-- A row that goes through with names goes through with all that they stand for.
use Rattle.std.proofs.Common.{◌≡◌, ℕ, ◌∷◌, Option, Some, None, refl, ap, ◌∙◌}
use Rattle.token_stacks.specs.Signatures.{Work, Boxes}
use Rattle.move_rules.specs.Places.{Place, TokenTree, ask, ans}
use Rattle.move_rules.specs.Moves.{solo, solo_at}
use Rattle.pcf_values.specs.declared.val.Val.{Val}
use Rattle.pcf_values.specs.declared.val.Val.TheVariants.{Number}
use Rattle.pcf_values.specs.Values.{at_zero}
use Rattle.net_rows.specs.Rows.{Row, GO, CONST, SUCC, PRED, TEST, FORK, JOIN, ANSWER, STAR, UNSTAR, LEFT, RIGHT}
use Rattle.net_rows.specs.Rows.{CON, PUSHR, PUSHL, SELECT, POP, BOXIN, BOXOUT, DOOROUT, DOORIN, FIXIN, FIXOUT, FIXVAR}
use Rattle.net_rows.specs.Rows.{Channel, rises, falls}
use Rattle.net_rows.specs.RowMoves.{at, stack_row, answer_row, question_row, by_row}
use Rattle.joined_rows.specs.Open.{a_star, a_left, a_right, a_pair, an_again, to_R, to_L, sign, Amount, known}
use Rattle.joined_rows.specs.Open.{more_than, less_than, Spot, Walker, asks, says, Filling, work_of, boxes_of, place_in, token_in, val_of}
use Rattle.joined_rows.specs.Open.{spot, row_of_names, then_at, answer_names, question_names}
use Rattle.joined_rows.specs.Laws.{RowJoins}

module _ (F : Filling) where
  -- what is made is the place of the spot
  made : (c : Channel) (m : _) (t : _) (s : Spot) → Some (spot c m t) ≡ Some s →
      Some (at c (work_of F m) (boxes_of F t)) ≡ Some (place_in F s)
  made c m t s e = let same : spot c m t ≡ s = cc in ap (λ s. Some (place_in F s)) same

  pub stack_joins : (r : Row) (m : _) (t : _) (s : Spot) → row_of_names r m t ≡ Some s →
      stack_row r (work_of F m) (boxes_of F t) ≡ Some (place_in F s)
  stack_joins (GO c) m t s e = made c m t s e
  stack_joins (STAR c) m t s e = made c (sign a_star ∷ m) t s e
  stack_joins (UNSTAR c) (sign a_star ∷ m) t s e = made c m t s e
  stack_joins (LEFT c) (sign x ∷ m) t s e = made c (sign (a_left x) ∷ m) t s e
  stack_joins (RIGHT c) (sign x ∷ m) t s e = made c (sign (a_right x) ∷ m) t s e
  stack_joins (CON c d) (sign (a_left x) ∷ m) t s e = made c (sign x ∷ m) t s e
  stack_joins (CON c d) (sign (a_right x) ∷ m) t s e = made d (sign x ∷ m) t s e
  stack_joins (PUSHR c) m t s e = made c (to_R ∷ m) t s e
  stack_joins (PUSHL c) m t s e = made c (to_L ∷ m) t s e
  stack_joins (SELECT c d) (to_R ∷ m) t s e = made c m t s e
  stack_joins (SELECT c d) (to_L ∷ m) t s e = made d m t s e
  stack_joins (POP c) (to_R ∷ m) t s e = made c m t s e
  stack_joins (POP c) (to_L ∷ m) t s e = made c m t s e
  stack_joins (BOXIN c) (sign x ∷ m) t s e = made c m (x ∷ t) s e
  stack_joins (BOXOUT c) m (x ∷ t) s e = made c (sign x ∷ m) t s e
  stack_joins (DOOROUT c) (sign y ∷ m) (x ∷ t) s e = made c (sign (a_pair x y) ∷ m) t s e
  stack_joins (DOORIN c) (sign (a_pair x y) ∷ m) t s e = made c (sign y ∷ m) (x ∷ t) s e
  stack_joins (FIXIN c) m t s e = made c m (a_star ∷ t) s e
  stack_joins (FIXOUT c d) m (a_star ∷ t) s e = made c m t s e
  stack_joins (FIXOUT c d) m (an_again x y ∷ t) s e = made d (sign y ∷ m) (x ∷ t) s e
  stack_joins (FIXVAR c) (sign y ∷ m) (x ∷ t) s e = made c m (an_again x y ∷ t) s e
  stack_joins r m t s e = absurd cc

  -- the row of stacks with a token around it
  around : (i : ℕ) (o : Option Spot) (p : Option Place) (f : Spot → Walker) (g : Place → TokenTree) (y : Walker) →
      ((s : Spot) → o ≡ Some s → p ≡ Some (place_in F s)) → ((s : Spot) → g (place_in F s) ≡ token_in F (f s)) →
      then_at o f ≡ Some y → solo_at i p g ≡ solo i (token_in F y)
  around i None p f g y h k e = absurd cc
  around i (Some s) p f g y h k e =
      let same : f s ≡ y = cc in
      ap (λ p. solo_at i p g) (h s refl) ∙ ap (solo i) (k s ∙ ap (token_in F) same)

  -- a row that leads a walker to this one
  given : (i : ℕ) (x y : Walker) → Some x ≡ Some y → solo i (token_in F x) ≡ solo i (token_in F y)
  given i x y e = let same : x ≡ y = cc in ap (λ x. solo i (token_in F x)) same

  answers : (i : ℕ) (r : Row) (a : Amount) (m : _) (t : _) (y : Walker) → answer_names r a m t ≡ Some y →
      answer_row i r (val_of F a) (work_of F m) (boxes_of F t) ≡ solo i (token_in F y)
  answers i (SUCC c) a m t y e = given i (says (more_than a) (spot c m t)) y e
  answers i (PRED c) a m t y e = given i (says (less_than a) (spot c m t)) y e
  answers i (TEST c d) (known v) m t y e = given i (asks (spot (at_zero v c d) m t)) y e
  answers i (TEST c d) a m t y e = absurd cc
  answers i (JOIN o s w) a m t y e = absurd cc
  answers i ANSWER a m t y e = absurd cc
  answers i r a m t y e =
      around i (row_of_names r m t) (stack_row r (work_of F m) (boxes_of F t)) (says a) (ans (val_of F a)) y (stack_joins r m t)
      (λ s. refl) e

  questions : (i : ℕ) (r : Row) (m : _) (t : _) (y : Walker) → question_names r m t ≡ Some y →
      question_row i r (work_of F m) (boxes_of F t) ≡ solo i (token_in F y)
  questions i (CONST n c) m t y e = given i (says (known (Number n)) (spot c m t)) y e
  questions i (FORK c d) m t y e = absurd cc
  questions i r m t y e =
      around i (row_of_names r m t) (stack_row r (work_of F m) (boxes_of F t)) asks ask y (stack_joins r m t) (λ s. refl) e

-- a token's row is told by its stacks, whichever way it goes
pub by_asks : (i : ℕ) (r : Row) (c : Channel) (m : Work) (t : Boxes) → by_row i r (ask (at c m t)) ≡ question_row i r m t
by_asks i r (rises w) m t = refl
by_asks i r (falls w) m t = refl

pub by_says : (i : ℕ) (r : Row) (v : Val) (c : Channel) (m : Work) (t : Boxes) → by_row i r (ans v (at c m t)) ≡ answer_row i r v m t
by_says i r v (rises w) m t = refl
by_says i r v (falls w) m t = refl

pub row_joins : RowJoins
row_joins i r (asks s) y e F = by_asks i r s.channel (work_of F s.work) (boxes_of F s.boxes) ∙ questions F i r s.work s.boxes y e
row_joins i r (says a s) y e F =
    by_says i r (val_of F a) s.channel (work_of F s.work) (boxes_of F s.boxes) ∙ answers F i r a s.work s.boxes y e
