-- What a row makes of a token: the table of moves, told once more by channel in place of node.
-- What a row asks of the stacks is what its operation reads of them and no more. Where the table of moves wants an empty work stack
-- at numbers, a row wants nothing, since a net that runs never comes there with another one; at operators alone it is asked for, so that a
-- fork's questions and a join's answer have one.
use Rattle.std.specs.Prelude.{ℕ, [], ◌∷◌, Option, Some, None}
use Rattle.pcf_values.specs.declared.val.Val.{Val}
use Rattle.pcf_values.specs.declared.val.Val.TheVariants.{Number}
use Rattle.pcf_values.specs.Values.{val_succ, val_pred, at_zero}
use Rattle.token_stacks.specs.Signatures.{star, left_of, right_of, pair_of, again, R, L, S, Work, Boxes}
use Rattle.net_build.specs.Nets.{NetTree}
use Rattle.move_rules.specs.Places.{Place, up, down, TokenTree, ask, ans, place_of}
use Rattle.move_rules.specs.Moves.{Move, solo, fork, join, answer, stay, solo_at}
use Rattle.net_rows.specs.Rows.{Row, row_of, channel_of, GO, CONST, SUCC, PRED, TEST, FORK, JOIN, ANSWER, STAR, UNSTAR, LEFT, RIGHT}
use Rattle.net_rows.specs.Rows.{CON, PUSHR, PUSHL, SELECT, POP, BOXIN, BOXOUT, DOOROUT, DOORIN, FIXIN, FIXOUT, FIXVAR}
use Rattle.net_rows.specs.Rows.{Channel, rises, falls}

-- the place of a channel with both stacks
abbrev pub at : Channel → Work → Boxes → Place
at (rises w) m t = up w m t
at (falls w) m t = down w m t

-- where a row of stacks alone leads; none where the stacks haven't what it reads, and at the rows of numbers
abbrev pub stack_row : Row → Work → Boxes → Option Place
stack_row (GO c) m t = Some (at c m t)
stack_row (STAR c) m t = Some (at c (S star ∷ m) t)
stack_row (UNSTAR c) (S star ∷ m) t = Some (at c m t)
stack_row (LEFT c) (S s ∷ m) t = Some (at c (S (left_of s) ∷ m) t)
stack_row (RIGHT c) (S s ∷ m) t = Some (at c (S (right_of s) ∷ m) t)
stack_row (CON c d) (S (left_of s) ∷ m) t = Some (at c (S s ∷ m) t)
stack_row (CON c d) (S (right_of s) ∷ m) t = Some (at d (S s ∷ m) t)
stack_row (PUSHR c) m t = Some (at c (R ∷ m) t)
stack_row (PUSHL c) m t = Some (at c (L ∷ m) t)
stack_row (SELECT c d) (R ∷ m) t = Some (at c m t)
stack_row (SELECT c d) (L ∷ m) t = Some (at d m t)
stack_row (POP c) (R ∷ m) t = Some (at c m t)
stack_row (POP c) (L ∷ m) t = Some (at c m t)
stack_row (BOXIN c) (S s ∷ m) t = Some (at c m (s ∷ t))
stack_row (BOXOUT c) m (s ∷ t) = Some (at c (S s ∷ m) t)
stack_row (DOOROUT c) (S u ∷ m) (s ∷ t) = Some (at c (S (pair_of s u) ∷ m) t)
stack_row (DOORIN c) (S (pair_of s u) ∷ m) t = Some (at c (S u ∷ m) (s ∷ t))
stack_row (FIXIN c) m t = Some (at c m (star ∷ t))
stack_row (FIXOUT c d) m (star ∷ t) = Some (at c m t)
stack_row (FIXOUT c d) m (again u s ∷ t) = Some (at d (S s ∷ m) (u ∷ t))
stack_row (FIXVAR c) (S s ∷ m) (u ∷ t) = Some (at c m (again u s ∷ t))
stack_row _ m t = None

-- what the row makes of an answer that comes to it with both stacks; the rows of numbers are for answers alone
abbrev pub answer_row : ℕ → Row → Val → Work → Boxes → Move
answer_row i (SUCC c) v m t = solo i (ans (val_succ v) (at c m t))
answer_row i (PRED c) v m t = solo i (ans (val_pred v) (at c m t))
answer_row i (TEST c d) v m t = solo i (ask (at (at_zero v c d) m t))
answer_row i (JOIN o s w) v [] t = join i o s v w t
answer_row i ANSWER v m t = answer v
answer_row i r v m t = solo_at i (stack_row r m t) (ans v)

-- what it makes of a question: a number answers, and an operator asks both operands
abbrev pub question_row : ℕ → Row → Work → Boxes → Move
question_row i (CONST n c) m t = solo i (ans (Number n) (at c m t))
question_row i (FORK c d) [] t = fork i (at c [] t) (at d [] t) t
question_row i r m t = solo_at i (stack_row r m t) ask

-- the move of a token by a row with its node's number
abbrev pub by_row : ℕ → Row → TokenTree → Move
by_row i r (ask (up w m t)) = question_row i r m t
by_row i r (ask (down w m t)) = question_row i r m t
by_row i r (ans v (up w m t)) = answer_row i r v m t
by_row i r (ans v (down w m t)) = answer_row i r v m t

-- the move by the row that was found, and none where none was
abbrev pub by_found : Option (ℕ × Row) → TokenTree → Move
by_found None x = stay
by_found (Some r) x = by_row r.0 r.1 x

-- the move of a token by its channel's row
abbrev pub by_rows : NetTree → TokenTree → Move
by_rows net x = by_found (row_of net (channel_of (place_of x))) x
