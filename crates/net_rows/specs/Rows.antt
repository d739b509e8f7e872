-- The rows of a net: for each wire and direction one operation, with the channels that it sends to.
-- A circuit looks at a row and at the stacks alone, never at a node. What the rows make of tokens stands in `RowMoves`, for the laws.
use Rattle.std.specs.Prelude.{ℕ, Option, Some, None, nat_eq, if◌then◌else◌, ◌+◌, ◌*◌}
use Rattle.pcf_values.specs.declared.operator.Operator.{Operator}
use Rattle.pcf_values.specs.declared.side.Side.{Side}
use Rattle.pcf_values.specs.declared.side.Side.TheVariants.{Left, Right}
use Rattle.net_build.specs.declared.node.Node.{Node}
use Rattle.net_build.specs.declared.node.Node.TheVariants.{Const, Succ, Pred, Ifz, Der, Con, Weak, Lam, App, BoxNode, Binary, Proj}
use Rattle.net_build.specs.declared.node.Node.TheVariants.{Door, FixBox, Root, Pair}
use Rattle.net_build.specs.Nets.{NetTree}
use Rattle.net_build.specs.Faces.{node_above, node_below}
use Rattle.move_rules.specs.Places.{Place, up, down}
use Rattle.move_rules.specs.Table.{on_found}

-- a wire with a direction
pub data Channel : Type 0 where
  rises : ℕ → Channel
  falls : ℕ → Channel

-- its number in the text
abbrev pub number : Channel → ℕ
number (rises w) = 2 * w
number (falls w) = 2 * w + 1

-- the operations, with the channels that they send to
pub data Row : Type 0 where
  GO : Channel → Row
  CONST : (n : ℕ) → Channel → Row
  SUCC : Channel → Row
  PRED : Channel → Row
  -- to the first at 0, and else to the second
  TEST : (zero other : Channel) → Row
  FORK : (left right : Channel) → Row
  -- PLUSL, PLUSR, MINUSL .. of the text; it sends down a wire
  JOIN : Operator → Side → (wire : ℕ) → Row
  ANSWER : Row
  STAR : Channel → Row
  UNSTAR : Channel → Row
  LEFT : Channel → Row
  RIGHT : Channel → Row
  CON : (left right : Channel) → Row
  PUSHR : Channel → Row
  PUSHL : Channel → Row
  -- to the first at `R`, and to the second at `L`
  SELECT : (at_R at_L : Channel) → Row
  -- a symbol that isn't a signature goes
  POP : Channel → Row
  BOXIN : Channel → Row
  BOXOUT : Channel → Row
  DOOROUT : Channel → Row
  DOORIN : Channel → Row
  FIXIN : Channel → Row
  -- to the first from the call from outside, and to the second from a call from inside
  FIXOUT : (outside inside : Channel) → Row
  FIXVAR : Channel → Row
  DEAD : Row

-- the first at this wire, and else the second
abbrev pub if_at : ℕ → ℕ → Row → Row → Row
if_at x w r s = if nat_eq x w then r else s

-- the row of a token that comes up the conclusion w of a node
abbrev pub row_up : Node → ℕ → Row
row_up (Const v c) w = CONST v (falls c)
row_up (Succ a c) w = GO (rises a)
row_up (Pred a c) w = GO (rises a)
row_up (Binary o a b c) w = FORK (rises a) (rises b)
row_up (Ifz b p q c) w = GO (rises b)
row_up (Der v x) w = if_at v w (STAR (falls x)) (UNSTAR (falls v))
row_up (Con l r c) w = CON (rises l) (rises r)
row_up (Weak x) w = DEAD
row_up (Lam b x c) w = SELECT (rises b) (rises x)
row_up (App f a c) w = PUSHR (rises f)
row_up (BoxNode i o) w = BOXIN (rises i)
row_up (Door i o) w = DOORIN (rises i)
row_up (FixBox b x c) w = FIXIN (rises b)
row_up (Root c) w = DEAD
row_up (Pair a b c) w = SELECT (rises b) (rises a)
row_up (Proj Left a c) w = PUSHL (rises a)
row_up (Proj Right a c) w = PUSHR (rises a)

-- the row of a token that comes down the premise w of a node
abbrev pub row_down : Node → ℕ → Row
row_down (Const v c) w = DEAD
row_down (Succ a c) w = SUCC (falls c)
row_down (Pred a c) w = PRED (falls c)
row_down (Binary o a b c) w = if_at a w (JOIN o Left c) (JOIN o Right c)
row_down (Ifz b p q c) w = if_at b w (TEST (rises p) (rises q)) (GO (falls c))
row_down (Der v x) w = DEAD
row_down (Con l r c) w = if_at l w (LEFT (falls c)) (RIGHT (falls c))
row_down (Weak x) w = DEAD
row_down (Lam b x c) w = if_at b w (PUSHR (falls c)) (PUSHL (falls c))
row_down (App f a c) w = if_at f w (SELECT (falls c) (rises a)) (PUSHL (rises f))
row_down (BoxNode i o) w = BOXOUT (falls o)
row_down (Door i o) w = DOOROUT (falls o)
row_down (FixBox b x c) w = if_at b w (FIXOUT (falls c) (rises x)) (FIXVAR (rises b))
row_down (Root c) w = ANSWER
row_down (Pair a b c) w = if_at a w (PUSHL (falls c)) (PUSHR (falls c))
row_down (Proj d a c) w = POP (falls c)

-- a row with the number of its node
abbrev pub found_row : Option (ℕ × Node) → (Node → Row) → Option (ℕ × Row)
found_row o f = on_found o None (λ i n. Some (i, f n))

-- the row of a channel
abbrev pub row_of : NetTree → Channel → Option (ℕ × Row)
row_of net (rises w) = found_row (node_above net w) (λ n. row_up n w)
row_of net (falls w) = found_row (node_below net w) (λ n. row_down n w)

-- the channel by which a place is come to
abbrev pub channel_of : Place → Channel
channel_of (up w m t) = rises w
channel_of (down w m t) = falls w
