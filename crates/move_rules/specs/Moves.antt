-- The table of moves: the one move that a token has at the node that it faces.
-- The rules of numbers, operators and tests want an empty work stack and leave the box stack as it is; all else is a plain rule. What
-- a question meets is one small type of its own, so that the moves of questions, and any count of what a question comes to, read one
-- table. Solo moves turn one token into one token and need nothing else; a fork opens the entry of its node and box stack, a join
-- brings a value to that entry, and the root takes the answer. A token that fits no row stays. That several tokens walk one net and
-- wait for one another at such nodes is after Dal Lago, Faggian, Hasuo and Yoshimizu, 'The geometry of synchronization'.
use Rattle.std.specs.Prelude.{ℕ, [], Option, Some, None, nat_eq, if◌then◌else◌}
use Rattle.pcf_values.specs.declared.val.Val.{Val}
use Rattle.pcf_values.specs.declared.val.Val.TheVariants.{Number}
use Rattle.pcf_values.specs.Values.{val_succ, val_pred, at_zero}
use Rattle.pcf_values.specs.declared.operator.Operator.{Operator}
use Rattle.pcf_values.specs.declared.side.Side.{Side}
use Rattle.pcf_values.specs.declared.side.Side.TheVariants.{Left, Right}
use Rattle.token_stacks.specs.Signatures.{Work, Boxes}
use Rattle.net_build.specs.declared.node.Node.{Node}
use Rattle.net_build.specs.declared.node.Node.TheVariants.{Const, Succ, Pred, Ifz, Root, Binary}
use Rattle.net_build.specs.Nets.{NetTree}
use Rattle.net_build.specs.Faces.{node_above, node_below}
use Rattle.move_rules.specs.Places.{Place, up, down, turned, TokenTree, ask, ans}
use Rattle.move_rules.specs.Table.{plain_up, plain_down, on_found}

-- what a question meets: nothing that it fits, a number, a plain rule, the operand of a function of numbers, a test with its
-- branches, or an operator with its two operands
pub data Look : Type 0 where
  dead : Look
  constant : (node n : ℕ) → Look
  pass : (node : ℕ) → Place → Look
  one : (node : ℕ) → (Val → Val) → Place → Look
  test : (node : ℕ) → (c p q : Place) → Look
  two : (node : ℕ) → Operator → Boxes → (a b : Place) → Look

abbrev pub pass_at : ℕ → Option Place → Look
pass_at i None = dead
pass_at i (Some q) = pass i q

-- what a question meets at node n, whose number is i, that it comes to up the conclusion w
abbrev pub look_up : ℕ → Node → ℕ → Work → Boxes → Look
look_up i (Const v c) w [] t = constant i v
look_up i (Succ a c) w [] t = one i val_succ (up a [] t)
look_up i (Pred a c) w [] t = one i val_pred (up a [] t)
look_up i (Ifz b p q c) w [] t = test i (up b [] t) (up p [] t) (up q [] t)
look_up i (Binary o a b c) w [] t = two i o t (up a [] t) (up b [] t)
look_up i n w m t = pass_at i (plain_up n w m t)

-- what a question meets
abbrev pub look : NetTree → Place → Look
look net (up w m t) = on_found (node_above net w) dead (λ i n. look_up i n w m t)
look net (down w m t) = on_found (node_below net w) dead (λ i n. pass_at i (plain_down n w m t))

-- a move: the node's number with what comes of it
pub data Move : Type 0 where
  solo : (node : ℕ) → TokenTree → Move
  fork : (node : ℕ) → (l r : Place) → (t : Boxes) → Move
  join : (node : ℕ) → Operator → Side → Val → (w : ℕ) → (t : Boxes) → Move
  answer : Val → Move
  stay : Move

-- the move of a question
abbrev pub ask_move : Look → Place → Move
ask_move dead p = stay
ask_move (constant i n) p = solo i (ans (Number n) (turned p))
ask_move (pass i q) p = solo i (ask q)
ask_move (one i f q) p = solo i (ask q)
ask_move (test i c a b) p = solo i (ask c)
ask_move (two i o t a b) p = fork i a b t

abbrev pub solo_at : ℕ → Option Place → (Place → TokenTree) → Move
solo_at i None f = stay
solo_at i (Some p) f = solo i (f p)

-- the first of two that is a move
abbrev pub or_stay : Move → Move → Move
or_stay stay m = m
or_stay (solo i x) m = solo i x
or_stay (fork i l r t) m = fork i l r t
or_stay (join i o s v w t) m = join i o s v w t
or_stay (answer v) m = answer v

-- a move of the wire x, for a token that comes by w
abbrev pub if_wire : ℕ → ℕ → Move → Move
if_wire x w m = if nat_eq x w then m else stay

-- the answer of an operator's operand
abbrev pub operand_down : ℕ → Operator → (a b c : ℕ) → Val → ℕ → Boxes → Move
operand_down i o a b c v w t = or_stay (if_wire a w (join i o Left v c t)) (if_wire b w (join i o Right v c t))

-- the move of an answer at node n, whose number is i, that it comes to down the premise w
abbrev pub ans_down : ℕ → Node → Val → ℕ → Work → Boxes → Move
ans_down i (Succ a c) v w [] t = solo i (ans (val_succ v) (down c [] t))
ans_down i (Pred a c) v w [] t = solo i (ans (val_pred v) (down c [] t))
ans_down i (Ifz b p q c) v w [] t =
    or_stay (if_wire b w (solo i (ask (up (at_zero v p q) [] t))))
    (or_stay (if_wire p w (solo i (ans v (down c [] t)))) (if_wire q w (solo i (ans v (down c [] t)))))
ans_down i (Binary o a b c) v w [] t = operand_down i o a b c v w t
ans_down i (Root c) v w [] t = answer v
ans_down i n v w m t = solo_at i (plain_down n w m t) (ans v)

-- the one move of a token
abbrev pub move : NetTree → TokenTree → Move
move net (ask p) = ask_move (look net p) p
move net (ans v (up w m t)) = on_found (node_above net w) stay (λ i n. solo_at i (plain_up n w m t) (ans v))
move net (ans v (down w m t)) = on_found (node_below net w) stay (λ i n. ans_down i n v w m t)
