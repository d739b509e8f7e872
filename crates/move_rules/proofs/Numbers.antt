-- A move names the node at which it is made.
use Rattle.std.proofs.Common.{◌≡◌, ℕ, [], Option, Some, None, refl}
use Rattle.pcf_values.specs.declared.val.Val.{Val}
use Rattle.pcf_values.specs.declared.operator.Operator.{Operator}
use Rattle.token_stacks.specs.Signatures.{Work, Boxes}
use Rattle.net_build.specs.declared.node.Node.{Node}
use Rattle.net_build.specs.declared.node.Node.TheVariants.{Const, Succ, Pred, Ifz, Root, Binary}
use Rattle.move_rules.specs.Places.{Place, up, down, TokenTree, ask, ans}
use Rattle.move_rules.specs.Table.{plain_up, plain_down}
use Rattle.move_rules.specs.Moves.{Look, dead, constant, pass, one, test, two, pass_at, look_up, Move, solo, fork, join, answer}
use Rattle.move_rules.specs.AtNode.{look_at, move_at}
use Rattle.move_rules.specs.Moves.{stay, ask_move, solo_at, operand_down, ans_down}
use Rattle.move_rules.proofs.Either.{wire_so, either_so, operand_so}

-- what is met has this number
abbrev LookAt : ℕ → Look → Type 0
LookAt i dead = Unit {0}
LookAt i (constant j n) = j ≡ i
LookAt i (pass j q) = j ≡ i
LookAt i (one j f q) = j ≡ i
LookAt i (test j c p q) = j ≡ i
LookAt i (two j o t a b) = j ≡ i

-- a solo move has this number
abbrev pub MoveAt : ℕ → Move → Type 0
MoveAt i (solo j x) = j ≡ i
MoveAt i (fork j l r t) = j ≡ i
MoveAt i (join j o s v w t) = j ≡ i
MoveAt i (answer v) = Unit {0}
MoveAt i stay = Unit {0}

pass_is : (i : ℕ) (o : Option Place) → LookAt i (pass_at i o)
pass_is i None = tt
pass_is i (Some q) = refl

look_up_is : (i : ℕ) (n : Node) (w : ℕ) (m : Work) (t : Boxes) → LookAt i (look_up i n w m t)
look_up_is i (Const v c) w [] t = refl
look_up_is i (Succ a c) w [] t = refl
look_up_is i (Pred a c) w [] t = refl
look_up_is i (Ifz b p q c) w [] t = refl
look_up_is i (Binary o a b c) w [] t = refl
look_up_is i n w m t = pass_is i (plain_up n w m t)

look_is : (i : ℕ) (n : Node) (p : Place) → LookAt i (look_at i n p)
look_is i n (up w m t) = look_up_is i n w m t
look_is i n (down w m t) = pass_is i (plain_down n w m t)

ask_is : (i : ℕ) (l : Look) (p : Place) → LookAt i l → MoveAt i (ask_move l p)
ask_is i dead p h = tt
ask_is i (constant j n) p h = h
ask_is i (pass j q) p h = h
ask_is i (one j f q) p h = h
ask_is i (test j c a b) p h = h
ask_is i (two j o t a b) p h = h

solo_is : (i : ℕ) (o : Option Place) (f : Place → TokenTree) → MoveAt i (solo_at i o f)
solo_is i None f = tt
solo_is i (Some q) f = refl

operand_is : (i : ℕ) (o : Operator) (a b c : ℕ) (v : Val) (w : ℕ) (t : Boxes) → MoveAt i (operand_down i o a b c v w t)
operand_is i o a b c v w t = operand_so (MoveAt i) tt a b w _ _ refl refl

ans_down_is : (i : ℕ) (n : Node) (v : Val) (w : ℕ) (m : Work) (t : Boxes) → MoveAt i (ans_down i n v w m t)
ans_down_is i (Succ a c) v w [] t = refl
ans_down_is i (Pred a c) v w [] t = refl
ans_down_is i (Ifz b p q c) v w [] t =
    either_so (MoveAt i) tt _ _ (wire_so (MoveAt i) tt b w _ refl) (operand_so (MoveAt i) tt p q w _ _ refl refl)
ans_down_is i (Binary o a b c) v w [] t = operand_is i _ a b c v w t
ans_down_is i (Root c) v w [] t = tt
ans_down_is i n v w m t = solo_is i (plain_down n w m t) (ans v)

pub move_is : (i : ℕ) (n : Node) (x : TokenTree) → MoveAt i (move_at i n x)
move_is i n (ask p) = ask_is i (look_at i n p) p (look_is i n p)
move_is i n (ans v (up w m t)) = solo_is i (plain_up n w m t) (ans v)
move_is i n (ans v (down w m t)) = ans_down_is i n v w m t
