-- A token that makes no solo move has its role's move.
use Rattle.std.proofs.Common.{◌≡◌, ℕ, Bool, true, false, cond, [], ◌∷◌, Option, Some, None, refl, ◌∙◌}
use Rattle.std.specs.Prelude.{nat_eq}
use Rattle.pcf_values.specs.declared.val.Val.{Val}
use Rattle.token_stacks.specs.Signatures.{Work, Boxes}
use Rattle.token_stacks.specs.Loads.{load}
use Rattle.net_build.specs.declared.node.Node.{Node}
use Rattle.net_build.specs.declared.node.Node.TheVariants.{Const, Succ, Pred, Ifz, Root, Binary}
use Rattle.move_rules.specs.declared.token.Token.{Token}
use Rattle.move_rules.specs.declared.token.Kind.{Kind}
use Rattle.move_rules.specs.declared.token.Kind.TheVariants.{Ask, Ans}
use Rattle.move_rules.specs.Places.{Place, TokenTree, up, down, ans}
use Rattle.move_rules.specs.Table.{plain_up, plain_down}
use Rattle.move_rules.specs.Moves.{solo, join, stay, pass_at, ask_move, solo_at, or_stay, if_wire, look_up, ans_down, operand_down}
use Rattle.move_rules.specs.AtNode.{move_at, NotSolo}
use Rattle.move_rules.specs.Views.{place_at, of_kind, token_of}
use Rattle.pcf_values.specs.declared.side.Side.TheVariants.{Left, Right}
use Rattle.pcf_values.specs.declared.operator.Operator.{Operator}
use Rattle.interleave_core.specs.declared.roles.Role.TheVariants.{Join, Still}
use Rattle.interleave_core.specs.Roles.{operand_role, role_of, role_move}

-- a question that no plain rule takes on stays
pass_stays : (i : ℕ) (o : Option Place) (p : Place) → NotSolo (ask_move (pass_at i o) p) → ask_move (pass_at i o) p ≡ stay
pass_stays i None p h = refl
pass_stays i (Some q) p h = elim h [ ]

-- and so does an answer
solo_stays : (i : ℕ) (o : Option Place) (v : Val) → NotSolo (solo_at i o (ans v)) → solo_at i o (ans v) ≡ stay
solo_stays i None v h = refl
solo_stays i (Some q) v h = elim h [ ]

-- a question from below
asks_up : (i : ℕ) (n : Node) (w : ℕ) (m : Work) (t : Boxes) (p : Place) → NotSolo (ask_move (look_up i n w m t) p) →
    ask_move (look_up i n w m t) p ≡ role_move (role_of n Ask true w m) i t
asks_up i (Const v c) w [] t p h = elim h [ ]
asks_up i (Succ a c) w [] t p h = elim h [ ]
asks_up i (Pred a c) w [] t p h = elim h [ ]
asks_up i (Ifz b x y c) w [] t p h = elim h [ ]
asks_up i (Binary o a b c) w [] t p h = refl
asks_up i n w [] t p h = pass_stays i (plain_up n w [] t) p h
asks_up i (Const v c) w (x ∷ m) t p h = refl
asks_up i (Succ a c) w (x ∷ m) t p h = refl
asks_up i (Pred a c) w (x ∷ m) t p h = refl
asks_up i (Ifz b y z c) w (x ∷ m) t p h = refl
asks_up i (Binary o a b c) w (x ∷ m) t p h = refl
asks_up i n w (x ∷ m) t p h = pass_stays i (plain_up n w (x ∷ m) t) p h

-- a question from above has no role
no_ask_down : (i : ℕ) (n : Node) (w : ℕ) (m : Work) (t : Boxes) → stay ≡ role_move (role_of n Ask false w m) i t
no_ask_down i (Binary o a b c) w [] t = refl
no_ask_down i n w [] t = refl
no_ask_down i n w (x ∷ m) t = refl

-- nor has an answer from below
no_ans_up : (i : ℕ) (n : Node) (v : Val) (w : ℕ) (m : Work) (t : Boxes) → stay ≡ role_move (role_of n (Ans v) true w m) i t
no_ans_up i (Binary o a b c) v w [] t = refl
no_ans_up i n v w [] t = refl
no_ans_up i n v w (x ∷ m) t = refl

-- an operand's answer
joins_at : (i : ℕ) (o : Operator) (a b c : ℕ) (v : Val) (w : ℕ) (t : Boxes) →
    operand_down i o a b c v w t ≡ role_move (operand_role o a b c (Ans v) false w) i t
joins_at i o a b c v w t = go (nat_eq a w) (nat_eq b w)
  where
    go : (x y : Bool) → or_stay (cond x (join i o Left v c t) stay) (cond y (join i o Right v c t) stay) ≡
        role_move (cond x (Join o Left v c) (cond y (Join o Right v c) Still)) i t
    go true y = refl
    go false true = refl
    go false false = refl

-- a test's answer that makes no solo move
test_stays : (i x y z : ℕ) (a b c : TokenTree) (wire : ℕ) →
    NotSolo (or_stay (if_wire x wire (solo i a)) (or_stay (if_wire y wire (solo i b)) (if_wire z wire (solo i c)))) →
    or_stay (if_wire x wire (solo i a)) (or_stay (if_wire y wire (solo i b)) (if_wire z wire (solo i c))) ≡ stay
test_stays i x y z a b c wire stays = go (nat_eq x wire) (nat_eq y wire) (nat_eq z wire) stays
  where
    go : (p q r : Bool) → NotSolo (or_stay (cond p (solo i a) stay) (or_stay (cond q (solo i b) stay) (cond r (solo i c) stay))) →
        or_stay (cond p (solo i a) stay) (or_stay (cond q (solo i b) stay) (cond r (solo i c) stay)) ≡ stay
    go true q r h = elim h [ ]
    go false true r h = elim h [ ]
    go false false true h = elim h [ ]
    go false false false h = refl

-- an answer from above
answers_down : (i : ℕ) (n : Node) (v : Val) (w : ℕ) (m : Work) (t : Boxes) → NotSolo (ans_down i n v w m t) →
    ans_down i n v w m t ≡ role_move (role_of n (Ans v) false w m) i t
answers_down i (Succ a c) v w [] t h = elim h [ ]
answers_down i (Pred a c) v w [] t h = elim h [ ]
answers_down i (Ifz b x y c) v w [] t h = test_stays i b x y _ _ _ w h
answers_down i (Binary o a b c) v w [] t h = joins_at i o a b c v w t
answers_down i (Root c) v w [] t h = refl
answers_down i n v w [] t h = solo_stays i (plain_down n w [] t) v h
answers_down i (Succ a c) v w (x ∷ m) t h = refl
answers_down i (Pred a c) v w (x ∷ m) t h = refl
answers_down i (Ifz b y z c) v w (x ∷ m) t h = refl
answers_down i (Binary o a b c) v w (x ∷ m) t h = refl
answers_down i (Root c) v w (x ∷ m) t h = refl
answers_down i n v w (x ∷ m) t h = solo_stays i (plain_down n w (x ∷ m) t) v h

-- what a token that makes no solo move at a node does there is its role
pub played : (i : ℕ) (n : Node) (k : Token) → NotSolo (move_at i n (token_of k)) →
    move_at i n (token_of k) ≡ role_move (role_of n k.kind k.up k.wire k.stacks.work) i k.stacks.boxes
played i n k h = go k.kind k.up k.wire k.stacks.work k.stacks.boxes h
  where
    go : (q : Kind) (u : Bool) (w : ℕ) (m : Work) (t : Boxes) → NotSolo (move_at i n (of_kind q (place_at w u (load m t)))) →
        move_at i n (of_kind q (place_at w u (load m t))) ≡ role_move (role_of n q u w m) i t
    go Ask true w m t h = asks_up i n w m t (up w m t) h
    go Ask false w m t h = pass_stays i (plain_down n w m t) (down w m t) h ∙ no_ask_down i n w m t
    go (Ans v) true w m t h = solo_stays i (plain_up n w m t) v h ∙ no_ans_up i n v w m t
    go (Ans v) false w m t h = answers_down i n v w m t h
