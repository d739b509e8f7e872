-- The rules and the move at a node that a token faces, whatever the net, and the kinds of moves: what laws, single steps and proofs
-- speak of. The machine itself goes by `look` and `move`.
use Rattle.std.specs.Prelude.{ℕ, Option, None}
use Rattle.net_build.specs.declared.node.Node.{Node}
use Rattle.net_build.specs.Nets.{NetTree}
use Rattle.net_build.specs.Faces.{node_above, node_below}
use Rattle.move_rules.specs.Places.{Place, up, down, TokenTree, ask, ans}
use Rattle.move_rules.specs.Table.{plain_up, plain_down, on_found}
use Rattle.move_rules.specs.Moves.{Look, pass_at, look_up, Move, ask_move, solo_at, ans_down, solo, fork, join, answer, stay}

-- the rules at a node, for a token that faces it
abbrev pub plain_at : Node → Place → Option Place
plain_at n (up w m t) = plain_up n w m t
plain_at n (down w m t) = plain_down n w m t

-- where a plain rule leads from a place
abbrev pub plain : NetTree → Place → Option Place
plain net (up w m t) = on_found (node_above net w) None (λ i n. plain_up n w m t)
plain net (down w m t) = on_found (node_below net w) None (λ i n. plain_down n w m t)

-- what a question meets at node n, whose number is i, if it faces that node
abbrev pub look_at : ℕ → Node → Place → Look
look_at i n (up w m t) = look_up i n w m t
look_at i n (down w m t) = pass_at i (plain_down n w m t)

-- the move of a token at node n, whose number is i, if it faces that node
abbrev pub move_at : ℕ → Node → TokenTree → Move
move_at i n (ask p) = ask_move (look_at i n p) p
move_at i n (ans v (up w m t)) = solo_at i (plain_up n w m t) (ans v)
move_at i n (ans v (down w m t)) = ans_down i n v w m t

-- the move isn't a solo move
abbrev pub NotSolo : Move → Type 0
NotSolo (solo i x) = ⊥
NotSolo (fork i l r t) = Unit {0}
NotSolo (join i o s v w t) = Unit {0}
NotSolo (answer v) = Unit {0}
NotSolo stay = Unit {0}

-- a move that needs nothing but its token: a solo move, or none
abbrev pub Unaided : Move → Type 0
Unaided (solo i x) = Unit {0}
Unaided (fork i l r t) = ⊥
Unaided (join i o s v w t) = ⊥
Unaided (answer v) = ⊥
Unaided stay = Unit {0}
