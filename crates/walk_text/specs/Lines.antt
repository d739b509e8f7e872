-- The line of one move: who moved, the node that the token faced, by which of its wires it came and by which it went, the token before,
-- and what came of it. It is a function of the net, of the state before the move, and of the entry of the log. What the move is, is
-- told by the table of moves and by what a step does at a join; nothing here is a second table.
use Rattle.std.specs.Prelude.{ℕ, List, [], ◌++◌, Option, Some, None, codes, decimal}
use Rattle.pcf_values.specs.declared.val.Val.{Val}
use Rattle.pcf_values.specs.declared.val.Val.TheVariants.{Number, Overflow}
use Rattle.pcf_values.specs.declared.operator.Operator.{Operator}
use Rattle.pcf_values.specs.declared.side.Side.{Side}
use Rattle.pcf_values.specs.declared.side.Side.TheVariants.{Left, Right}
use Rattle.token_stacks.specs.Signatures.{Boxes}
use Rattle.token_stacks.specs.Texts.{work_text, boxes_text, key_text}
use Rattle.net_build.specs.declared.node.Node.{Node}
use Rattle.net_build.specs.Nets.{NetTree}
use Rattle.net_text.specs.Listing.{name_text}
use Rattle.fork_join.specs.Entries.{Entry, pending, has_left, has_right}
use Rattle.move_rules.specs.Places.{Place, up, down, TokenTree, ask, ans, place_of}
use Rattle.move_rules.specs.Table.{facing}
use Rattle.move_rules.specs.Moves.{Move, solo, fork, join, answer, stay, move}
use Rattle.interleave_laws.specs.States.{State, other}
use Rattle.walk_text.specs.Ports.{comes_by, leaves_by}

-- ---- tokens

abbrev pub val_text : Val → List ℕ
val_text (Number n) = decimal n
val_text Overflow = codes "overflow"

-- words with a space between them
abbrev pub then_word : List ℕ → List ℕ → List ℕ
then_word x y = x ++ (codes " " ++ y)

-- a wire and both stacks, the box stack as this text
abbrev pub stacks_text : ℕ → List ℕ → List ℕ → List ℕ
stacks_text w work boxes = then_word (decimal w) (then_word work boxes)

-- a place: the direction, the wire, the work stack and the box stack
abbrev pub place_text : (Boxes → List ℕ) → Place → List ℕ
place_text boxes (up w m t) = codes "up " ++ stacks_text w (work_text m) (boxes t)
place_text boxes (down w m t) = codes "down " ++ stacks_text w (work_text m) (boxes t)

-- a token: `?` for a question, and the value of an answer, in front of its place
abbrev pub token_text : (Boxes → List ℕ) → TokenTree → List ℕ
token_text boxes (ask p) = then_word (codes "?") (place_text boxes p)
token_text boxes (ans v p) = then_word (val_text v) (place_text boxes p)

-- ---- what came of a move

-- the port by which the token left, the token before, and what came of it
abbrev pub came : List ℕ → List ℕ → List ℕ → List ℕ
came out before after = then_word out (before ++ (codes " => " ++ after))

-- the value that is kept in an entry
abbrev pub kept_text : Entry → List ℕ
kept_text pending = codes "-"
kept_text (has_left v) = val_text v
kept_text (has_right v) = val_text v

-- both values at a join, the left one's first
abbrev pub both_text : Side → Entry → Val → List ℕ
both_text Left e v = then_word (val_text v) (kept_text e)
both_text Right e v = then_word (kept_text e) (val_text v)

-- the second answer of a join: the token goes on with what both come to
abbrev pub joined_text : Node → TokenTree → Side → Entry → Val → Option Val → ℕ → Boxes → List ℕ
joined_text n x s e v None w t = []
joined_text n x s e v (Some u) w t =
    came (leaves_by n (down w [] t)) (token_text key_text x)
    (token_text key_text (ans u (down w [] t)) ++ (codes " joined " ++ both_text s e v))

-- an answer at a join, by what its entry keeps
abbrev pub join_text : Node → TokenTree → Operator → Side → Val → ℕ → Boxes → Option Entry → List ℕ
join_text n x o s v w t None = []
join_text n x o s v w t (Some pending) = came (codes "-") (token_text key_text x) (codes "kept")
join_text n x o s v w t (Some e) = joined_text n x s e v (other o e s v) w t

-- what a fork adds: the new ticket with the right operand's question
abbrev pub fork_text : ℕ → TokenTree → List ℕ
fork_text ticket y = codes " fork " ++ then_word (decimal ticket) (token_text key_text y)

-- what came of a move of the token x in a state, at the node n that it faces
abbrev pub outcome_text : State → Node → TokenTree → Move → List ℕ
outcome_text S n x (solo i y) = came (leaves_by n (place_of y)) (token_text boxes_text x) (token_text boxes_text y)
outcome_text S n x (fork i l r t) = came (leaves_by n l) (token_text key_text x) (token_text key_text (ask l) ++ fork_text S.next (ask r))
outcome_text S n x (join i o s v w t) = join_text n x o s v w t (S.entries i t)
outcome_text S n x (answer v) = came (codes "-") (token_text boxes_text x) (codes "answer " ++ val_text v)
outcome_text S n x stay = []

-- ---- the line

-- who moved, and where: the place of the entry in the log, from 0, the worker, the ticket, and the node with its number
abbrev pub mover_text : (k worker ticket number : ℕ) → Node → List ℕ
mover_text k worker ticket number n =
    codes "move " ++ (decimal k ++ (codes " worker " ++ (decimal worker
    ++ (codes " ticket " ++ (decimal ticket ++ (codes " node " ++ (decimal number ++ name_text n)))))))

-- a line: who moved and where, by which port the token came, and what came of it
abbrev pub line_text : (k worker ticket number : ℕ) → Node → List ℕ → List ℕ → List ℕ
line_text k worker ticket number n into outcome =
    mover_text k worker ticket number n ++ (codes " " ++ (into ++ (codes " " ++ (outcome ++ codes "\n"))))

abbrev pub line_at : NetTree → State → (k worker ticket : ℕ) → TokenTree → Option (ℕ × Node) → List ℕ
line_at net S k worker ticket x None = []
line_at net S k worker ticket x (Some p) = line_text k worker ticket p.0 p.1 (comes_by p.1 (place_of x)) (outcome_text S p.1 x (move net x))

abbrev pub line_of : NetTree → State → (k worker ticket : ℕ) → Option TokenTree → List ℕ
line_of net S k worker ticket None = []
line_of net S k worker ticket (Some x) = line_at net S k worker ticket x (facing net (place_of x))

-- the line of the move of a ticket in a state, which is entry k of the log
abbrev pub move_line : NetTree → State → (k worker ticket : ℕ) → List ℕ
move_line net S k worker ticket = line_of net S k worker ticket (S.tokens ticket)
