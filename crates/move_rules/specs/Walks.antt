-- Walks: solo moves of one token, one after another, and what is kept of them.
-- A walk is given by its trail, the nodes that it went through with their numbers, and in two ways. `Walks` is about a net:
-- each step is the move that the table gives there. `through` names no net: each node of the trail, by its own rules, makes a solo move
-- of a token that faces it. What was walked keeps the second for good, whatever net comes later; on a sound net that has the
-- trail's nodes at their numbers, it gives the first.
use Rattle.std.specs.Prelude.{◌≡◌, ◌≤◌, ◌⊎◌, ℕ, Bool, List, [], ◌∷◌, length, map, Option, Some, None, slice_get}
use Rattle.std.specs.Prelude.{MatchOption, if◌then◌else◌}
use Rattle.std.specs.List.{All}
use Rattle.std.specs.Bool.{MatchBool}
use Rattle.net_build.specs.declared.node.Node.{Node}
use Rattle.net_build.specs.Nets.{NetTree, premises, conclusions}
use Rattle.net_build.specs.Faces.{has}
use Rattle.move_rules.specs.declared.token.Token.{Token}
use Rattle.move_rules.specs.declared.token.Seen.{Seen}
use Rattle.move_rules.specs.Places.{Place, up, down, TokenTree, place_of}
use Rattle.move_rules.specs.Moves.{Move, solo, fork, join, answer, stay, move}
use Rattle.move_rules.specs.AtNode.{move_at, NotSolo}
use Rattle.move_rules.specs.Views.{token_of}

-- x goes to y by one solo move through each node of the trail, in turn
abbrev pub Walks : NetTree → TokenTree → List ℕ → TokenTree → Type 0
Walks net x [] y = x ≡ y
Walks net x (n ∷ trail) y = (z : TokenTree) × (move net x ≡ solo n z) × Walks net z trail y

-- the numbers of the nodes that were seen
abbrev pub numbers : List Seen → List ℕ
numbers trail = map (λ (s : Seen). s.at) trail

-- what was seen is the net's node of that number
abbrev pub Stands : NetTree → Seen → Type 0
Stands net s = slice_get net.nodes s.at ≡ Some s.node

-- whether a token at this place faces the node
abbrev pub faces : Node → Place → Bool
faces n (up w m t) = has (conclusions n) w
faces n (down w m t) = has (premises n) w

-- what follows a solo move
abbrev pub on_solo : Move → (TokenTree → Option TokenTree) → Option TokenTree
on_solo (solo i y) f = f y
on_solo (fork i l r t) f = None
on_solo (join i o s v w t) f = None
on_solo (answer v) f = None
on_solo stay f = None

-- the token after a solo move through each node of the trail, in turn
abbrev pub through : List Seen → TokenTree → Option TokenTree
through [] x = Some x
through (s ∷ trail) x = if faces s.node (place_of x) then on_solo (move_at s.at s.node x) (through trail) else None

-- a token makes its solo move on the net, through the node that was seen
pub record SoloMove (net : NetTree) (old : Token) (s : Seen) (new : Token) : Type 0 where
  -- the node is the net's
  pub stands : Stands net s
  -- the move is the table's
  pub moves : move net (token_of old) ≡ solo s.at (token_of new)
  -- and the node's own
  pub passes : through (s ∷ []) (token_of old) ≡ Some (token_of new)

-- the solo move of the node that was seen is made, or the token's move is no solo move and it stays
abbrev pub SoloMoves : NetTree → Token → Option Seen → Token → Type 0
SoloMoves net old seen new = MatchOption seen (NotSolo (move net (token_of old)) × (new ≡ old)) (λ s. SoloMove net old s new)

-- a token makes its solo move on the net, or its move is no solo move and it stays
abbrev pub SoloStep : NetTree → Bool → Token → Token → Type 0
SoloStep net made old new =
    MatchBool made ((i : ℕ) × (move net (token_of old) ≡ solo i (token_of new))) (NotSolo (move net (token_of old)) × (new ≡ old))

-- a token before and after a walk, with its trail
pub record Passage : Type 0 where
  pub before : Token
  pub after : Token
  pub trail : List Seen

-- the one is reached from the other by the trail
abbrev pub Reached : Passage → Type 0
Reached m = through m.trail (token_of m.before) ≡ Some (token_of m.after)

-- a walk on this net until so many moves are made, or the next is no solo move
pub record Walked (net : NetTree) (most : ℕ) (m : Passage) : Type 0 where
  -- each move is the table's
  pub moves : Walks net (token_of m.before) (numbers m.trail) (token_of m.after)
  -- each node of the trail is the net's
  pub nodes : All (Stands net) m.trail
  pub at_most : length m.trail ≤ most
  pub ends : (length m.trail ≡ most) ⊎ NotSolo (move net (token_of m.after))

-- the move was made if it is a solo move, and else none was
abbrev pub MadeIfSolo : NetTree → Passage → Move → Type 0
MadeIfSolo net m (solo i x) =
    (n : Node) × (slice_get net.nodes i ≡ Some n) × (m.trail ≡ record { at = i; node = n } ∷ []) × (token_of m.after ≡ x)
MadeIfSolo net m (fork i l r t) = (m.trail ≡ []) × (m.after ≡ m.before)
MadeIfSolo net m (join i o s v w t) = (m.trail ≡ []) × (m.after ≡ m.before)
MadeIfSolo net m (answer v) = (m.trail ≡ []) × (m.after ≡ m.before)
MadeIfSolo net m stay = (m.trail ≡ []) × (m.after ≡ m.before)
