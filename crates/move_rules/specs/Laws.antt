-- What holds of the table of moves and of walks, as laws.
use Rattle.std.specs.Prelude.{◌≡◌, ℕ, List, Some}
use Rattle.std.specs.List.{All}
use Rattle.net_build.specs.Nets.{NetTree}
use Rattle.net_build.specs.Sound.{Sound}
use Rattle.move_rules.specs.declared.token.Seen.{Seen}
use Rattle.move_rules.specs.Places.{Place, turned, TokenTree, place_of}
use Rattle.move_rules.specs.Table.{on_found, facing}
use Rattle.move_rules.specs.AtNode.{plain, move_at}
use Rattle.move_rules.specs.Moves.{stay, move}
use Rattle.move_rules.specs.Walks.{Walks, numbers, Stands, through, Passage, Walked}

-- on a sound net, where a plain rule leads from p to q, the same rules lead from q turned round to p turned round
abbrev pub Retrace : Type 0
Retrace = (net : NetTree) → Sound net → (p q : Place) → plain net p ≡ Some q → plain net (turned q) ≡ Some (turned p)

-- on every net, the move of a token is its move at the one node that it faces, and none where it faces none
abbrev pub FacedMove : Type 0
FacedMove = (net : NetTree) (x : TokenTree) → move net x ≡ on_found (facing net (place_of x)) stay (λ i n. move_at i n x)

-- on every net, a token has one walk of so many moves at most
abbrev pub OneWalk : Type 0
OneWalk = (net : NetTree) (most : ℕ) (m m' : Passage) → m.before ≡ m'.before → Walked net most m → Walked net most m' → m ≡ m'

-- on a sound net, where a trail of its nodes leads from x to y by the nodes' own rules, it is a walk of the net's moves
abbrev pub TrailWalks : Type 0
TrailWalks = (net : NetTree) → Sound net → (trail : List Seen) → All (Stands net) trail → (x y : TokenTree) →
    through trail x ≡ Some y
    → Walks net x (numbers trail) y
