-- A joined row: so many rows of a net, made with names.
use Rattle.std.specs.Prelude.{◌≡◌, ℕ, zero, suc, Option, Some, None}
use Rattle.net_build.specs.Nets.{NetTree}
use Rattle.move_rules.specs.Places.{TokenTree}
use Rattle.move_rules.specs.Moves.{Move, solo, fork, join, answer, stay}
use Rattle.net_rows.specs.RowMoves.{by_rows}
use Rattle.joined_rows.specs.Open.{Walker, walks}

abbrev pub then_walks : Option Walker → (Walker → Option Walker) → Option Walker
then_walks None f = None
then_walks (Some y) f = f y

-- so many moves with names
abbrev pub walks_on : NetTree → ℕ → Walker → Option Walker
walks_on net zero x = Some x
walks_on net (suc n) x = then_walks (walks net x) (walks_on net n)

-- it leads from names to names in so many moves
pub record Joined (net : NetTree) (from to : Walker) (n : ℕ) : Type 0 where
  pub leads : walks_on net n from ≡ Some to

-- a token's move by its row, where that is a solo move
abbrev pub on_solo : Move → (TokenTree → Option TokenTree) → Option TokenTree
on_solo (solo i y) f = f y
on_solo (fork i l r t) f = None
on_solo (join i o s v w t) f = None
on_solo (answer v) f = None
on_solo stay f = None

-- so many solo moves of a token, each by the row of its channel
abbrev pub moves_on : NetTree → ℕ → TokenTree → Option TokenTree
moves_on net zero x = Some x
moves_on net (suc n) x = on_solo (by_rows net x) (moves_on net n)
