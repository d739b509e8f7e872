-- Rows are the table of moves: the statement of `law_net_rows`.
use Rattle.std.specs.Prelude.{◌≡◌, ◌≢◌}
use Rattle.net_build.specs.Nets.{NetTree}
use Rattle.net_build.specs.Sound.{Sound}
use Rattle.move_rules.specs.Places.{TokenTree}
use Rattle.move_rules.specs.Moves.{stay, move}
use Rattle.net_rows.specs.RowMoves.{by_rows}

-- on a sound net a token's move, where it has one, is the move by its channel's row
abbrev pub RowsMove : Type 0
RowsMove = (net : NetTree) → Sound net → (x : TokenTree) → move net x ≢ stay → move net x ≡ by_rows net x
