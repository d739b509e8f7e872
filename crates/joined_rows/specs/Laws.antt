-- What joined rows make is what the rows make: the statements of `law_joined_rows` and `law_joined_pairs`.
use Rattle.std.specs.Prelude.{◌≡◌, ℕ, ◌+◌, Some}
use Rattle.net_build.specs.Nets.{NetTree}
use Rattle.move_rules.specs.Moves.{solo}
use Rattle.net_rows.specs.Rows.{Row}
use Rattle.net_rows.specs.RowMoves.{by_row}
use Rattle.joined_rows.specs.Open.{Walker, Filling, token_in, row_walks, walks}
use Rattle.joined_rows.specs.Joined.{Joined, moves_on}

-- what a row makes of names, it makes of whatever they stand for
abbrev pub RowJoins : Type 0
RowJoins = (i : ℕ) (r : Row) (x y : Walker) → row_walks r x ≡ Some y → (F : Filling) → by_row i r (token_in F x) ≡ solo i (token_in F y)

-- a joined row is as many moves, for whatever its names stand for
abbrev pub JoinedRuns : Type 0
JoinedRuns = (net : NetTree) (x y : Walker) (n : ℕ) → Joined net x y n → (F : Filling) → moves_on net n (token_in F x) ≡ Some (token_in F y)

-- a row is a joined row
abbrev pub JoinedOne : Type 0
JoinedOne = (net : NetTree) (x y : Walker) → walks net x ≡ Some y → Joined net x y 1

-- two that meet are one
abbrev pub JoinedPairs : Type 0
JoinedPairs = (net : NetTree) (x y z : Walker) (n k : ℕ) → Joined net x y n → Joined net y z k → Joined net x z (n + k)
