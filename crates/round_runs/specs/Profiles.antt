-- How wide rounds are: the live tokens before each of them, and the most of these.
use Rattle.std.specs.Prelude.{ℕ, List, [], ◌∷◌, length, map, max}
use Rattle.net_build.specs.Nets.{NetTree}
use Rattle.round_laws.specs.Rounds.{round_units}

-- how many tokens are live before each of k rounds: as many as its unit has tickets
abbrev pub profile_of : NetTree → ℕ → List ℕ
profile_of net k = map length (round_units net k)

-- the greatest of a list, and 0 of none
abbrev pub greatest : List ℕ → ℕ
greatest [] = 0
greatest (n ∷ l) = max n (greatest l)
