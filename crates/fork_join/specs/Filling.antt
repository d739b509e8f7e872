-- A table into which listed entries are put, or from which they are taken. Only the code's own calls speak of these.
use Rattle.std.specs.Prelude.{◌≡◌, List, [], ◌∷◌, None, IsSome}
use Rattle.std.specs.FinMap.{FinMap, find, get, insert, remove}
use Rattle.fork_join.specs.Entries.{Entry, Key, key_cmp}

-- the table with these entries put in, one after the other
abbrev pub filled : List (Key × Entry) → FinMap key_cmp Entry → FinMap key_cmp Entry
filled [] f = f
filled (e ∷ es) f = filled es (insert f e.0 e.1)

-- the table with the entries of these keys taken out
abbrev pub emptied : List (Key × Entry) → FinMap key_cmp Entry → FinMap key_cmp Entry
emptied [] f = f
emptied (e ∷ es) f = emptied es (remove f e.0)

-- the table has no entry of a listed key
abbrev pub AllNew : List (Key × Entry) → FinMap key_cmp Entry → Type 0
AllNew es f = (k : Key) → IsSome (find key_cmp k es) → get f k ≡ None
