-- Which calls of a device in memory are listed to fail, by their numbers from 1 on.
use Rattle.std.specs.Prelude.{ℕ, ◌==◌, Bool, List, length, nat_eq}
use Rattle.std.specs.List.{list_any}

-- the call of this number, from 1, is one of those that are listed to fail
abbrev pub listed : List ℕ → ℕ → Bool
listed fails call = list_any (λ n. nat_eq n call) fails

-- no call is listed to fail
abbrev pub none_listed : List ℕ → Bool
none_listed fails = length fails == 0
