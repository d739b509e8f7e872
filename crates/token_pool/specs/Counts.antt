-- The numbers that are kept beside the list of what workers hold, so that no call has to go through it.
use Rattle.std.specs.Prelude.{◌≡◌, ◌<◌, ◌^◌, ℕ, List, length, Option, Some, None}
use Rattle.token_pool.specs.declared.entries.Held.{Held}
use Rattle.token_pool.specs.Pools.{allowances, count_held}

-- how many tickets one worker holds
abbrev pub holder : Option Held → ℕ
holder None = 0
holder (Some h) = 1

-- so many workers hold something, and so many moves are set aside for all of them
pub record CountsOf (held : List (Option Held)) (holders aside : ℕ) : Type 0 where
  pub count : holders ≡ count_held held
  pub sum : aside ≡ allowances held
  pub short : length held < 2 ^ 32
