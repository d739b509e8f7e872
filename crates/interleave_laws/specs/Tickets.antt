-- Live tickets, as the code tells of them.
-- A ticket is live where it has a token. Tickets are numbers, and the least and the next ones are told by what stands below and between.
use Rattle.std.specs.Prelude.{◌≡◌, ◌<◌, ℕ, None}
use Rattle.std.specs.Option.{IsSome}
use Rattle.std.specs.FinMap.{get}
use Rattle.interleave_laws.specs.Maps.{MapState}

-- the ticket has a token
abbrev pub IsLive : MapState → ℕ → Type 0
IsLive S i = IsSome (get S.tokens i)

-- no ticket has one
abbrev pub NoneLive : MapState → Type 0
NoneLive S = (j : ℕ) → get S.tokens j ≡ None

-- the ticket is live, and none below it is
abbrev pub IsLeastLive : MapState → ℕ → Type 0
IsLeastLive S i = IsLive S i × ((j : ℕ) → j < i → get S.tokens j ≡ None)

-- no ticket above k is live
abbrev pub NoneLiveAbove : MapState → ℕ → Type 0
NoneLiveAbove S k = (j : ℕ) → k < j → get S.tokens j ≡ None

-- i is live and above k, and none between them is live
abbrev pub IsNextLive : MapState → ℕ → ℕ → Type 0
IsNextLive S k i = (k < i) × IsLive S i × ((j : ℕ) → k < j → j < i → get S.tokens j ≡ None)
