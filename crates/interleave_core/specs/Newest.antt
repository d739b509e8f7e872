-- The newest live ticket. Tickets are given out in turn, so it is the greatest one.
use Rattle.std.specs.Prelude.{◌≡◌, ◌<◌, ℕ, None}
use Rattle.std.specs.FinMap.{get}
use Rattle.interleave_laws.specs.Maps.{MapState}
use Rattle.interleave_laws.specs.Tickets.{IsLive}

-- the ticket is live, and none above it is
abbrev pub IsNewestLive : MapState → ℕ → Type 0
IsNewestLive S i = IsLive S i × ((j : ℕ) → i < j → get S.tokens j ≡ None)
