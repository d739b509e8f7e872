-- What a worker is handed: the ticket that it holds with its token, in memory of the worker's own, or why there is none.
use Rattle.std.specs.Prelude.{◌≡◌, Some}
use Rattle.std.specs.FinMap.{get}
use Rattle.move_rules.specs.Views.{token_of}
use Rattle.interleave_laws.specs.Maps.{MapState}
use Rattle.interleave_laws.specs.Tickets.{IsLive}
use Rattle.token_pool.specs.declared.entries.Held.{Held}
use Rattle.token_pool.specs.declared.entries.Reply.{Reply}
use Rattle.token_pool.specs.declared.entries.Reply.TheVariants as told
use Rattle.token_pool.specs.declared.pieces.Piece.{Piece}
use Rattle.token_pool.specs.declared.pieces.Taken.{Taken}
use Rattle.token_pool.specs.declared.pieces.Taken.TheVariants as taken

-- a ticket that is given out is live
abbrev pub TellsLive : MapState → Reply → Type 0
TellsLive S told.Stopped = Unit {0}
TellsLive S (told.Token h) = IsLive S h.ticket
TellsLive S told.Ended = Unit {0}
TellsLive S told.Idle = Unit {0}
TellsLive S told.Reserved = Unit {0}

-- the piece is the held ticket with its token and its allowance
pub record IsPieceOf (S : MapState) (h : Held) (k : Piece) : Type 0 where
  pub ticket : k.ticket ≡ h.ticket
  pub allowance : k.allowance ≡ h.allowance
  pub token : get S.tokens h.ticket ≡ Some (token_of k.token)

-- the worker is handed what it is told, and the ticket's token with it
abbrev pub Hands : MapState → Reply → Taken → Type 0
Hands S told.Stopped taken.Stopped = Unit {0}
Hands S (told.Token h) (taken.Token k) = IsPieceOf S h k
Hands S told.Ended taken.Ended = Unit {0}
Hands S told.Idle taken.Idle = Unit {0}
Hands S told.Reserved taken.Reserved = Unit {0}
Hands S _ _ = ⊥
