-- What a pool's calls are where it is the bench of several workers: a turn is what a worker takes, and what it hands in is booked.
-- A worker whose number isn't below the pool's number of workers has no place: it is sent home, and what it hands in changes nothing.
use Rattle.std.specs.Prelude.{◌≡◌, ◌<◌, ◌≤◌, ◌⊎◌, ℕ}
use Rattle.gate_workers.specs.declared.turn.Turn.{Turn}
use Rattle.gate_workers.specs.declared.turn.Turn.TheVariants as turn
use Rattle.net_build.specs.Nets.{NetTree}
use Rattle.move_rules.specs.Walks.{Passage, Walked}
use Rattle.token_pool.specs.declared.entries.Booked.{Booked}
use Rattle.token_pool.specs.declared.entries.Reply.{Reply}
use Rattle.token_pool.specs.declared.entries.Reply.TheVariants as told
use Rattle.token_pool.specs.declared.pieces.Piece.{Piece}
use Rattle.token_pool.specs.Pools.{Pool}
use Rattle.token_pool.specs.Pieces.{IsPieceOf}
use Rattle.token_pool.specs.Turns as turns
use Rattle.token_pool.specs.Booking.{BookedAs}
use Rattle.interleave_laws.specs.Maps.{MapState}

-- what is made of a piece is the walk of its token on the net, as far as its allowance and its solo moves go
abbrev pub MakesWalk : NetTree → Piece → Passage → Type 0
MakesWalk net k m = (m.before ≡ k.token) × Walked net k.allowance m

-- the turn that a bench gives a worker for what it is told: a piece to work, a pause, or nothing any more
abbrev pub TurnFor : MapState → Reply → Turn Piece → Type 0
TurnFor S (told.Token h) (turn.Piece k) = IsPieceOf S h k
TurnFor S told.Idle turn.Pause = Unit {0}
TurnFor S told.Reserved turn.Pause = Unit {0}
TurnFor S told.Ended turn.Over = Unit {0}
TurnFor S told.Stopped turn.Over = Unit {0}
TurnFor S _ _ = ⊥

-- a worker that has a place takes, and is given the turn for what it is told
abbrev pub GivesTaken : Pool → ℕ → Turn Piece → Pool → Type 0
GivesTaken p w t q = (w < p.workers) × TurnFor p.state (turns.turn p w) t × (q ≡ turns.taken p w)

-- any other is sent home
abbrev pub SendsHome : Pool → ℕ → Turn Piece → Pool → Type 0
SendsHome p w t q = (p.workers ≤ w) × (t ≡ turn.Over) × (q ≡ p)

abbrev pub GivesTurn : Pool → ℕ → Turn Piece → Pool → Type 0
GivesTurn p w t q = GivesTaken p w t q ⊎ SendsHome p w t q

-- what a worker that has a place hands in is booked, and what any other does changes nothing
abbrev pub TakesIn : Pool → ℕ → Passage → Pool → Type 0
TakesIn p w m q = ((w < p.workers) × (b : Booked) × BookedAs p q w m b) ⊎ ((p.workers ≤ w) × (q ≡ p))
