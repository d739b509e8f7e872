-- What a batch's calls are where it is the bench of several workers: a turn is what a worker takes, and what it hands in is booked.
-- A worker whose number isn't below the batch's number of workers has no place: it is sent home, and what it hands in changes nothing.
use Rattle.std.specs.Prelude.{◌≡◌, ◌<◌, ◌≤◌, ◌⊎◌, ◌+◌, ℕ, List, [], ◌∷◌, Option, Some, None, slice_get}
use Rattle.gate_workers.specs.declared.turn.Turn.{Turn}
use Rattle.gate_workers.specs.declared.turn.Turn.TheVariants as turn
use Rattle.move_rules.specs.declared.token.Token.{Token}
use Rattle.move_rules.specs.Walks.{Passage}
use Rattle.token_pool.specs.declared.entries.Booked.{Booked}
use Rattle.token_pool.specs.declared.pieces.Piece.{Piece}
use Rattle.token_pool.specs.Pools.{Pool}
use Rattle.token_pool.specs.Turns.{spare_pieces}
use Rattle.token_pool.specs.Benches.{MakesWalk}
use Rattle.batch_pool.specs.declared.job.BatchJob.{BatchJob}
use Rattle.batch_pool.specs.declared.pieces.BatchPiece.{BatchPiece}
use Rattle.batch_pool.specs.declared.pieces.BatchTaken.{BatchTaken}
use Rattle.batch_pool.specs.declared.pieces.BatchTaken.TheVariants as taken
use Rattle.batch_pool.specs.Batches.{Batch}
use Rattle.batch_pool.specs.Asking.{Takes}
use Rattle.batch_pool.specs.Booking.{BatchBooks}

-- the token made no move
pub record IsStill (x : Token) (m : Passage) : Type 0 where
  pub before : m.before ≡ x
  pub after : m.after ≡ x
  pub trail : m.trail ≡ []

-- the walk of the piece's token on its job's net; where there is no such job, the token stays
abbrev pub MakesOn : Option BatchJob → Piece → Passage → Type 0
MakesOn (Some job) k m = MakesWalk job.net k m
MakesOn None k m = IsStill k.token m

-- what is made of a piece with the list of the jobs
abbrev pub MakesIn : List BatchJob → BatchPiece → Passage → Type 0
MakesIn jobs k m = MakesOn (slice_get jobs k.job) k.piece m

-- for how many pieces it is worth to wake a worker, in all jobs together
abbrev pub spare_in : List Pool → ℕ
spare_in [] = 0
spare_in (p ∷ pools) = spare_pieces p + spare_in pools

-- the turn of a worker for what it took: a piece to work, a pause, or nothing any more
abbrev pub turn_for : BatchTaken → Turn BatchPiece
turn_for (taken.Token j k) = turn.Piece (record { job = j; piece = k })
turn_for taken.Pause = turn.Pause
turn_for taken.Ended = turn.Over
turn_for taken.Stopped = turn.Over

-- a worker that has a place takes, and is given the turn for it; any other is sent home
abbrev pub BatchGives : Batch → ℕ → Turn BatchPiece → Batch → Type 0
BatchGives b w t c =
    ((w < b.workers) × (k : BatchTaken) × Takes b w k c × (t ≡ turn_for k)) ⊎ ((b.workers ≤ w) × (t ≡ turn.Over) × (c ≡ b))

-- what a worker that has a place hands in is booked, and what any other does changes nothing
abbrev pub BatchTakesIn : Batch → ℕ → Passage → Batch → Type 0
BatchTakesIn b w m c = ((w < b.workers) × (k : Booked) × BatchBooks b c w m k) ⊎ ((b.workers ≤ w) × (c ≡ b))
