-- What a worker is told that asks for work, and the batch afterwards.
-- Of five lines the first that holds counts. A stopped batch has nothing more to do. A worker that holds a ticket is given it again. All
-- is over where each job is. Else the least job gives a ticket whose own pool would, and that pool alone goes on, as by its own turn. Where
-- none would, some job isn't over, and in it some other worker holds a ticket.
use Rattle.std.specs.Prelude.{◌≡◌, ◌<◌, ◌⊎◌, ℕ, true, false, List, set}
use Rattle.token_pool.specs.declared.entries.Held.{Held}
use Rattle.token_pool.specs.declared.entries.Reply.TheVariants.{Token as TellsToken}
use Rattle.token_pool.specs.declared.pieces.Piece.{Piece}
use Rattle.token_pool.specs.Pools.{Pool, Holds}
use Rattle.token_pool.specs.Pieces.{IsPieceOf}
use Rattle.token_pool.specs.Turns.{turn, taken, is_ended}
use Rattle.batch_pool.specs.declared.pieces.BatchTaken.{BatchTaken}
use Rattle.batch_pool.specs.declared.pieces.BatchTaken.TheVariants.{Token, Pause, Ended, Stopped}
use Rattle.batch_pool.specs.Batches.{Batch, IsPool, HoldsNowhere}

-- the batch with another pool for job j
abbrev pub with_pool : Batch → ℕ → Pool → Batch
with_pool b j p = record b { pools = set b.pools j p }

-- each job has its answer, or has made all its moves while nobody holds anything in it
abbrev pub AllOver : List Pool → Type 0
AllOver pools = (j : ℕ) (p : Pool) → IsPool pools j p → is_ended p ≡ true

-- the job's own pool would hand the worker a ticket
abbrev pub GivesToken : Pool → ℕ → Type 0
GivesToken p w = (h : Held) × (turn p w ≡ TellsToken h)

-- no job below job n would
abbrev pub NoneGivesBelow : List Pool → ℕ → ℕ → Type 0
NoneGivesBelow pools w n = (j : ℕ) (p : Pool) → j < n → IsPool pools j p → GivesToken p w → ⊥

-- no job would
abbrev pub NoneGives : List Pool → ℕ → Type 0
NoneGives pools w = (j : ℕ) (p : Pool) → IsPool pools j p → GivesToken p w → ⊥

-- the batch isn't stopped, and the worker holds nothing in it
abbrev pub IsFree : Batch → ℕ → Type 0
IsFree b w = (b.stopped ≡ false) × HoldsNowhere b.pools w

-- The worker is handed a ticket of job j with its token, and holds it from now on.
pub record Handed (b : Batch) (w j : ℕ) (k : Piece) (c : Batch) : Type 0 where
  pub running : b.stopped ≡ false
  pub pool : Pool
  pub job : IsPool b.pools j pool
  -- it is the one that the job's own pool gives
  pub held : Held
  pub told : turn pool w ≡ TellsToken held
  pub piece : IsPieceOf pool.state held k
  -- the worker held it already, or it held nothing and no job below gives one
  pub least : Holds pool.held w held ⊎ (HoldsNowhere b.pools w × NoneGivesBelow b.pools w j)
  -- that pool is as after its own turn, and all else stays
  pub after : c ≡ with_pool b j (taken pool w)

-- what worker w is told, and the batch afterwards
abbrev pub Takes : Batch → ℕ → BatchTaken → Batch → Type 0
Takes b w Stopped c = (b.stopped ≡ true) × (c ≡ b)
Takes b w (Token j k) c = Handed b w j k c
Takes b w Ended c = IsFree b w × AllOver b.pools × (c ≡ b)
Takes b w Pause c = IsFree b w × (AllOver b.pools → ⊥) × NoneGives b.pools w × (c ≡ b)

-- there is a ticket for the worker: it holds one, or some job would give one
abbrev pub HasTicket : List Pool → ℕ → Type 0
HasTicket pools w = (j : ℕ) × (p : Pool) × IsPool pools j p × GivesToken p w
