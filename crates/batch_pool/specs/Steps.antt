-- How the jobs are asked one after another, for the contracts of the calls inside.
use Rattle.std.specs.Prelude.{◌≡◌, ◌<◌, ◌⊎◌, ℕ, false, List, [], ◌∷◌, set, Option, Some, None}
use Rattle.move_rules.specs.Walks.{Passage}
use Rattle.token_pool.specs.declared.entries.Held.{Held}
use Rattle.token_pool.specs.declared.entries.Booked.{Booked}
use Rattle.token_pool.specs.Booking.{BookedAs}
use Rattle.token_pool.specs.declared.entries.Reply.TheVariants as told
use Rattle.token_pool.specs.declared.pieces.Piece.{Piece}
use Rattle.token_pool.specs.Pools.{Pool, Holds}
use Rattle.token_pool.specs.Pieces.{IsPieceOf}
use Rattle.token_pool.specs.Turns as turns
use Rattle.batch_pool.specs.declared.asking.Offer.{Offer}
use Rattle.batch_pool.specs.declared.asking.Offer.TheVariants as offer
use Rattle.batch_pool.specs.declared.pieces.BatchTaken.{BatchTaken}
use Rattle.batch_pool.specs.declared.pieces.BatchTaken.TheVariants as taken
use Rattle.batch_pool.specs.Batches.{IsPool}
use Rattle.batch_pool.specs.Asking.{NoneGivesBelow, NoneGives, AllOver}

-- what a job's own pool has for a worker, and the pool afterwards
abbrev pub Offers : Pool → ℕ → Offer → Pool → Type 0
Offers p w (offer.Token k) q = (h : Held) × (turns.turn p w ≡ told.Token h) × IsPieceOf p.state h k × (q ≡ turns.taken p w)
Offers p w offer.Waits q = ((turns.turn p w ≡ told.Idle) ⊎ (turns.turn p w ≡ told.Reserved)) × (q ≡ p)
Offers p w offer.Over q = (turns.turn p w ≡ told.Ended) × (q ≡ p)

-- and what job j has
pub record OffersAt (pools : List Pool) (w j : ℕ) (o : Offer) (after : List Pool) : Type 0 where
  pub old : Pool
  pub new : Pool
  pub job : IsPool pools j old
  pub offers : Offers old w o new
  pub after_it : after ≡ set pools j new

-- each pool has a place for the worker, and isn't stopped
abbrev pub IsServing : List Pool → ℕ → Type 0
IsServing pools w = (j : ℕ) (p : Pool) → IsPool pools j p → (w < p.workers) × (p.stopped ≡ false)

-- job j gives the worker a piece of the ticket that it holds there
abbrev pub GivesAgain : List Pool → ℕ → ℕ → Piece → Type 0
GivesAgain pools w j k =
    (p : Pool) × (h : Held) × IsPool pools j p × Holds p.held w h × (turns.turn p w ≡ told.Token h) × IsPieceOf p.state h k

-- job j is the least that gives the worker a ticket, and this piece of it
pub record GivesFirst (pools : List Pool) (w j : ℕ) (k : Piece) (after : List Pool) : Type 0 where
  pub pool : Pool
  pub job : IsPool pools j pool
  pub held : Held
  pub told : turns.turn pool w ≡ told.Token held
  pub piece : IsPieceOf pool.state held k
  pub least : NoneGivesBelow pools w j
  pub after_it : after ≡ set pools j (turns.taken pool w)

-- what a worker that holds nothing gets from the jobs of a batch that isn't stopped
abbrev pub TakesFirst : List Pool → ℕ → BatchTaken → List Pool → Type 0
TakesFirst pools w (taken.Token j k) after = GivesFirst pools w j k after
TakesFirst pools w taken.Ended after = AllOver pools × (after ≡ pools)
TakesFirst pools w taken.Pause after = (AllOver pools → ⊥) × NoneGives pools w × (after ≡ pools)
TakesFirst pools w taken.Stopped after = ⊥

-- what a worker that holds a ticket in job j is told when its walk is booked there, and the jobs afterwards
pub record BooksAt (pools : List Pool) (w j : ℕ) (m : Passage) (after : List Pool) (k : Booked) : Type 0 where
  pub old : Pool
  pub new : Pool
  pub job : IsPool pools j old
  pub booked : BookedAs old new w m k
  pub after_it : after ≡ set pools j new

-- the first that is left, and those behind it
abbrev pub Pops : {A : Type 0} → List A → Option A → List A → Type 0
Pops xs None rest = (xs ≡ []) × (rest ≡ [])
Pops xs (Some x) rest = xs ≡ x ∷ rest
