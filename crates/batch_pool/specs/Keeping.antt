-- What the code keeps of a batch beside it: for each worker the job in which it holds a ticket, so that nobody has to look for it, how
-- many jobs at the front are over, and how many pieces are spare.
use Rattle.std.specs.Prelude.{◌≡◌, ◌<◌, ◌≤◌, ◌^◌, ℕ, Bool, true, List, length, set, Option, Some, None, slice_get}
use Rattle.token_pool.specs.declared.entries.Held.{Held}
use Rattle.token_pool.specs.Pools.{Pool}
use Rattle.batch_pool.specs.declared.pieces.BatchTaken.{BatchTaken}
use Rattle.batch_pool.specs.declared.pieces.BatchTaken.TheVariants as taken
use Rattle.token_pool.specs.Turns.{is_ended, spare_pieces}
use Rattle.batch_lists.specs.Limits.{most_jobs}
use Rattle.batch_pool.specs.Batches.{IsPool, HoldsIn, HoldsNowhere, BatchGood}
use Rattle.batch_pool.specs.Benches.{spare_in}
use Rattle.batch_pool.specs.Codes.{batch}

-- the worker holds a ticket in this job, or in none
abbrev pub Place : Option ℕ → List Pool → ℕ → Type 0
Place None pools w = HoldsNowhere pools w
Place (Some j) pools w = (h : Held) × HoldsIn pools w j h

-- what is known of each worker is so
abbrev pub Knows : List (Option ℕ) → List Pool → Type 0
Knows places pools = (w : ℕ) (o : Option ℕ) → slice_get places w ≡ Some o → Place o pools w

-- what is kept
pub record Kept (pools : List Pool) (workers : ℕ) (stopped : Bool) (places : List (Option ℕ)) : Type 0 where
  pub good : BatchGood (batch pools workers stopped)
  pub each : length places ≡ workers
  pub knows : Knows places pools

-- what is known once a worker took
abbrev pub places_after : BatchTaken → List (Option ℕ) → ℕ → List (Option ℕ)
places_after (taken.Token j k) places w = set places w (Some j)
places_after taken.Pause places w = places
places_after taken.Ended places w = places
places_after taken.Stopped places w = places

-- so many jobs at the front are over
abbrev pub ArePassed : List Pool → ℕ → Type 0
ArePassed pools n = (j : ℕ) (p : Pool) → j < n → IsPool pools j p → is_ended p ≡ true

-- job j has so many spare pieces
pub record SpareAt (pools : List Pool) (j n : ℕ) : Type 0 where
  pub here : (p : Pool) → IsPool pools j p → spare_pieces p ≡ n
  pub small : n < 2 ^ 32

-- all jobs together have so many
pub record Spared (pools : List Pool) (n : ℕ) : Type 0 where
  pub sum : n ≡ spare_in pools
  -- which is a number of 64 bits
  pub few : length pools ≤ most_jobs
  pub small : (j : ℕ) (p : Pool) → IsPool pools j p → spare_pieces p < 2 ^ 32

-- the numbers that are kept, so that no call has to count
pub record Counted (pools : List Pool) (passed spare : ℕ) : Type 0 where
  pub over : ArePassed pools passed
  pub spared : Spared pools spare
