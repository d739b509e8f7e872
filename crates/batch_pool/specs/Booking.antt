-- What a worker walked from the ticket that it holds is booked in the job of that ticket, and in no other.
use Rattle.std.specs.Prelude.{◌≡◌, ℕ, List}
use Rattle.move_rules.specs.Walks.{Passage}
use Rattle.token_pool.specs.declared.entries.Booked.{Booked}
use Rattle.token_pool.specs.declared.entries.Booked.TheVariants.{Done, NothingHeld}
use Rattle.token_pool.specs.Pools.{Pool}
use Rattle.token_pool.specs.Booking.{BookedAs, HoldsOther}
use Rattle.batch_pool.specs.Batches.{Batch, IsPool, HoldsNowhere}
use Rattle.batch_pool.specs.Asking.{with_pool}

-- What a worker that hands in a walk is told, and the batch afterwards. It holds nothing, and nothing changes; or the job in which it
-- holds a ticket books the walk as its own pool does, behind so many moves of that job, and all else stays.
abbrev pub BatchBooks : Batch → Batch → ℕ → Passage → Booked → Type 0
BatchBooks b c w m NothingHeld = HoldsNowhere b.pools w × (c ≡ b)
BatchBooks b c w m (Done k) =
    (j : ℕ) × (p : Pool) × (q : Pool) × IsPool b.pools j p × BookedAs p q w m (Done k) × (c ≡ with_pool b j q)

-- the worker holds a ticket, and the walk isn't one that its job takes over
abbrev pub HoldsOtherIn : List Pool → ℕ → Passage → Type 0
HoldsOtherIn pools w m = (j : ℕ) × (p : Pool) × IsPool pools j p × HoldsOther p w m
