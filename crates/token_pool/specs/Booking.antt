-- Moves of a held ticket that are booked, and a pool that is stopped.
-- Booking is the one event at which a pool's state goes on: so many steps of the held ticket, each of them written down for the worker,
-- and then nothing is held. How many they are is settled by what was handed in.
use Rattle.std.specs.Prelude.{◌≡◌, ◌⊎◌, ℕ, true, List, ◌++◌, length, replicate, set, Some, None}
use Rattle.move_rules.specs.Walks.{Passage}
use Rattle.net_build.specs.Nets.{NetTree}
use Rattle.interleave_laws.specs.Maps.{MapState, run_map}
use Rattle.interleave_core.specs.Adopting.{Accepts}
use Rattle.schedule_log.specs.declared.entry.Entry.{Entry}
use Rattle.token_pool.specs.declared.entries.Held.{Held}
use Rattle.token_pool.specs.declared.entries.Booked.{Booked}
use Rattle.token_pool.specs.declared.entries.Booked.TheVariants.{Done, NothingHeld}
use Rattle.token_pool.specs.Pools.{Pool, Holds}
use Rattle.token_pool.specs.Turns.{own}

-- n moves of a ticket by a worker
abbrev pub moves_of : ℕ → ℕ → ℕ → List Entry
moves_of n i w = replicate n (record { ticket = i; worker = w })

-- n moves of what worker w holds lead from p to q, where it holds nothing
pub record Books (p q : Pool) (w : ℕ) (h : Held) (n : ℕ) : Type 0 where
  pub steps : run_map p.net p.state (replicate n h.ticket) ≡ Some q.state
  pub rest : q ≡ record p { state = q.state; log = p.log ++ moves_of n h.ticket w; held = set p.held w None }

-- as many moves as the walk has where it is taken over within the allowance, and else one
abbrev pub Moves : NetTree → MapState → Held → Passage → ℕ → Type 0
Moves net S h m n =
    (Accepts net S h.ticket m h.allowance × (n ≡ length m.trail)) ⊎ ((Accepts net S h.ticket m h.allowance → ⊥) × (n ≡ 1))

-- the worker holds a ticket, and the walk isn't one that is taken over
abbrev pub HoldsOther : Pool → ℕ → Passage → Type 0
HoldsOther p w m = (h : Held) × Holds p.held w h × (Accepts p.net p.state h.ticket m h.allowance → ⊥)

-- what a worker that hands in a walk is told: that it holds nothing, or after how many moves its own were booked
abbrev pub BookedAs : Pool → Pool → ℕ → Passage → Booked → Type 0
BookedAs p q w m NothingHeld = (own p.held w ≡ None) × (q ≡ p)
BookedAs p q w m (Done k) = (h : Held) × (n : ℕ) × Holds p.held w h × (k ≡ length p.log) × Moves p.net p.state h m n ×
    Books p q w h n

-- the pool, stopped
abbrev pub halted : Pool → Pool
halted p = record p { stopped = true }
