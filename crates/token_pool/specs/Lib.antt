-- what a reader has to believe: the pool, its calls and what is always true of it
--
-- The state that workers share, and what is true of it whenever nobody is inside a call.
pub mod Pools
-- What a worker is given, by the first of six lines that holds, and what the pool is afterwards.
pub mod Turns
-- What a worker is handed: the ticket that it holds with its token, in memory of the worker's own, or why there is none.
pub mod Pieces
-- Moves of a held ticket that are booked, and a pool that is stopped.
pub mod Booking
-- What the finisher makes of a pool.
pub mod Ending
-- What a pool's calls are where it is the bench of several workers: a turn is what a worker takes, and what it hands in is booked.
pub mod Benches
-- What a worker is given that plays branches, and what is booked of them.
pub mod Branches
-- the laws
pub mod Laws
-- what serves the code's types only
--
-- How the logic stores a pool, so that a struct's `impl Model` can have one as its value.
pub mod Codes
-- The numbers that are kept beside the list of what workers hold, so that no call has to go through it.
pub mod Counts
