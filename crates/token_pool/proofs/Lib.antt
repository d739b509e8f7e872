-- the pool that contracts see, from the fields that the code's type keeps
mod Seen
-- the numbers that are kept beside the list of what workers hold
mod Counting
-- the list of what workers hold, changed at one place
pub mod Holding
-- a pool starts good
mod Starting
-- what a worker's turn leaves
mod Taking
-- what booked moves leave
pub mod Moving
-- what booked branches leave
mod Branching
-- a branch's moves, written down
mod Writing
-- which tokens are free, and the search for the least one
mod Free
-- what a good pool gives to its calls, and what they give back
mod Standing
-- the finisher's moves, one after another
pub mod Finishing
-- The move that a log kept as runs has last.
mod Own
