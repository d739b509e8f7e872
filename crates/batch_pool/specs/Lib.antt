-- what a reader has to believe: the batch, its calls and what is always true of it
--
-- A batch: several jobs behind one lock, and what is true of it whenever nobody is inside a call.
pub mod Batches
-- What a worker is told that asks for work, and the batch afterwards.
pub mod Asking
-- What a worker walked from the ticket that it holds is booked in the job of that ticket, and in no other.
pub mod Booking
-- What is made of a batch when its workers are gone: one end for each job, as by that job's own pool alone.
pub mod Ending
-- What a batch's calls are where it is the bench of several workers: a turn is what a worker takes, and what it hands in is booked.
pub mod Benches
-- the run of a batch
pub mod AreRuns
-- the laws
pub mod Laws
-- what serves the code's types and inner calls only
--
-- How the logic stores a batch, so that a struct's `impl Model` can have one as its value.
pub mod Codes
-- What the code keeps of a batch beside it: for each worker the job in which it holds a ticket, so that nobody has to look for it, how many
-- jobs at the front are over, and how many pieces are spare.
pub mod Keeping
-- How the jobs are asked one after another, for the contracts of the calls inside.
pub mod Steps
-- How the jobs are run where each is one worker's, for the contracts of the calls inside.
pub mod Apart
