-- Lists of pools, and what they are after a change of one of them.
mod Pools
-- The numbers that are kept of a batch, and what they are where one job goes on.
mod Counts
-- What a worker is told by a pool that isn't stopped, and what that says of the pool; and a search through the jobs, one after another.
mod Asked
-- What stays true of a batch where one of its pools goes on.
mod Keeping
-- What a batch that stands gives to the calls that it makes, and what they give to it.
mod Standing
-- The ends of the jobs one after another, and why they are runs.
mod Ends
-- Why a worker that is told to pause isn't alone.
mod Pausing
-- Why whole jobs, each of them one worker's, come to the runs of all jobs.
mod Whole
