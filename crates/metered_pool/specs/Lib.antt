-- what a reader has to believe: what a metered pool is and does, and what is read on the meter of a run
--
-- A pool with the writer of a meter, and which run it is of.
pub mod Metered
-- What is read on the meter of a run, and what of it is told.
pub mod Progress
--
-- what serves private contracts only
--
-- Where a run of one worker stands whose moves are written down for the first worker.
pub mod Walking
-- What a reader of a meter has read.
pub mod Readings
