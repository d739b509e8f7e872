-- why the one worker's moves, each under the number of one of the workers, are a run
pub mod AloneIsRun
-- why what a pool hands out, which replays on the net, is a run of its workers
pub mod ReplayIsRun
-- how the log of a list of tickets grows, one run after the other
mod LogOf
