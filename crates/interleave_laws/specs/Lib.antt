-- what a reader has to believe: states, logs and what is said of them
--
-- Where a run begins: the wire of the program's value, asked upwards, with both stacks empty.
pub mod Start
-- States of the machine, one step of a ticket, and the run of a log.
pub mod States
-- When a log is finished within a budget of moves.
pub mod Finished
-- States that a net reaches, and the nets that run: all that the laws of interleavings ask of a net.
pub mod Runs
-- States without their tickets.
pub mod Bare
-- The places that the moves of a log ask, and the entries that its forks open, in turn.
pub mod Asked
-- The run of one worker: always the least live ticket, up to the answer or to a number of moves.
pub mod OneWorker
-- States over finite maps, as a running machine keeps them, and what such a state answers.
pub mod Maps
-- What holds in every state over finite maps that a log leads to.
pub mod MapRuns
-- Live tickets, as the code tells of them.
pub mod Tickets
-- the laws, each file with its statements
--
-- Uniqueness and progress, in every interleaving: the statements of `law_progress`.
pub mod Progress
-- The order of two moves: the statement of `law_diamond`.
pub mod Diamond
-- States that are alike but for their tickets go on alike: the statements of `law_any_order`.
pub mod AnyOrder
-- What holds of the one worker's run: the statements of `law_one_worker`.
pub mod OneWorkerLaws
-- Walks of one token as steps of its ticket: the statements of `law_trail_steps`.
pub mod TrailLaws
-- What ties states over finite maps to states over functions, and what holds of them: the statements of `law_maps`.
pub mod MapLaws
-- Runs of the net of `(fun x:nat. x + x) 3`: by one worker, and with the second ticket first.
pub mod Example
-- that states over finite maps are values, for the types that keep one
pub mod Codes
