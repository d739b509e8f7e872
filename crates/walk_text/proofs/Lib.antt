-- The lines of a log part where the log does, and a window is a part of them.
pub mod Going
-- A ticket that has a step has a line.
pub mod There
-- A run that has an answer ends with the move at the root.
pub mod Ending
-- Traces that the prover computes.
pub mod Examples
-- The moves of a log's entries, each with its step and its line.
pub mod Playing
-- The lines of live tokens and of open entries.
pub mod Heading
-- What is told of a step, by its name, is what the line says of its move.
pub mod StepLines
-- Where the moves of a log stand in its runs.
pub mod Places
-- A window that ends with the log.
pub mod Windowing
