-- what a reader has to believe: the processor that walks the newest question first
pub mod Processor
-- the laws, each file with its statements
pub mod ProcessorLaws
-- What is answered is what the program means.
pub mod Meaning
-- Worked runs that the prover computes.
pub mod Example
-- The schedule told of the machine alone: a stack of tickets.
pub mod Schedule
-- Each token has the stacks of its wire.
pub mod Placed
