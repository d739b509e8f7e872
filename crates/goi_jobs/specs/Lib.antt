-- what a reader has to believe: the ranges of numbers, what is done with a text, and the jobs
--
-- The ends of ranges that no other crate speaks of.
pub mod Limits
-- The ranges of the numbers of tasks and jobs.
pub mod Ranges
-- What is done with the text of one file: what is shown of a run, and the ranges of its numbers.
pub mod Tasks
-- The ranges of what is printed of a circuit.
pub mod Verilogs
-- What can be asked for, and the ranges of its numbers.
pub mod Jobs
