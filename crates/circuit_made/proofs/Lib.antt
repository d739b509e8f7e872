-- What is asked of a table, part by part.
pub mod Parts
-- The parts of a text, one behind the other.
pub mod Whole
