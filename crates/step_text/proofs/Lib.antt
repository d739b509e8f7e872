-- Texts in front of the part that is rewritten next.
pub mod Leading
-- A term has a node.
pub mod Sizes
-- One step more of a reduction.
pub mod Going
-- What the value that is told is worth.
pub mod Worth
