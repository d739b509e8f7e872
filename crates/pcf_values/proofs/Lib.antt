-- The place and the height of a node as it is read, whatever stands in its boxes.
pub mod Places
-- Heights of terms: of one as it is read, whatever its place, and of trees.
pub mod Heights
-- Equal types: their parts, and the test.
pub mod Types
-- What comes to the same for all operators, by one computation.
pub mod Operators
-- What the operations on values come to.
pub mod Arithmetic
-- Plain facts on lists, for several crates.
pub mod Plain
