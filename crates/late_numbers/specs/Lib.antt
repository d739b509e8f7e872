-- What a reader has to believe: the number of a row in two cycles.
pub mod Unit
-- A product, bit by bit.
pub mod Product
-- The same in the unit, two cycles for each bit.
pub mod ProductUnit
