-- What a reader has to believe: keys, rows and tables.
pub mod Rows
-- Whether two texts of a table are one.
pub mod Same
-- When a row is right of a net.
pub mod Right
-- A table as a list of rows.
pub mod Listed
-- The circuit: its registers, and one cycle of its clock.
pub mod Circuit
-- The statements of the laws.
pub mod Laws
-- It is full just where a pair has no row or there is too little room.
pub mod Room
-- How many cycles it takes.
pub mod Time
-- Keys as numbers.
pub mod Numbers
-- examples that the prover computes
pub mod Example
-- a recursion with cells
pub mod Recursive
