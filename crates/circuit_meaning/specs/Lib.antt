-- What the circuit of a function of numbers does.
pub mod Circuit
-- What is told of what it needs.
pub mod Counts
-- The circuit of a table, and the statements of the laws.
pub mod Laws
