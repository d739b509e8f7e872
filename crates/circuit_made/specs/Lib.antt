-- A net's table, and the circuit of a net.
pub mod Made
-- Which table a table of the code is.
pub mod Views
-- The text of a net's circuit: what a reader has to believe beside the tree.
pub mod CircuitText
-- The parts of the text in their order, for proofs.
pub mod Parts
