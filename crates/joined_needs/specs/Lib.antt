-- What the data of a run stands for.
pub mod Views
-- What a row makes, before it is put into the circuit.
pub mod Making
-- Edges with whatever room they take, and what they need.
pub mod Edges
-- What is told of a run.
pub mod Told
-- What is true of the counts so far.
pub mod Counting
-- What that says of a circuit: the statements of `law_needs_exact`.
pub mod Laws
