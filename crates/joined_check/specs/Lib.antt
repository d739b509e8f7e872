-- What private contracts and proofs use alone: stacks by their tops, and moves that are no tests, of a net with ports.
pub mod Parts
