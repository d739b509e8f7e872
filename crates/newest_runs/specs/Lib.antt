-- what a reader has to believe: who moves
pub mod Order
-- what serves the proofs: what is true behind so many moves
pub mod Moving
