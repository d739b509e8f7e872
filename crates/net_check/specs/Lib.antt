-- What public contracts cite, and a reader has to believe: the two halves of a node's row, and the first fault.
pub mod Rows
-- The first fault of a net: the count of roots is looked at first, then the wires by number, and then the nodes by number.
pub mod Faults
-- What the law on first faults says; no promise of the program needs it.
pub mod Laws
-- What private contracts and proofs use alone: how the code counts, and what each of its steps answers.
pub mod Counts
-- What each step of the check answers.
pub mod Steps
