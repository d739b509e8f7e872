-- what a reader has to believe: what is told of a program of a list, and of all of them
pub mod Sections
-- what programs came to before the run
pub mod Judging
-- what is always true
pub mod Laws
-- what serves proofs and private contracts
pub mod Telling
