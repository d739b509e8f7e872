-- what a reader has to believe: how wide rounds are
pub mod Profiles
-- what serves the proofs: what is true of rounds that were made
pub mod Making
