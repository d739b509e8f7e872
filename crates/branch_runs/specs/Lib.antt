-- what a reader has to believe: a branch that was played, how far it is played, and what becomes of a machine that takes it
pub mod Branching
-- what serves the code's types and private contracts only
--
-- How the logic stores a branch, so that a struct's `impl Model` can have one as its value.
pub mod Codes
-- A branch while it is played.
pub mod Growing
