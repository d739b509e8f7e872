-- numbers of so many bits
pub mod Numbers
-- texts that were appended one by one
pub mod Texts
-- how many nodes a tree has
pub mod Weights
-- bytes and the texts that they stand for
pub mod Names
-- names of two kinds
pub mod Own
-- what a statement leaves alone
pub mod Frames
-- what a statement of the clock leaves
pub mod Leaves
-- scopes and stores that agree on own names go on doing so
pub mod Alike
-- what lists of items declare
pub mod Declares
-- what stands in a list, what settles of it, and what the clock writes
pub mod Lists
-- what a statement leaves alone by the test of well-formed trees
pub mod Spared
-- names are declared once
pub mod Once
-- what has settled
pub mod Settled
-- what doesn't settle
pub mod Kept
