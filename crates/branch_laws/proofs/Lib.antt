-- a write under a branch's name is one in the branch: each of the machine's steps, grafted
pub mod Grafting
-- from the front, move by move: the run of a branch is a run of the state
pub mod Playing
-- the same over finite maps
pub mod Mapped
