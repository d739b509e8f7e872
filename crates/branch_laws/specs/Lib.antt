-- what a reader has to believe: a branch, and a branch put into the state that its token was in
pub mod Branches
-- the laws, and examples that the prover computes
--
-- A branch is a run: the statements of `law_branch` and of `law_branch_maps`.
pub mod Laws
-- Branches on the net of `(fun x:nat. x + x) 3`.
pub mod Example
