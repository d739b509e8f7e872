-- what a reader has to believe: the rows of a net
pub mod Rows
-- what a row makes of a token, of which the law speaks
pub mod RowMoves
-- Rows are the table of moves.
pub mod RowLaws
-- examples that the prover computes
pub mod Example
