-- a move of the table is the move by its row, node by node
pub mod Rows
-- what a test rules out, for the crates above too
pub mod Small
