-- a table that fits with the most cells and forks fits with fewer
pub mod Smaller
-- how many moves so many edges make at most
mod Moves
-- what is counted tells
mod Counted
-- a call of a table's circuit
mod Calls
-- the circuit of a table
mod Circuits
