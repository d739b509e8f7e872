-- what a reader has to believe, in the order to read it: the names of wires, the line of a move, and traces
--
-- The names of a node's wires: NAME with the names of two wires is a row of the table of moves, as docs/WALK.md has it.
pub mod Ports
-- The line of one move: who moved, the node that the token faced, by which of its wires it came and by which it went, the token before, and
-- what came of it.
pub mod Lines
-- The trace of a log on a net: the tokens that are live and the entries that are open where it begins, a line for each move, and `end`.
pub mod Traces
-- the lines of a whole log, of which the laws speak, and which logs lead to a state
pub mod Whole
-- the laws, and whole traces
--
-- What holds of traces.
pub mod Laws
-- Whole traces with their texts.
pub mod Rows
-- what the code's private contracts cite
pub mod Telling
-- Where a move stands in the runs that a log is kept as.
pub mod Standing
