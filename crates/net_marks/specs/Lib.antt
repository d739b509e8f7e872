-- What the contracts of the walk cite, in the order to read it: the marks of variable wires, and what the nodes that are passed do to them.
pub mod Passing
-- The code's walk: its nodes are the first ones of the net, the last of them first.
pub mod Walks
-- What was read, with what is left behind it; the variable of a mark; what an answer of the code says of it.
pub mod Reads
