-- the innermost fork around a place, and what a move makes of it
pub mod Inner
-- where forks are, and that they nest
pub mod Nests
-- the tickets that wait, and that no fork stands twice
pub mod Stack
-- each cycle is the step of the current ticket
pub mod Processor
-- the answer is the program's meaning
pub mod Meaning
-- the processor's tickets are the machine's stack of tickets
pub mod Schedule
-- moves keep to types and depths
pub mod Typed
-- each token of a run has the stacks of its wire
pub mod Placed
