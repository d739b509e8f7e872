-- where the groups of items stand in the module.
pub mod Items
-- the fields of the row in the registers that are the same for all tables, by their names.
pub mod Flags
-- both operands of the row, where no product goes on.
pub mod Inputs
-- what is asked of a row's lists, of what it reads being there and of what its module declares.
pub mod Lists
-- the operands of the row in the registers.
pub mod Operands
-- what a row's sources are read from: the registers of both lists, the words of the cell that was read, the innermost fork's boxes, and the
pub mod Origins
-- where the wires of the row's pointers stand in the module, and how wide they are declared.
pub mod Placed
-- the wires of slots: both lists after the row, the boxes of a fork that it opens, the words of its new cell, and what is looked at next.
pub mod Pointers
-- the row in the registers is one that the module has, so its fields fit, and its sources and operands are among those of each slot.
pub mod Rows
-- one of some expressions, by a field that tells its place: so a slot is the pointer of its row's source.
pub mod Slots
-- the pointer of a source, from the registers and wires that it is read from.
pub mod Sources
-- a vector that is made of pointers, the first one lowest, above another number.
pub mod Vectors
-- the memory of cells after a row, and the cell that is read for the next one.
pub mod Cells
-- the open forks after an edge: their memories, how many there are, and what was read of the innermost one.
pub mod Deeds
-- the open forks after the row in the registers is made: those of the rows' circuit.
pub mod Forks
-- all that the row in the registers makes, in the wires of the module.
pub mod Made
-- the count of moves: its lower half at an edge, and a carry into its upper half at the next one.
pub mod Counts
-- what was found once all has settled: each found field is that of the row of the key and of what is seen there.
pub mod Finding
-- what is declared of items that stand in a module, and what their wires are; and so of the unit of numbers and of the count of moves.
pub mod Units
-- the edge at which the run begins: the registers stand for the start.
pub mod Reset
-- what an edge at which the run begins leaves in each register, told by the part of the clock's block that assigns to it.
pub mod ResetClock
-- what is looked at next: the wire that the next row is found by, and the cell that is read.
pub mod Reading
-- whether there is room for what a row makes.
pub mod Rooms
-- the value behind an edge: it stays, the unit tells it, or the row does; and whether it was written.
pub mod Worth
-- what the row in the registers makes
pub mod Row
