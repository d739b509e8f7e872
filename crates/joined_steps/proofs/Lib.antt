-- the registers before and after all has settled
pub mod Kept
-- stores with the same registers
pub mod Same
-- the module's edge
pub mod Module
-- whether the row rests
pub mod Says
-- an edge without a start
pub mod Edge
-- value, moves and ports
pub mod Values
-- the row in the registers
pub mod Row
-- edges at which a run has ended or is full
pub mod Ends
-- a row that rests
pub mod Rested
-- the value of a row
pub mod Worths
-- a row that is made
pub mod Acted
-- the row that is found next
pub mod Next
-- the cell that was read
pub mod CellHas
-- a row that waits
pub mod Wait
-- the start
pub mod Starts
-- what the registers stand for without the ports
pub mod SameStands
-- every edge
pub mod Step
