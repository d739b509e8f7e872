-- texts that a check finds the same are one
pub mod Same
-- what a check of a row tells
pub mod Told
-- what a run of the processor always has
pub mod Waits
-- what the registers have after a row
pub mod Lands
-- what a row begins with
pub mod Fits
-- a row that begins with one value
pub mod OneValue
-- a row is as many moves of the processor
pub mod Step
-- a circuit of some room does what the rows do
pub mod Room
-- so many cycles
pub mod Follow
-- a list of right rows is a right table
pub mod Listed
-- how many cycles there are
pub mod Time
-- the number of a key tells it
pub mod Numbers
-- what the memory has at reset doesn't matter
pub mod Memory
