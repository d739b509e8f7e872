-- what statements of the clock write of one name
pub mod Fires
-- names that are apart
pub mod Offs
-- groups of registers
pub mod Groups
-- the edge, part by part
pub mod Clock
-- each register and memory
pub mod Registers
-- fields, lists and what is held
pub mod Fetched
-- each register by its part
pub mod Parts
