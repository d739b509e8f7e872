-- names of the module in classes
pub mod Names
-- what is declared
pub mod Own
-- groups of names, and what is known where they are declared
pub mod Groups
-- names of slots and fields, and the groups of the module
pub mod Counted
-- expressions of slots and operands
pub mod Exprs
-- the block that finds a row is right
pub mod Found
-- the layers of the module, and what is declared after each
pub mod States
-- the block of the clock
pub mod Clock
-- what settles is in order
pub mod Ordered
-- the limits of the module
pub mod Limits
-- numbers that fit
pub mod Fits
-- each layer within the limits, and the laws
pub mod Formed
