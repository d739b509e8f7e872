-- a table that the check takes
pub mod Tables
-- the start of a table
pub mod Starts
-- its edges
pub mod Edges
-- what it tells
pub mod Tells
-- programs
pub mod Programs
