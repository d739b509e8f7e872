-- a text is the same as itself
pub mod Self
-- a row is found by numbers
pub mod Found
-- the values that it comes to
pub mod Values
-- the pointers that it makes
pub mod Pointers
-- a row made of numbers
pub mod Rows
-- so many rows
pub mod Clocks
-- what a row reads is there
pub mod Needs
-- a row that is found finds it
pub mod There
-- rows at other numbers of the ports
pub mod Ports
-- a net at other numbers
pub mod Exchanged
-- a run from the start on
pub mod Runs
