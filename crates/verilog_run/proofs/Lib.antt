-- names as bytes and as texts
pub mod Texts
-- what a table holds after a number was put into it
pub mod Putting
-- what an assignment to a word writes
pub mod Placing
-- what statements and items do, by what their parts do
pub mod Stepping
-- what tables say of the names that items declare
pub mod Noting
