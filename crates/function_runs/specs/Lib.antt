-- what a reader has to believe: which texts are functions of numbers, and the first faults of those that are none
pub mod Functions
-- that a call is the run of a text
pub mod Laws
-- the fault of a program that isn't a function of so many numbers
pub mod Misfit
-- what a function keeps
pub mod Ready
-- how a function's value is coded
pub mod Codes
