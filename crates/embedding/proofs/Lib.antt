-- which line comes of a run, and which of a fault
mod Lined
-- how moves by hand add up, and what they say of the program
mod Walking
