-- how many bits are enough
pub mod Sizes
-- values in 65 bits
pub mod Values
-- the constants of a program's net
pub mod Constants
