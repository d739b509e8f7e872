-- what a reader has to believe: the lines of a text, and which digits are a number
--
-- The lines of a text, and the line that ends one.
pub mod Lines
-- Numbers in decimal, as digits without leading zeros; 0 is `0`.
pub mod Numbers
-- what the contract of `number_in` speaks of as well, and no promise of the program needs
pub mod Digits
-- what serves the code's inner calls only
pub mod Scanning
