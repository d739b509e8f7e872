-- what a reader has to believe: the last number of a list
pub mod Last
-- what is seen of a writer and a reader
pub mod Meters
-- the rule of the word, and the law that each step keeps it
--
-- The rule of a meter's word, over the word and the views of all ends, and what each step tells the end that makes it.
pub mod Rule
-- Which steps the ends of a meter make, and that each of them keeps the rule.
pub mod Steps
-- what serves the code's types only
pub mod Codes
