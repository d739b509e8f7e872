-- what a reader has to believe: the generated program
pub mod Demo
-- the text of the generated program
pub mod Text
-- what is proved of it
pub mod Laws
