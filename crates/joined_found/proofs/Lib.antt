-- what holds of each
pub mod Eaches
-- numbers below the most that rows have
pub mod Bits
-- fields have room for their numbers
pub mod Fits
-- what a row's statement sets
pub mod Sets
-- the row of what is seen at a key
pub mod Seen
-- the arm of a key
pub mod Arms
-- the rows at a key
pub mod Keys
-- the names of what is found
pub mod Names
-- the row that is found
pub mod Finds
-- rows of entries land
pub mod Lands
