-- the keys of entries: their test and their order
pub mod Keys
-- the map of maps and the finite map answer alike, and change alike
pub mod Nesting
-- the two have the same entries in the same order
mod Rising
-- a table into which another's entries are put
mod Filling
