-- What an answer finds at an entry, and what the table is afterwards.
pub mod Arrivals
-- How the logic stores entries and their keys, so that a type whose value is a map of them can have a model.
pub mod Codes
-- Entries of open forks, and their keys.
pub mod Entries
-- A table into which listed entries are put, or from which they are taken.
pub mod Filling
-- Open entries as a list: each with its key, in the order of keys.
pub mod Listed
-- How the code keeps the table: a map from nodes to maps from box stacks to what is kept, and the one finite map that it is seen as.
pub mod Nested
