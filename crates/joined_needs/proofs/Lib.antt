-- a circuit makes the edges that were counted, as far as it has room
pub mod Exact
-- lists of pointers, cells and forks
mod Lists
-- what a row makes
mod Making
-- one edge more, and the end
mod Counting
