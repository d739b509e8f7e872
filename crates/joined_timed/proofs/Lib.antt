-- each row finds what it reads
pub mod Right
-- how many edges there are
pub mod Bound
-- from the start on
pub mod Runs
