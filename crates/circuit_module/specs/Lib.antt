-- What a reader has to believe, in this order: how many bits tell so many things apart.
pub mod Sizes
-- Assignments, and the parts of a value.
pub mod Fixed
-- Values in registers.
pub mod Stands
