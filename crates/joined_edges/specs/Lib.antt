-- What a reader has to believe: rows with their waits, and no registers.
pub mod Timed
-- What the registers stand for.
pub mod Stands
-- What the row in the registers makes.
pub mod Row
