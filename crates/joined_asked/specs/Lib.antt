-- What is asked of one row.
pub mod Parts
