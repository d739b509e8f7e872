-- parts of what is asked of a table
pub mod Parts
