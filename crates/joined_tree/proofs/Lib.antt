-- parts of the module
pub mod Whole
