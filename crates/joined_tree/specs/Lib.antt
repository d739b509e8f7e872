-- parts of the module
pub mod Parts
