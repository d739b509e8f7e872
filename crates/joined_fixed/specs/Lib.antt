-- parts of a module's tree that no table changes
pub mod Parts
