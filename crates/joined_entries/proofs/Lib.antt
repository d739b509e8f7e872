-- pointers of names that aren't given, and numbers that are ports
pub mod Parts
-- rows by how they end
pub mod Ways
