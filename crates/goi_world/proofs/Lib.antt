-- looking up the first file with a name, for the laws on files in memory
pub mod Lookups
