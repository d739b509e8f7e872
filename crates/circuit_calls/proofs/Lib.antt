-- one part more behind the others
pub mod Each
