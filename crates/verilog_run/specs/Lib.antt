-- What the contents of a module are, as a store of the meaning.
pub mod Held
-- What a table holds.
pub mod Entries
-- What tables say of the names that a module declares.
pub mod Scopes
-- What the clock's blocks are to write.
pub mod Writes
-- Parts of the meaning that private functions speak of.
pub mod Parts
