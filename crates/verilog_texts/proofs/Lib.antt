-- pieces of a text: digits, names, signs
pub mod Pieces
-- a reader of expressions
pub mod Reader
-- it reads what is printed
pub mod Exact
-- a reader of statements
pub mod Blocks
-- it reads what is printed
pub mod Printed
-- how statements are grouped changes no meaning
pub mod Grouped
-- a reader of modules
pub mod Modules
-- it reads what is printed
pub mod Whole
-- what well-formed modules have
pub mod Facts
-- so what prints alike means one thing
pub mod Meanings
-- the examples
pub mod Examples
