-- A tree that stands for a typed term is accepted; both the term and the type are unique.
pub mod Complete
-- The binder that is looked up is the nearest one of the name.
pub mod Nearest
-- Want of memory is no answer of the definition.
pub mod NoMemory
-- The place of a tree of the code.
pub mod Places
-- The definition's test of two types is equality.
pub mod SameTypes
-- The term has the tree's number of nodes and its height.
pub mod Sizes
-- What is accepted is the term that the tree stands for, with a type that it has.
pub mod Sound
-- What each step of the definition was made of where it gave a term.
pub mod Steps
