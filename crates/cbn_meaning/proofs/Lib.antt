-- Closed terms put for all variables at once.
pub mod Close
-- More depth keeps a result.
pub mod Depth
-- What each derivation was made of, and that derivations and evaluation give the same results.
pub mod Derived
-- The meaning of some programs, computed.
pub mod Examples
-- Head steps of a term, and that a term has one value.
pub mod Head
-- What keeps the type of a closed term: more context, substitution, a step at the head, and evaluation.
pub mod Keeps
-- A term has one derivation's size and one result.
pub mod Same
