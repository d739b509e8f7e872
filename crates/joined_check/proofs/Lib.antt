-- The rows of a net with ports.
pub mod Ported
-- The front of a list, and what moves come to.
pub mod Steps
