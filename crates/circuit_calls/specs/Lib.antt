-- Texts by their lines and by their parts.
pub mod Lines
-- The text of the module by which a circuit is called: what a reader has to believe.
pub mod CallText
-- The text of a bench: what a reader has to believe.
pub mod BenchText
