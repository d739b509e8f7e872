-- What public contracts cite, and a reader has to believe, in the order to read it: the meaning by value, the translation, and the
-- faults.
pub mod ByValue
-- The translation of call by value into call by name, by continuations.
pub mod Translation
-- Why a program is refused by value, and which fault is told where there are several.
pub mod Faults
-- The statements that the crate is for, and the terms that they speak of.
pub mod Accepted
-- What the translation by continuations is worth, and what holds of the meaning by value and of the faults.
pub mod Laws
-- Meanings, translations and faults of some programs, which the prover computes.
pub mod Examples
-- For private contracts and proofs only: what they see of binders and types while a translation is made.
pub mod Scan
-- What private contracts see of the translation while it is made.
pub mod Views
