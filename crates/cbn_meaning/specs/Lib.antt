-- What public contracts cite, and a reader has to believe, in the order to read it.
pub mod Substitution
-- The call-by-name meaning of a term, by substitution and with a bound on the depth.
pub mod Meaning
-- What the laws speak of: steps at the head, derivations, and the statements themselves.
pub mod HeadSteps
-- Derivations of what a term comes to, with their number of rules.
pub mod Derivations
-- The laws of the meaning, over every term.
pub mod Laws
-- For proofs only: all variables of a term replaced at once.
pub mod Environments
