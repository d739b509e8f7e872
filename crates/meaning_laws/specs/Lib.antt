-- what a reader has to believe: terms put for an index, also such as aren't closed
pub mod Put
-- terms with a hole
pub mod Contexts
-- the equations
pub mod Equations
-- terms in which no `fix` stands
pub mod NoFix
-- what holds of them
pub mod Laws
-- cases that the prover computes
pub mod Examples
