-- what a reader has to believe: names and numbers as trees have them
pub mod Small
-- what holds of texts
pub mod Laws
-- cases that the prover computes
pub mod Examples
