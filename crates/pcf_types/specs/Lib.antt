-- Definitions that the public contracts cite: what the checker answers.
pub mod Checking
-- What the laws measure it by: which term a tree stands for, that its numbers are values, and the statements themselves. The typing
-- relation is `pcf_values`'s.
pub mod Numbers
-- Which term a tree with names stands for, in the subject's own words.
pub mod Resolution
-- What the definition of scope and types is worth: it accepts just the trees that stand for a typed term, and gives that term and its type.
pub mod Correct
-- For private contracts and proofs only: what they see of scopes and of types that are made while the tree is gone over.
pub mod Views
