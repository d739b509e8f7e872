-- What a reader has to believe, in this order: the tree.
pub mod Tree
-- What it means: settling and one edge.
pub mod Meaning
-- Which trees are modules that a tool takes, and that mean it.
pub mod WellFormed
-- Its text.
pub mod Print
-- The text of a list of bytes.
pub mod Names
-- The views: which tree each tree of the code stands for.
pub mod Views
-- Lists of bits as numbers.
pub mod Bits
-- Items that stand in a tree, and what they declare.
pub mod Items
-- The laws of trees: their statements.
pub mod Laws
-- A module that the prover computes: the statements of `law_example_module`.
pub mod Example
