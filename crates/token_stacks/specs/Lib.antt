-- What public contracts cite, and a reader has to believe, in the order to read it: signatures and stacks, the rows of the calls, stacks
-- as words, their order, and the laws.
--
-- What a token carries: signatures, symbols, and its two stacks.
pub mod Signatures
-- Both stacks of a token in one value, as contracts see them.
pub mod Loads
-- The table of the calls on both stacks, a row for each call that wants a shape.
pub mod Rows
-- Stacks as words: the numbers that stand for a stack, one after another, from its bottom to its top.
pub mod Words
-- A work stack as words.
pub mod WorkWords
-- Stacks as text, top first.
pub mod Texts
-- Box stacks in order: as their words from the bottom, compared as texts are.
pub mod Order
-- What holds of stacks, their words and their order, whatever code keeps them.
pub mod Laws
-- How the logic stores signatures and stacks, so that models can have them. It says nothing of them.
pub mod Codes
-- What private contracts and proofs use alone: how words are read, both stacks in one list, and parts of a list that change places.
--
-- The stack that words stand for.
pub mod Reading
-- Both stacks in one list of words, what stands on top of each, and rows for a symbol's word and a signature's mark.
pub mod Tops
-- Parts of a list that change places, and words of a list that are written.
pub mod Parts
-- What the code of texts speaks of: either stack as a list of symbols, the symbol on top, and what is still to be written of a signature.
pub mod Printing
