-- Definitions that the public contracts cite, in the order to read them: tokens and how they are spelled, the grammar, which tokens
-- stand for which tree and which fault is their first, and what bytes are by that.
pub mod Tokens
-- How tokens are spelled, by the characters of a text, and how a text splits into them by the longest match.
pub mod Spelling
-- The grammar of programs.
pub mod Grammar
-- What a list of tokens stands for, and the first fault of one that is no program.
pub mod Text
-- What `read_program` answers: which tree bytes stand for, and which fault is their first.
pub mod Correct
-- How trees are printed.
pub mod Printed
-- What the call and the laws say besides: the fault that is answered where memory may run out, how large those trees are that were read,
-- what is left of one without its places, and the statements themselves.
pub mod Answered
-- How large a tree is that was read: what the crates above need to know of every program.
pub mod Sizes
-- What is left of a tree without its places: a tree that is printed and read back has others.
pub mod Placeless
-- What the crate is for, beside what its calls answer: laws over texts and trees.
pub mod Laws
-- Texts with their trees, a case for each keyword and each sign.
pub mod Examples
-- For private contracts and proofs only: the states of a reading, the reading of a list of tokens and of what is left of a text, the
-- tokens of a text character by character, and the views of the crate's own tokens.
pub mod Machine
-- The machine over a list of tokens, with the limits: the tree, or the first fault.
pub mod Scan
-- What a reader has left, and what a function that reads a part of it gives.
pub mod Rest
-- The tokens of a text, from left to right, one character a step.
pub mod Lexing
-- The views of the crate's own tokens and parts: what contracts see of them.
pub mod Seen
