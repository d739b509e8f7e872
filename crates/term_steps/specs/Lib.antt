-- In the order to read it: the step and the sequence of steps, and the laws.
--
-- What a step does with the values that terms spell.
pub mod Spelled
-- Call by name, one step after the other, and the sequence of steps.
pub mod Steps
-- The same step as rules of inference, as a book on semantics writes them: what is rewritten, and where.
pub mod Rules
-- The step on terms with names, as they are read and printed.
pub mod Names
-- The part that is rewritten next, and where it begins in the printed term: behind which of its bytes.
pub mod Redex
-- What the steps are worth: statements over every term, each the contract of a function.
pub mod Laws
