-- what a reader has to believe: the table of commands with the command line that it makes, and what words ask for at it
--
-- What is found of a command's arguments.
pub mod Findings
-- The table of commands, and the command line, as the argument of `clap`'s definition.
pub mod Commands
-- What a list of words asks for.
pub mod Asked
-- plain words, and what they ask for
pub mod Plain
-- the laws
pub mod Laws
-- what an error of `clap` comes to
pub mod Faults
-- what the code has on the way: for proofs alone
pub mod Growing
