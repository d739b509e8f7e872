-- the headline, for whoever reads nothing else
pub mod Headline
-- the same for a call of a function
pub mod CallHeadline
-- and for a circuit
pub mod CircuitHeadline
-- what a call comes to over the files of the system and two writers, by the bytes that were read and those that were taken
pub mod OnSystem
-- everything outside, in a call: what is seen of it before and after, and when nothing of it failed
pub mod Calls
-- what a reader has to believe: the promise, what comes of a job, what may be said of files, and how texts are written
pub mod Promise
-- What a job makes of files: its output, or the fault for which it refuses them, and which reads it makes.
pub mod Verdicts
-- What may be said of the bytes of a file by what is seen of it, and which reads load one.
pub mod FilesSeen
-- What the files say of the programs of a list: what is told of each, how each ends, whether one is lacked, and which reads are made.
pub mod ListsSeen
-- How a text is written to a sink, and by which writes.
pub mod Writes
-- what serves proofs and private contracts
pub mod Answers
-- What is written of an answer, and the status that tells it.
pub mod Delivers
-- What one turn of loading does to the bytes that were loaded before it.
pub mod Loads
