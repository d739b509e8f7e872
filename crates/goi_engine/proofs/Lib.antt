-- loading: what one read adds to what was loaded, and which reads were made
pub mod Loading
-- what was loaded of a file says all that its bytes say, although no more than its limit and one byte is read
pub mod LoadedFiles
-- from the answers to a job's files to the answer to the job
pub mod Answered
-- the same for a list and the programs of its lines
pub mod Lists
-- a job has one output or one first fault, by the laws of the crates below
pub mod Settled
-- a text is written piece by piece
pub mod Writing
-- a right answer that is delivered keeps the promise
pub mod Kept
-- what a promise says of a job with one file, and that a run comes to one thing alone
pub mod Coming
-- the headline follows from the promise
pub mod Headlines
-- and that of a call
pub mod CallHeadlines
-- and that of a circuit
pub mod CircuitHeadlines
-- over the files of the system the promise speaks of the bytes that were read
pub mod Systems
