-- what a reader has to believe: what is printed, programs and their faults, what is done with each, and the lines of refusals
pub mod Outputs
-- The faults of programs' texts among all the faults that a task may meet.
pub mod Programs
-- Which bytes are the listing of a program's net, and what is the first fault of those that aren't.
pub mod NetFiles
-- What is done with the text of one file.
pub mod Tasks
-- A call of a text's function at numbers.
pub mod Calls
-- What is printed of Verilog for a text: its circuit, or a bench for it.
pub mod Verilogs
-- What is told on the error output behind a report: nothing, or how many moves were counted while the run went on.
pub mod Notes
-- A run of a program: which report it has, and with which status it ends.
pub mod RunReports
-- What a run in rounds says of a program, and its report.
pub mod Rounds
-- The reduction of a program as an output, and what it says of the program.
pub mod Reductions
-- A run of a program's circuit: what it says of the program, and its report.
pub mod Circuits
-- What a program's circuit needs, and the run with the newest question first: what each says of the program, and its report.
pub mod Needs
-- A schedule that is run on the net of a term: what it came to, which report it has, and the first fault of one that can't be run.
pub mod Replaying
-- Which line stands for each refusal, and with which status it ends.
pub mod Refusals
-- What comes of a text is settled by its bytes: it is right and ends with one status, or it has one fault.
pub mod Settles
-- What `run` and `steps` say of one text: both tell one value.
pub mod Agreement
-- What contracts see of the code's report.
pub mod Seen
-- What a run of a text comes to, without its report.
pub mod Told
-- What a call gives back to a caller that isn't written in Rattle: a status, a text in the caller's buffer, and how long that text is.
pub mod Backs
-- What a run came to, as numbers.
pub mod Numbers
-- The tasks for which the numbers of calls ask.
pub mod Asked
-- what serves proofs and private contracts
pub mod Stops
-- What is given back of a task's result.
pub mod Giving
-- What the calls inside say of a part of a task.
pub mod Parts
