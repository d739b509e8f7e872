-- The report of a run that tells neither its schedule nor its tally is short.
pub mod Brief
-- What comes of a text is settled by its bytes: it is one program or has one fault, and a task ends on it with one status; and so it is
-- with a schedule.
pub mod Outcomes
-- The report that is made of a run of a program's net.
pub mod RunReports
-- The report that is made of a run in rounds.
pub mod Spanned
-- The reports that are made of a run with the newest question first, and of what a circuit needs.
pub mod Counted
-- The text of a function's circuit, as the code makes it of the function's net.
pub mod Circuits
-- What the run of a program's circuit tells.
pub mod CircuitRuns
-- The reduction of a tree as the output for its text, and what it is worth.
pub mod Reduced
-- `run` and `steps` of one text come to one value.
pub mod Agreeing
-- What a schedule that was run on a program's net says of the program.
pub mod Replayed
-- The run of the generated program of a number is that of its term, and the program has no fault.
pub mod Generated
-- How long the lines of refusals are, and the reports of runs that tell neither schedule nor tally.
pub mod Short
-- From the faults of a program's text to those of a task, and from the report on a tree's type to that on its text's.
pub mod Texts
-- A call of a function has one status on a text or one fault.
pub mod Functions
-- What is printed of Verilog for a text ends with one status, or the text has one fault.
pub mod Printed
-- why what comes of a text is settled by its bytes, seen from outside
mod Settling
