-- what a reader has to believe: a log and its tickets, which bytes are the text of which tickets and which fault is the first, the text
-- that is printed, the tally of a log's workers
--
-- The entries of a log: their tickets, and by whom the moves were made.
pub mod Logs
-- Which bytes are the text of a schedule, and which fault of other bytes is the first.
pub mod Schedules
-- The text of a schedule in version 2: its tickets as longest runs of one ticket, a line a run.
pub mod Runs
-- The tally of a log: how many of its moves each worker booked.
pub mod Tally
-- the laws, and the rows of texts with what they are read as
--
-- What holds of schedule texts, of tallies, and of the runs that a log is kept as.
pub mod Laws
-- Texts with what they are read as.
pub mod Rows
-- how a text is read line by line: what laws and the code's inner calls speak of
pub mod Reading
-- What contracts see of a log: its entries and its room, and what the calls on a log make of these.
pub mod LogsSeen
-- The runs that a log is kept as.
pub mod KeptRuns
-- A word that has two numbers in it.
pub mod Packed
