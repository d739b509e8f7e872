-- what a reader has to believe: the lines, the reports that they make, and the tally
--
-- The two lines that every report of a run has: what it came to, and how many moves it made.
pub mod Lines
-- The reports, as their bytes.
pub mod Reports
-- A tally as lines: the count of each worker, from worker 0 on, and then the finisher's.
pub mod Tallies
-- The report of a run in rounds.
pub mod Spans
-- The report of a circuit's run.
pub mod Cycles
-- The report of what a program's circuit needs.
pub mod Needs
-- which logs are those of so many workers, and the line of a count by whether it is the last one
pub mod Booked
-- what can be said of a report where nothing is known of the bytes that it is about
pub mod Forms
-- the laws, and the rows that they compute
--
-- What holds of all reports.
pub mod Laws
-- Reports with their texts: each kind, with and without what may be asked for.
pub mod Rows
