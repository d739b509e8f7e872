-- what a reader has to believe: programs and their faults, what a run of a text's program is, and what is always true of both
--
-- Which texts are programs that can be run or looked at, and what is the first fault of one that isn't.
pub mod Programs
-- What a program means and what runs for it, by name or by value; what a run says of it; and what is a run of it.
pub mod Runs
-- A run of a text's program: its answer, or none within the budget, with the log of its moves, and what they say of the program.
pub mod RunsText
-- What is always true of programs and of their runs.
pub mod Laws
-- Values and lengths of some programs by name and by value.
pub mod Examples
-- What some texts mean, from their bytes to their values.
pub mod ExampleTexts
-- why there is no run, and the nets on the way to one
--
-- Why a text has no run: memory ran out, which may come at any time, or the text has a fault.
pub mod NoRuns
-- The nets on which programs run: that of a text's term, and that of its translation by value.
pub mod Nets
