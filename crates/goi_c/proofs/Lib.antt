-- why what came of a task, given back, is what the call promises
mod Called
-- why what is told in numbers is the first fault of a text
mod Found
-- why the line of a fault is that of its mark
mod Lines
-- why what is given back of a function's rows is what the call promises
mod ManyRows
-- why a call ends with the status that is due, but for room and memory
mod Owned
-- why a buffer for a line has room for whatever doesn't tell a schedule
mod Roomy
-- why a schedule that is run with its trace is one that is run
mod Walked
