-- What is told of the runs of judged programs is what is told of the programs.
pub mod Ends
-- What is told of a program is settled by its text and its budget, and so is how it ends.
pub mod One
-- The jobs and the marks of programs, one program after another.
mod Sorted
