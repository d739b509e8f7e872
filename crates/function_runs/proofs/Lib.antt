-- numbers that are exchanged one after another are exchanged all at once
pub mod Numbering
-- what a call comes to: the net with the numbers in their places is that of the application
pub mod Calling
-- a term at zeros, and the size of its net
pub mod Zeros
-- from a tree and its faults to its text
pub mod Judged
-- a tree applied to numbers, and its texts
pub mod Trees
-- how many numbers a function takes, by its type
pub mod Counts
-- a text is one function, or has one first fault
pub mod OneFunction
-- one worker has one run, and a text one term
pub mod SameRun
