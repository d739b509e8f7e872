-- the parts of a job line are found where they are, and nowhere else
mod ListLine
-- the first fault of lines, and what they stand for, line by line
mod ListRead
-- bytes are read in one way at most
mod OneList
