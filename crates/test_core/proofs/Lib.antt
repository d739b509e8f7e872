-- A term as high as a test's has a net that is small enough.
mod Heights
-- One entry after a change of the table of forks.
mod KeyByKey
-- What a row leaves was reached in so many moves.
mod Reaching
