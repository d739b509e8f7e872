-- the first line of a text by its length: what `cut_line` cuts
pub mod Scans
-- lines that are joined are split again, and a text is its lines joined
pub mod Lines
-- a line that isn't the last one
pub mod Ends
-- lists of lines that are equal have equal first lines, and equal lines behind them
pub mod Firsts
-- digits in front of other bytes are found, and they are a number exactly when they spell one
pub mod Numbers
-- numbers that are counted digit by digit, up to the bound
mod Counts
