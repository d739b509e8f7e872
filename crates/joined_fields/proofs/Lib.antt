-- statements one after the other
pub mod Blocks
-- the arms of keys, from the last one on
pub mod Arms
-- widths of a table whose lists are short
pub mod Narrow
