-- what the code's fields, names and widths stand for
pub mod Views
-- statements one after the other, and parts of the module
pub mod Parts
