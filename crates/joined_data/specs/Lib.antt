-- which row each row of the code stands for
pub mod Views
-- fields and measures of rows
pub mod Figures
