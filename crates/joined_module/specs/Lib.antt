-- The table as a module takes it.
pub mod Rows
-- Names that depend on the table.
pub mod Names
-- Its rows as fields.
pub mod Fields
-- Ports for arguments.
pub mod Ports
-- The unit of numbers.
pub mod Unit
-- The module.
pub mod Module
-- What it does, row by row.
pub mod Machine
-- Which tables fit it.
pub mod Fits
