-- What is looked at where a row leads.
pub mod Looks
-- Rows of which all that is asked is true.
pub mod Keeps
