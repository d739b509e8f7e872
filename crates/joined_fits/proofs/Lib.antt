-- lists of rows that are short, and others
pub mod Lists
-- numbers of 64 bits
pub mod Literals
