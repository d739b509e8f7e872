-- In the order to read it: the line of one step, the text of a whole reduction, and what the text is worth.
pub mod Lines
-- How far a reduction goes within its limits, and its text.
pub mod Courses
-- The text of a term's reduction.
pub mod Texts
-- What holds of such a text: statements over every term, each the contract of a function.
pub mod Laws
