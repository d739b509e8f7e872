-- what is printed for a text, and where a fault is
--
-- What is printed for a text: three lines, of which each says what the text's program comes to, by another way into the machine, or that
-- the text is refused, with the place of its first fault.
pub mod Lines
-- The place of a fault in its text, if it has one.
pub mod Places
-- what serves private contracts
pub mod Hands
