-- What a module holds from edge to edge.
pub mod Course
-- Which names are shown, and as what.
pub mod Shown
-- The text that tells both.
pub mod Dump
-- The laws of that text: their statements.
pub mod Laws
-- What the code's own values stand for.
pub mod Views
-- Parts of the course that private functions speak of.
pub mod Parts
