-- Lists of numbers whose last one grows, and the places of a list.
pub mod Lists
-- Each step of an end keeps the rule: first at a view that is written out, and at the end of the file at a view that is known to be a
-- writer's or a reader's.
mod Steps
-- What an end keeps after a step of its own.
mod Ends
