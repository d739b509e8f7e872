-- The files in the order in which they build.
-- The text of one depth more
pub mod Steps
-- The phrase of the grammar that the text is written by
pub mod Phrases
-- The text splits into the tokens of the phrase
pub mod Splitting
-- The limits of the text and of its tokens
pub mod Limits
-- The tree is typed, and the laws
pub mod Typed
