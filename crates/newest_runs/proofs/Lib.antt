-- what a step does is what the processor's move does
pub mod Turns
-- one move more
pub mod Going
