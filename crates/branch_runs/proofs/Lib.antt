-- a branch grows by walks and by steps of its own
pub mod Grown
-- a branch that is put into a state
mod Placed
