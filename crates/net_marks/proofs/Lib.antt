-- The walk over the nodes, from the last one: the nodes that are left, one by one.
pub mod Walking
