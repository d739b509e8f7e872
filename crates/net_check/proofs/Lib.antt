-- How often the nodes name a wire, counted node by node and capped.
mod Counting
-- The least number that isn't held: by the counts of the wires, and by the least number past the list.
mod Looking
-- A node meets its row exactly when it meets both halves of it, that of kinds and types and that of depths.
mod Meeting
-- From what was looked at to soundness, and from a fault to unsoundness; a net has one first fault at most.
mod Verdict
