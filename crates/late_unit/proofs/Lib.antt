-- a scope that says what is declared
pub mod Over
-- numbers
pub mod Numbers
-- the unit's wires and registers, told by those before
pub mod Wires
-- what an edge makes of them
pub mod Edges
-- and the laws
pub mod Steps
