-- What the numbers of a table are asked.
pub mod Within
-- A table at some numbers of its ports.
pub mod At
-- A net of which some numbers come by ports.
pub mod Ports
-- A circuit with numbers for keys and shapes.
pub mod Put
-- What numbers do.
pub mod Laws
-- What is asked of a table and its module.
pub mod Runs
