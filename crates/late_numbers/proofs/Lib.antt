-- what the quarters come to
pub mod Quarters
-- products, bit by bit
pub mod Products
-- a cycle of one, wherever it is
pub mod OneBit
