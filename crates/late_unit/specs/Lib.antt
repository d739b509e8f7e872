-- What a reader has to believe: what the unit of numbers works at, told by its registers.
pub mod Works
-- The statements of the laws.
pub mod Laws
