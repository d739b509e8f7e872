-- The row that is found, and the fields of rows.
pub mod Found
-- The statements of the laws.
pub mod Laws
