-- Rows with their waits go along with the rows.
pub mod Laws
