-- How the code's channels and rows are seen.
pub mod Views
