-- two neighbouring rows of workers that go home are one row
pub mod Rows
