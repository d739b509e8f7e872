-- the numbers of a table's keys and shapes, and where names' pointers come from
pub mod Views
